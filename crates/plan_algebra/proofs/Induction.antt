-- Induction on a plan, and what a function of plans gives at each variant.
use Rattle.std.proofs.Common.{◌≡◌, List, subst, sym, ap, ◌∙◌}
use Rattle.prefsql_tables.specs.declared.place.ColumnPlace.{ColumnPlace}
use Rattle.pref_terms.specs.declared.term.Term.{Term}
use Rattle.plan_algebra.specs.declared.plan.Conjunct.{Conjunct}
use Rattle.plan_algebra.specs.declared.plan.Plan.{Plan, Filter, Join, Best}
use Rattle.plan_algebra.specs.declared.plan.Plan as plan
use Rattle.plan_algebra.specs.declared.plan.Plan.TheOpen.{Plan-F}
use Rattle.plan_algebra.specs.declared.plan.Plan.TheFolds.{fold-Plan, fold-roll-Plan, ind-Plan}
use Rattle.plan_algebra.specs.declared.plan.Plan.TheViews as view

module _ (A : Type 0) (step : Plan-F A → A) where
  pub fold-Scan : (table : _) → fold-Plan A step (plan.Scan table) ≡ step (Plan-F.Scan table)
  fold-Scan table = ap (fold-Plan A step) (sym (view.rolls-Scan table)) ∙ fold-roll-Plan A step (Plan-F.Scan table)

  pub fold-Filter : (conjuncts : List Conjunct) (below : Plan) → fold-Plan A step (Filter conjuncts below) ≡ step (Plan-F.Filter conjuncts (fold-Plan A step below))
  fold-Filter conjuncts below = ap (fold-Plan A step) (sym (view.rolls-Filter conjuncts below)) ∙ fold-roll-Plan A step (Plan-F.Filter conjuncts below)

  pub fold-Join : (left right : Plan) → fold-Plan A step (Join left right) ≡ step (Plan-F.Join (fold-Plan A step left) (fold-Plan A step right))
  fold-Join left right = ap (fold-Plan A step) (sym (view.rolls-Join left right)) ∙ fold-roll-Plan A step (Plan-F.Join left right)

  pub fold-Best : (term : Term) (groups : List ColumnPlace) (below : Plan) → fold-Plan A step (Best term groups below) ≡ step (Plan-F.Best term groups (fold-Plan A step below))
  fold-Best term groups below = ap (fold-Plan A step) (sym (view.rolls-Best term groups below)) ∙ fold-roll-Plan A step (Plan-F.Best term groups below)

module _ (P : Plan → Type 0)
    (at_scan : (table : _) → P (plan.Scan table))
    (at_filter : (conjuncts : List Conjunct) (below : Plan) → P below → P (Filter conjuncts below))
    (at_join : (left right : Plan) → P left → P right → P (Join left right))
    (at_best : (term : Term) (groups : List ColumnPlace) (below : Plan) → P below → P (Best term groups below)) where
  -- what holds of a plan where it holds of those below it holds of every plan
  pub plan_induction : (p : Plan) → P p
  plan_induction = ind-Plan P (λ x y is. elim y as (λ z. plan.map-Plan _ Plan (λ e. e.0) z ≡ x → P (plan.roll-Plan x)) [
    | Plan-F.Scan table ↦ λ same. subst (λ z. P (plan.roll-Plan z)) same (subst P (sym (view.rolls-Scan table)) (at_scan table))
    | Plan-F.Filter conjuncts below ↦ λ same. subst (λ z. P (plan.roll-Plan z)) same (subst P (sym (view.rolls-Filter conjuncts below.0)) (at_filter conjuncts below.0 below.1))
    | Plan-F.Join left right ↦ λ same. subst (λ z. P (plan.roll-Plan z)) same (subst P (sym (view.rolls-Join left.0 right.0)) (at_join left.0 right.0 left.1 right.1))
    | Plan-F.Best term groups below ↦ λ same. subst (λ z. P (plan.roll-Plan z)) same (subst P (sym (view.rolls-Best term groups below.0)) (at_best term groups below.0 below.1))
  ] is)
