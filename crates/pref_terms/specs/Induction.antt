-- Induction on a term, and what a function of terms gives at each variant.
use Rattle.std.proofs.Common.{◌≡◌, subst, sym, ap, ◌∙◌}
use Rattle.pref_terms.specs.declared.term.Leaf.{Leaf}
use Rattle.pref_terms.specs.declared.term.Term.{Term, Pareto, Prior, Dual}
use Rattle.pref_terms.specs.declared.term.Term as term
use Rattle.pref_terms.specs.declared.term.Term.TheOpen.{Term-F}
use Rattle.pref_terms.specs.declared.term.Term.TheFolds.{fold-Term, fold-roll-Term, ind-Term}
use Rattle.pref_terms.specs.declared.term.Term.TheViews.{rolls-Leaf, rolls-Pareto, rolls-Prior, rolls-Dual}

module _ (A : Type 0) (step : Term-F A → A) where
  pub fold-Leaf : (leaf : Leaf) → fold-Term A step (term.Leaf leaf) ≡ step (Term-F.Leaf leaf)
  fold-Leaf leaf = ap (fold-Term A step) (sym (rolls-Leaf leaf))
      ∙ fold-roll-Term A step (Term-F.Leaf leaf)

  pub fold-Pareto : (p q : Term) → fold-Term A step (Pareto p q)
      ≡ step (Term-F.Pareto (fold-Term A step p) (fold-Term A step q))
  fold-Pareto p q = ap (fold-Term A step) (sym (rolls-Pareto p q))
      ∙ fold-roll-Term A step (Term-F.Pareto p q)

  pub fold-Prior : (p q : Term)
      → fold-Term A step (Prior p q) ≡ step (Term-F.Prior (fold-Term A step p) (fold-Term A step q))
  fold-Prior p q = ap (fold-Term A step) (sym (rolls-Prior p q))
      ∙ fold-roll-Term A step (Term-F.Prior p q)

  pub fold-Dual : (p : Term) → fold-Term A step (Dual p) ≡ step (Term-F.Dual (fold-Term A step p))
  fold-Dual p = ap (fold-Term A step) (sym (rolls-Dual p)) ∙ fold-roll-Term A step (Term-F.Dual p)

module _ (P : Term → Type 0) (at_leaf : (leaf : Leaf) → P (term.Leaf leaf))
    (at_pareto : (p q : Term) → P p → P q → P (Pareto p q)) (at_prior : (p q : Term) → P p → P q
    → P (Prior p q)) (at_dual : (p : Term) → P p → P (Dual p)) where
  -- what holds of a leaf, and of a term where it holds of each part, holds of every term
  pub term_induction : (t : Term) → P t
  term_induction = ind-Term P (λ x y is. elim y as (λ z. term.map-Term _ Term (λ e. e.0) z ≡ x
      → P (term.roll-Term x)) [
        | Term-F.Leaf leaf ↦ λ same.
            subst (λ z. P (term.roll-Term z)) same (subst P (sym (rolls-Leaf leaf)) (at_leaf leaf))
        | Term-F.Pareto p q ↦ λ same. subst (λ z. P (term.roll-Term z)) same
            (subst P (sym (rolls-Pareto p.0 q.0)) (at_pareto p.0 q.0 p.1 q.1))
        | Term-F.Prior p q ↦ λ same. subst (λ z. P (term.roll-Term z)) same
            (subst P (sym (rolls-Prior p.0 q.0)) (at_prior p.0 q.0 p.1 q.1))
        | Term-F.Dual p ↦ λ same. subst (λ z. P (term.roll-Term z)) same
            (subst P (sym (rolls-Dual p.0)) (at_dual p.0 p.1))
      ] is)
