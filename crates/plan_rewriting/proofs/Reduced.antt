-- A plan that is reduced, told of equal parts.
use Rattle.std.proofs.Common.{◌≡◌, ℕ, Option, Some, List, sym, ap, ◌∙◌}
use Rattle.std.specs.Prelude.{IfOk, Result}
use Rattle.std.proofs.lemmas.Result.{IfOk-weaker}
use Rattle.prefsql_tables.specs.declared.place.ColumnPlace.{ColumnPlace}
use Rattle.pref_terms.specs.declared.term.Term.{Term}
use Rattle.query_meaning.specs.declared.block.Block.{Block}
use Rattle.plan_algebra.specs.declared.plan.Plan.{Plan}
use Rattle.plan_stages.specs.Stages.{best_above, table_groups, table_term}
use Rattle.plan_rewriting.specs.Rewrites.{reduced, reduced_by, table_of}

pub reduced_is : {E : Type 0} (block : Block) (p : Plan) (t : ℕ) (o : Option Term) (groups : List ColumnPlace) (r : Result Plan E) → table_of p ≡ Some t → o ≡ table_term block.term t → groups ≡ table_groups block t
    → IfOk r (λ q. q ≡ best_above o groups p) → IfOk r (λ q. q ≡ reduced block p)
reduced_is block p t o groups r table term_is groups_are =
    IfOk-weaker r (λ q. q ≡ best_above o groups p) (λ q. q ≡ reduced block p)
    (λ q is. is ∙ (λ j. best_above (term_is j) (groups_are j) p) ∙ sym (ap (λ u. reduced_by block u p) table))
