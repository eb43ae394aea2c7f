-- A Filter is passed through, told of what a call answers.
use Rattle.std.proofs.Common.{◌≡◌, List, sym, ap, ◌∙◌}
use Rattle.std.specs.Prelude.{IfOk, Result}
use Rattle.std.proofs.lemmas.Result.{IfOk-weaker}
use Rattle.query_meaning.specs.declared.block.Block.{Block}
use Rattle.plan_rewriting.specs.Rewrites.{placed}
use Rattle.plan_algebra.specs.declared.plan.Conjunct.{Conjunct}
use Rattle.plan_algebra.specs.declared.plan.Plan.{Plan}
use Rattle.plan_algebra.specs.declared.plan.Plan as plan
use Rattle.plan_rewriting.proofs.PlanReads.{placed-Filter}

module _ (block : Block) (cs : List Conjunct) where
  pub filter_placed : {E : Type 0} (p : Plan) (old : List Conjunct) (below given : Plan) (r : Result Plan E) → p ≡ plan.Filter old below → given ≡ below → IfOk r (λ q. q ≡ placed block cs given) → IfOk r (λ q. q ≡ placed block cs p)
  filter_placed p old below given r is same =
      IfOk-weaker r (λ q. q ≡ placed block cs given) (λ q. q ≡ placed block cs p) (λ q h. h ∙ ap (placed block cs) same ∙ sym (placed-Filter block cs p old below is))
