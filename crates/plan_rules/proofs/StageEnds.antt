-- What each rule answers is the plan of its stage.
use Rattle.std.proofs.Common.{◌≡◌, List, [], ap, ◌∙◌}
use Rattle.std.specs.Prelude.{IfOk, Result}
use Rattle.std.proofs.lemmas.Result.{IfOk-weaker}
use Rattle.query_meaning.specs.declared.block.Block.{Block}
use Rattle.plan_algebra.specs.Conjuncts.{onlys, wheres}
use Rattle.plan_rewriting.specs.Rewrites.{placed, prefiltered, split}
use Rattle.plan_stages.specs.Sinking.{lowered, staying}
use Rattle.plan_stages.specs.Stages.{best_above, block_plan, filtered, first_plan, joined, joins_of, only_plan, prefilter_plan, where_plan}
use Rattle.plan_algebra.specs.declared.plan.Conjunct.{Conjunct}
use Rattle.plan_algebra.specs.declared.plan.Plan.{Plan}
use Rattle.plan_algebra.specs.declared.plan.Plan as plan
use Rattle.plan_rewriting.proofs.StagePlans.{block_from_prefilter, only_from_where, prefilter_from_only, where_from_first}

pub exact_is : {E : Type 0} (r : Result Plan E) (given stage : Plan) → given ≡ stage → IfOk r (λ p. p ≡ given) → IfOk r (λ p. p ≡ stage)
exact_is r given stage same exact = IfOk-weaker r (λ p. p ≡ given) (λ p. p ≡ stage) (λ p is. is ∙ same) exact

module _ (block : Block) where
  pub first_end : (os ws : List Conjunct) (joins candidates best : Plan) → os ≡ onlys block → ws ≡ wheres block → joins ≡ joined plan.Scan (λ table. []) (joins_of block) → candidates ≡ filtered ws joins
      → best ≡ best_above block.term block.groups candidates → filtered os best ≡ first_plan block
  unfolding first_plan
  first_end os ws joins candidates best os_are ws_are joins_are candidates_are best_is =
      (λ j. filtered (os_are j) (best_is j))
      ∙ ap (λ p. filtered (onlys block) (best_above block.term block.groups p)) (candidates_are ∙ (λ j. filtered (ws_are j) (joins_are j)))

  pub filters_end : (os ws : List Conjunct) (given low : Plan) → os ≡ onlys block → ws ≡ wheres block → given ≡ first_plan block → low ≡ placed block ws given → filtered os low ≡ where_plan block
  filters_end os ws given low os_are ws_are given_is low_is =
      (λ j. filtered (os_are j) (low_is j)) ∙ (λ j. filtered (onlys block) (placed block (ws_are j) (given_is j))) ∙ where_from_first block

  pub only_end : (os cs : List Conjunct) (given low : Plan) → os ≡ staying block → cs ≡ lowered block → given ≡ where_plan block → low ≡ placed block cs given → filtered os low ≡ only_plan block
  only_end os cs given low os_are cs_are given_is low_is =
      (λ j. filtered (os_are j) (low_is j)) ∙ (λ j. filtered (staying block) (placed block (cs_are j) (given_is j))) ∙ only_from_where block

  pub prefilter_end : (given : Plan) → given ≡ only_plan block → prefiltered block given ≡ prefilter_plan block
  prefilter_end given is = ap (prefiltered block) is ∙ prefilter_from_only block

  pub split_end : (given : Plan) → given ≡ prefilter_plan block → split block given ≡ block_plan block
  split_end given is = ap (split block) is ∙ block_from_prefilter block
