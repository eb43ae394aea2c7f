-- What holds of the plan of each stage, told of what a rule answers.
use Rattle.std.proofs.Common.{◌≡◌, sym, ap, ◌∙◌, subst}
use Rattle.std.specs.Prelude.{IfOk, Result}
use Rattle.std.proofs.lemmas.Result.{IfOk-weaker}
use Rattle.prefsql_tables.specs.Table.{Tables}
use Rattle.query_meaning.specs.Answers.{kept_rows}
use Rattle.query_meaning.specs.declared.block.Block.{Block}
use Rattle.plan_algebra.specs.Meaning.{MeanTheSame, plan_rows}
use Rattle.plan_stages.specs.Stages.{block_plan, first_plan, only_plan, prefilter_plan, where_plan}
use Rattle.query_meaning.specs.Valid.{IsValidBlock}
use Rattle.plan_algebra.specs.Valid.{IsPlanOf}
use Rattle.plan_algebra.specs.declared.plan.Plan.{Plan}
use Rattle.plan_laws.proofs.StageLaws.{block_means, first_means, only_means, prefilter_means, where_means}
use Rattle.plan_laws.proofs.ValidPlans.{block_valid, first_valid, only_valid, prefilter_valid, where_valid}

module _ (block : Block) (is : IsValidBlock block) where
  -- a plan that means what the block asks for, and that is one of its valid plans
  pub record IsStage (stage : Plan) : Type 0 where
    pub valid : IsPlanOf block stage
    pub means : (tables : Tables) → plan_rows tables block stage ≡ kept_rows tables block

  pub stage_0 : IsStage (first_plan block)
  stage_0 = record { valid = first_valid block is; means = λ tables. first_means tables block is }

  pub stage_1 : IsStage (where_plan block)
  stage_1 = record { valid = where_valid block is; means = λ tables. where_means tables block is }

  pub stage_2 : IsStage (only_plan block)
  stage_2 = record { valid = only_valid block is; means = λ tables. only_means tables block is }

  pub stage_3 : IsStage (prefilter_plan block)
  stage_3 = record { valid = prefilter_valid block is; means = λ tables. prefilter_means tables block is }

  pub stage_4 : IsStage (block_plan block)
  stage_4 = record { valid = block_valid block is; means = λ tables. block_means tables block is }

  pub stage_valid : {E : Type 0} (stage : Plan) → IsStage stage → (r : Result Plan E) → IfOk r (λ p. p ≡ stage) → IfOk r (IsPlanOf block)
  stage_valid stage of r exact = IfOk-weaker r (λ p. p ≡ stage) (IsPlanOf block) (λ p same. subst (IsPlanOf block) (sym same) of.valid) exact

  pub stage_means : {E : Type 0} (stage : Plan) → IsStage stage → (r : Result Plan E) → IfOk r (λ p. p ≡ stage) → IfOk r (λ p. (tables : Tables) → plan_rows tables block p ≡ kept_rows tables block)
  stage_means stage of r exact =
      IfOk-weaker r (λ p. p ≡ stage) (λ p. (tables : Tables) → plan_rows tables block p ≡ kept_rows tables block) (λ p same tables. ap (plan_rows tables block) same ∙ of.means tables) exact

  pub stage_follows : {E : Type 0} (before stage given : Plan) → IsStage before → IsStage stage → given ≡ before → (r : Result Plan E) → IfOk r (λ p. p ≡ stage) → IfOk r (MeanTheSame block given)
  stage_follows before stage given first of given_is r exact =
      IfOk-weaker r (λ p. p ≡ stage) (MeanTheSame block given)
      (λ p same tables. ap (plan_rows tables block) given_is ∙ first.means tables ∙ sym (of.means tables) ∙ sym (ap (plan_rows tables block) same)) exact
