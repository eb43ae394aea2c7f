-- What the rules do to a plan, node by node. That they lead from each stage to the next is proved.
-- They are this project's own.
use Rattle.std.specs.Prelude.{ℕ, Bool, true, false, nat_eq, ◌||◌, Option, Some, None, List}
use Rattle.std.specs.Prelude.{if◌then◌else◌}
use Rattle.query_meaning.specs.declared.block.Block.{Block}
use Rattle.plan_algebra.specs.declared.plan.Conjunct.{Conjunct}
use Rattle.plan_algebra.specs.declared.plan.Plan.{Plan, fold-Plan}
use Rattle.plan_algebra.specs.declared.plan.Plan as plan
use Rattle.plan_algebra.specs.declared.plan.Plan.TheOpen.{Plan-F}
use Rattle.plan_stages.specs.Placing.{at_join, at_scan}
use Rattle.plan_stages.specs.Separation.{cascade_of}
use Rattle.plan_stages.specs.Stages.{best_above, bests_above, filtered, joins_of, table_groups}
use Rattle.plan_stages.specs.Stages.{table_term}

-- the last of the tables that a plan stands for
abbrev pub last_step : Plan-F ℕ → ℕ
last_step (Plan-F.Scan table) = table
last_step (Plan-F.Filter conjuncts below) = below
last_step (Plan-F.Join left right) = right
last_step (Plan-F.Best term groups below) = below

unfoldable pub last_of : Plan → ℕ
last_of = fold-Plan ℕ last_step

-- the plan with these conditions, each at its lowest node, in place of those that stand in it
abbrev pub placed_step : Block → List Conjunct → Plan-F Plan → Plan
placed_step block conjuncts (Plan-F.Scan table) =
    filtered (at_scan block conjuncts table) (plan.Scan table)
placed_step block conjuncts (Plan-F.Filter old below) = below
placed_step block conjuncts (Plan-F.Join left right) =
    filtered (at_join block conjuncts (last_of right)) (plan.Join left right)
placed_step block conjuncts (Plan-F.Best term groups below) = plan.Best term groups below

unfoldable pub placed : Block → List Conjunct → Plan → Plan
placed block conjuncts = fold-Plan Plan (placed_step block conjuncts)

-- the table of a plan without a join
abbrev pub table_step : Plan-F (Option ℕ) → Option ℕ
table_step (Plan-F.Scan table) = Some table
table_step (Plan-F.Filter conjuncts below) = below
table_step (Plan-F.Join left right) = None
table_step (Plan-F.Best term groups below) = below

unfoldable pub table_of : Plan → Option ℕ
table_of = fold-Plan (Option ℕ) table_step

-- the best rows of a table's plan by the table's part of the preference
abbrev pub reduced_by : Block → Option ℕ → Plan → Plan
reduced_by block None below = below
reduced_by block (Some table) below =
    best_above (table_term block.term table) (table_groups block table) below

abbrev pub reduced : Block → Plan → Plan
reduced block below = reduced_by block (table_of below) below

-- each table that is joined is reduced
abbrev pub prefiltered_step : Block → Plan-F Plan → Plan
prefiltered_step block (Plan-F.Scan table) = plan.Scan table
prefiltered_step block (Plan-F.Filter conjuncts below) = plan.Filter conjuncts below
prefiltered_step block (Plan-F.Join left right) =
    plan.Join (reduced block left) (reduced block right)
prefiltered_step block (Plan-F.Best term groups below) = plan.Best term groups below

unfoldable pub prefiltered : Block → Plan → Plan
prefiltered block = fold-Plan Plan (prefiltered_step block)

abbrev pub is_none : Option ℕ → Bool
is_none None = true
is_none (Some table) = false

-- whether the plan stands for all tables, where it is one below a preference
abbrev pub is_whole : Block → Plan → Bool
is_whole block below = nat_eq (joins_of block) 0 || is_none (table_of below)

-- the preference over all tables is taken apart
abbrev pub split_step : Block → Plan-F Plan → Plan
split_step block (Plan-F.Scan table) = plan.Scan table
split_step block (Plan-F.Filter conjuncts below) = plan.Filter conjuncts below
split_step block (Plan-F.Join left right) = plan.Join left right
split_step block (Plan-F.Best term groups below) =
    if is_whole block below then bests_above (cascade_of term) groups below
    else plan.Best term groups below

unfoldable pub split : Block → Plan → Plan
split block = fold-Plan Plan (split_step block)
