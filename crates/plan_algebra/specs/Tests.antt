-- How many tests of the preference a plan may take, and how many it needs. This is this project's
-- own.
use Rattle.std.specs.Prelude.{ℕ, ◌+◌, ◌-◌, List, length, filter, sum_by}
use Rattle.prefsql_tables.specs.Sight.{Sight}
use Rattle.prefsql_tables.specs.Table.{Tables}
use Rattle.prefsql_tables.specs.declared.place.ColumnPlace.{ColumnPlace}
use Rattle.prefsql_tables.specs.declared.place.Combo.{Combo}
use Rattle.pref_terms.specs.Terms.{is_same_group}
use Rattle.query_meaning.specs.declared.block.Block.{Block}
use Rattle.plan_algebra.specs.Meaning.{Found, plan_step, seen_from}
use Rattle.plan_algebra.specs.declared.plan.Plan.{Plan, fold-Plan}
use Rattle.plan_algebra.specs.declared.plan.Plan.TheOpen.{Plan-F}

-- those of the combinations that are of the group of one
abbrev pub group_of : List ColumnPlace → (Combo → Sight) → List Combo → Combo → List Combo
group_of groups see combos x = filter (λ y. is_same_group groups (see y) (see x)) combos

-- the sum over the groups of the rows in times the rows out: for each row in, the rows out that are
-- of its group
abbrev pub tests_between : List ColumnPlace → (Combo → Sight) → List Combo → List Combo → ℕ
tests_between groups see ins outs = sum_by (λ x. length (group_of groups see outs x)) ins

-- what a plan gives; and over its Bests and their groups the sums of the rows in times the rows
-- out, and of the rows in less the rows out
pub record Tested : Type 0 where
  pub found : Found
  pub bound : ℕ
  pub floor : ℕ

module _ (tables : Tables) (block : Block) where
  abbrev pub tested_step : Plan-F Tested → Tested
  tested_step (Plan-F.Scan table) = record {
    found = plan_step tables block (Plan-F.Scan table);
    bound = 0;
    floor = 0;
  }
  tested_step (Plan-F.Filter conjuncts below) = record {
    found = plan_step tables block (Plan-F.Filter conjuncts below.found);
    bound = below.bound;
    floor = below.floor;
  }
  tested_step (Plan-F.Join left right) = record {
    found = plan_step tables block (Plan-F.Join left.found right.found);
    bound = left.bound + right.bound;
    floor = left.floor + right.floor;
  }
  tested_step (Plan-F.Best term groups below) =
      let see = seen_from tables block below.found.first in
      let found = plan_step tables block (Plan-F.Best term groups below.found) in
      let ins = below.found.combos in
      record {
        found = found;
        bound = below.bound + tests_between groups see ins found.combos;
        floor = below.floor + (length ins - length found.combos);
      }

  unfoldable pub tested_by : Plan → Tested
  tested_by = fold-Plan Tested tested_step
