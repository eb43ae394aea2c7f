-- What a plan gives over the tables that its block fits, and how many tests that takes. This is
-- this project's own.
use Rattle.std.specs.Prelude.{ℕ, ◌≡◌, ◌+◌, ◌*◌, ◌-◌, ◌^◌, ◌<◌, ◌≤◌, min, List, length, filter, All}
use Rattle.std.specs.Prelude.{slice_index}
use Rattle.std.specs.List.{range_with_len}
use Rattle.std.specs.Ordering.{on}
use Rattle.prefsql_tables.specs.declared.place.ColumnPlace.{ColumnPlace}
use Rattle.prefsql_tables.specs.declared.place.Combo.{Combo}
use Rattle.order_laws.specs.Best.{best}
use Rattle.pref_terms.specs.Terms.{grouped_order, leaves_of}
use Rattle.pref_terms.specs.declared.term.Term.{Term}
use Rattle.query_meaning.specs.Answers.{row_counts}
use Rattle.query_meaning.specs.declared.asking.Asked.{Asked}
use Rattle.query_meaning.specs.declared.block.Block.{Block}
use Rattle.plan_algebra.specs.Meaning.{Found, all_hold, found_by, seen_from}
use Rattle.plan_algebra.specs.Tests.{Tested, tested_by, tests_between}
use Rattle.plan_algebra.specs.Valid.{RanksAt, StandsAt, nodes_of}
use Rattle.plan_algebra.specs.declared.plan.Conjunct.{Conjunct}
use Rattle.plan_algebra.specs.declared.plan.Plan.{Plan}
use Rattle.native_plan.specs.Asking.{sees}
use Rattle.native_plan.specs.declared.finding.FoundRows.{FoundRows}

-- how many rows the FROM table at a position has
abbrev pub rows_at : Asked → ℕ → ℕ
rows_at asked = slice_index (row_counts asked.tables.now asked.block.now.from)

-- what the plan gives over these tables, and its counts of tests
abbrev pub found_in : Asked → Plan → Found
found_in asked = found_by asked.tables.now asked.block.now

abbrev pub tested_in : Asked → Plan → Tested
tested_in asked = tested_by asked.tables.now asked.block.now

-- those of the rows of the plan for which each condition is True
abbrev pub passing_rows : Asked → Plan → List Conjunct → List Combo
passing_rows asked plan conjuncts =
    filter
    (λ combo. all_hold asked.block.now conjuncts
    (seen_from asked.tables.now asked.block.now (found_in asked plan).first combo))
    (found_in asked plan).combos

-- a part of a valid plan, which stands for the FROM tables from a position on without a gap
pub record IsPartOf (block : Block) (plan : Plan) : Type 0 where
  pub first : ℕ
  pub count : ℕ
  pub tables : (nodes_of plan).tables ≡ range_with_len first count
  pub within : first + count ≤ length block.from
  pub conjuncts : All (StandsAt block) (nodes_of plan).conjuncts
  pub bests : All (RanksAt block) (nodes_of plan).bests

-- the condition is one of the block's, over the tables of the plan
abbrev pub StandsOver : Block → Plan → Conjunct → Type 0
StandsOver block plan c = StandsAt block (record { conjunct = c; tables = (nodes_of plan).tables })

-- a count of tests stays at its last value
abbrev pub last_count : ℕ
last_count = 2 ^ 64 - 1

-- the rows of the plan for which each condition is True, by so many tests and steps
pub record IsFoundBy (asked : Asked) (plan : Plan) (conjuncts : List Conjunct) (before after : ℕ)
    (found : FoundRows) : Type 0 where
  pub first : found.first ≡ (found_in asked plan).first
  pub combos : found.combos.items ≡ passing_rows asked plan conjuncts
  pub floor : min (tested_in asked plan).floor last_count ≤ found.tests
  pub bound : found.tests ≤ (tested_in asked plan).bound
  pub least_steps : before + found.tests ≤ after
  pub most_steps : found.tests < last_count → after ≤ before + 8 * found.tests

-- the best of some rows within groups, by so many tests and steps more
pub record IsBestOf (asked : Asked) (term : Term) (groups : List ColumnPlace) (before after : ℕ)
    (below found : FoundRows) : Type 0 where
  pub added : ℕ
  pub first : found.first ≡ below.first
  pub combos :
      found.combos.items
      ≡ best (on (sees asked below.first) ((grouped_order groups term).better)) below.combos.items
  pub tests : found.tests ≡ min (below.tests + added) last_count
  pub floor : length below.combos.items ≤ added + length found.combos.items
  pub bound :
      added
      ≤ tests_between groups (sees asked below.first) below.combos.items found.combos.items
  pub least_steps : before + added ≤ after
  pub most_steps : added < last_count → after ≤ before + added * length (leaves_of term)
