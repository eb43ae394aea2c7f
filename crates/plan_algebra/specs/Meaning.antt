-- What a plan means over a set of tables: the list of combinations that it gives. This is this
-- project's own.
use Rattle.std.specs.Prelude.{◌≡◌, ℕ, Bool, false, Option, Some, None, List, [], ◌∷◌, ◌++◌, map}
use Rattle.std.specs.Prelude.{filter, slice_index}
use Rattle.std.specs.List.{flat_map, list_all, range_with_len}
use Rattle.std.specs.Ordering.{on}
use Rattle.prefsql_values.specs.Truth.{is_true}
use Rattle.prefsql_tables.specs.Table.{Tables}
use Rattle.prefsql_tables.specs.Sight.{Sight}
use Rattle.prefsql_tables.specs.declared.place.Combo.{Combo}
use Rattle.order_laws.specs.Best.{best}
use Rattle.pref_terms.specs.Terms.{grouped_order, shown}
use Rattle.conditions.specs.declared.condition.Cond.{Cond}
use Rattle.conditions.specs.Meaning.{truth}
use Rattle.query_meaning.specs.Answers.{indexes_of, row_counts}
use Rattle.query_meaning.specs.declared.block.Block.{Block}
use Rattle.plan_algebra.specs.Conjuncts.{cond_of}
use Rattle.plan_algebra.specs.declared.plan.Conjunct.{Conjunct}
use Rattle.plan_algebra.specs.declared.plan.Plan.{Plan, fold-Plan}
use Rattle.plan_algebra.specs.declared.plan.Plan.TheOpen.{Plan-F}

-- combinations of the FROM tables from position `first` on
pub record Found : Type 0 where
  pub first : ℕ
  pub combos : List Combo

-- the rows of a table, each by itself
abbrev pub single_rows : ℕ → List Combo
single_rows count = map (λ row. record { rows = row ∷ [] }) (range_with_len 0 count)

-- one combination of each list, in lexicographic order
abbrev pub pairs_of : List Combo → List Combo → List Combo
pairs_of lefts rights =
    flat_map (λ (p : Combo). map (λ (q : Combo). record { rows = p.rows ++ q.rows }) rights) lefts

abbrev pub is_true_at : Sight → Option Cond → Bool
is_true_at sight None = false
is_true_at sight (Some cond) = is_true (truth sight cond)

-- whether the condition at the position is True
abbrev pub holds_at : Block → Sight → Conjunct → Bool
holds_at block sight c = is_true_at sight (cond_of block c)

-- whether each condition is True
abbrev pub all_hold : Block → List Conjunct → Sight → Bool
all_hold block conjuncts sight = list_all (holds_at block sight) conjuncts

-- what a combination of the FROM tables from a position on shows
abbrev pub seen_from : Tables → Block → ℕ → Combo → Sight
seen_from tables block first = shown tables (indexes_of block.from) first

-- one node, with what each plan below it gives in its place
abbrev pub plan_step : Tables → Block → Plan-F Found → Found
plan_step tables block (Plan-F.Scan table) = record {
  first = table;
  combos = single_rows (slice_index (row_counts tables block.from) table);
}
plan_step tables block (Plan-F.Filter conjuncts below) = record {
  first = below.first;
  combos =
      filter (λ combo. all_hold block conjuncts (seen_from tables block below.first combo))
      below.combos;
}
plan_step tables block (Plan-F.Join left right) =
    record { first = left.first; combos = pairs_of left.combos right.combos }
plan_step tables block (Plan-F.Best term groups below) = record {
  first = below.first;
  combos =
      best (on (seen_from tables block below.first) ((grouped_order groups term).better))
      below.combos;
}

unfoldable pub found_by : Tables → Block → Plan → Found
found_by tables block = fold-Plan Found (plan_step tables block)

-- the combinations that a plan gives
abbrev pub plan_rows : Tables → Block → Plan → List Combo
plan_rows tables block plan = (found_by tables block plan).combos

-- both plans give the same combinations over every set of tables
abbrev pub MeanTheSame : Block → Plan → Plan → Type 0
MeanTheSame block a b = (tables : Tables) → plan_rows tables block a ≡ plan_rows tables block b
