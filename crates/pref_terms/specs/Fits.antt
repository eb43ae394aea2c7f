-- Which combinations of rows a term judges: a matter of tables, columns and numbers, and not of
-- what the cells hold.
use Rattle.std.specs.Prelude.{ℕ, ◌≡◌, true, List, All, slice_index}
use Rattle.std.specs.List.{HoldsAt}
use Rattle.prefsql_tables.specs.declared.schema.Column.{Column}
use Rattle.prefsql_tables.specs.declared.place.ColumnPlace.{ColumnPlace}
use Rattle.prefsql_tables.specs.Table.{Tables, columns_of}
use Rattle.prefsql_tables.specs.Sight.{IsInSight}
use Rattle.base_prefs.specs.Kind.{is_explicit}
use Rattle.base_prefs.specs.Rankable.{IsRankable}
use Rattle.pref_terms.specs.declared.term.Leaf.{Leaf}
use Rattle.pref_terms.specs.declared.term.Term.{Term}
use Rattle.pref_terms.specs.Terms.{leaves_of}

-- an EXPLICIT leaf takes only equal values as the same
abbrev pub IsTrivialIfExplicit : Leaf → Type 0
IsTrivialIfExplicit leaf = is_explicit leaf.base ≡ true → leaf.trivial ≡ true

module _ (tables : Tables) (from : List ℕ) (first : ℕ) (rows : List ℕ) where
  -- the leaf's place is in the combination, and its column can be ranked
  pub record LeafFits (leaf : Leaf) : Type 0 where
    pub in_sight : IsInSight tables from first rows leaf.place
    pub rankable : HoldsAt (λ (column : Column). IsRankable leaf.base column.domain column.nullable)
        (columns_of tables (slice_index from leaf.place.table)) leaf.place.column
    pub trivial : IsTrivialIfExplicit leaf

  -- every leaf of the term fits
  pub record LeavesFit (term : Term) : Type 0 where
    pub each : All LeafFits (leaves_of term)

  -- every leaf fits, and every group column is in the combination
  pub record TermFits (term : Term) (groups : List ColumnPlace) : Type 0 where
    pub leaves : LeavesFit term
    pub groups_in_sight : All (IsInSight tables from first rows) groups
