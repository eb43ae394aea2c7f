-- The rows of a list by their places. This is this project's own.
use Rattle.std.specs.Prelude.{ℕ, ◌<◌, List, [], length, All, slice_index_or}
use Rattle.prefsql_tables.specs.Sight.{Sight, IsInSight}
use Rattle.prefsql_tables.specs.declared.place.Combo.{Combo}
use Rattle.pref_terms.specs.Fits.{TermFits}
use Rattle.pref_terms.specs.Terms.{shown}
use Rattle.pref_terms.specs.declared.bound.BoundTerm.{BoundTerm}

-- what a row shows
abbrev pub seen_by : BoundTerm → Combo → Sight
seen_by bound = shown bound.tables.now bound.from.now bound.first

-- the row at a place, and one of no table past the end
abbrev pub row_at : List Combo → ℕ → Combo
row_at combos place = slice_index_or combos place (record { rows = [] })

-- what the row at a place shows
abbrev pub seen_at : BoundTerm → List Combo → ℕ → Sight
seen_at bound combos place = seen_by bound (row_at combos place)

-- the row has every group column
abbrev pub AreInSight : BoundTerm → Combo → Type 0
AreInSight bound combo =
    All (IsInSight bound.tables.now bound.from.now bound.first combo.rows) bound.groups.now

-- the term judges the row
abbrev pub IsJudged : BoundTerm → Combo → Type 0
IsJudged bound combo =
    TermFits bound.tables.now bound.from.now bound.first combo.rows bound.term.now bound.groups.now

-- the place is of a row that the term judges
abbrev pub IsRow : BoundTerm → List Combo → ℕ → Type 0
IsRow bound combos place = (place < length combos) × IsJudged bound (row_at combos place)
