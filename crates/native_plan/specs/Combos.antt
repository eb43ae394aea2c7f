-- Combinations of one row, and of the rows of two combinations.
use Rattle.std.specs.Prelude.{ℕ, [], ◌∷◌, ◌++◌}
use Rattle.prefsql_tables.specs.declared.place.Combo.{Combo}

abbrev pub single : ℕ → Combo
single row = record { rows = row ∷ [] }

abbrev pub pair : Combo → Combo → Combo
pair left right = record { rows = left.rows ++ right.rows }
