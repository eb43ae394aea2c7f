-- Rows without repetition (ISO/IEC 9075:1992, DISTINCT).
use Rattle.std.specs.Prelude.{Bool, not, List, [], ◌∷◌}
use Rattle.std.specs.List.{filter}
use Rattle.std.specs.Cmp.Lexicographic.{pointwise}
use Rattle.prefsql_values.specs.Value.{value_eq}
use Rattle.prefsql_tables.specs.declared.table.AnswerRow.{AnswerRow}

-- whether two rows have the same values, where NULL is the same as NULL
abbrev pub is_same_row : AnswerRow → AnswerRow → Bool
is_same_row a b = pointwise value_eq a.cells b.cells

-- each row once, at its first place
abbrev pub each_once : List AnswerRow → List AnswerRow
each_once [] = []
each_once (row ∷ rows) = row ∷ filter (λ other. not (is_same_row row other)) (each_once rows)
