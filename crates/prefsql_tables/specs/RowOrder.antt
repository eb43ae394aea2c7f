-- The order of an answer's rows (ISO/IEC 9075:1992, ORDER BY). The place of NULL, which is after
-- all values, and the order by all columns behind the keys are this project's own.
use Rattle.std.specs.Prelude.{cond, List, [], ◌∷◌}
use Rattle.std.specs.Cmp.Lexicographic.{slice_cmp}
use Rattle.std.specs.Ordering.{ordering_then, ordering_reverse}
use Rattle.std.specs.declared.cmp.Ordering.{Ordering}
use Rattle.std.specs.declared.cmp.Ordering.TheVariants.{Equal}
use Rattle.prefsql_values.specs.Value.{nulls_last}
use Rattle.prefsql_tables.specs.Table.{cell_in}
use Rattle.prefsql_tables.specs.declared.place.SortKey.{SortKey}
use Rattle.prefsql_tables.specs.declared.table.AnswerRow.{AnswerRow}

-- by one column, NULL last; descending is the exact reverse
abbrev pub key_order : SortKey → AnswerRow → AnswerRow → Ordering
key_order key a b =
    let ascending = nulls_last (cell_in a key.column) (cell_in b key.column) in
    cond key.descending (ordering_reverse ascending) ascending

-- by the first key that tells the rows apart
abbrev pub keys_order : List SortKey → AnswerRow → AnswerRow → Ordering
keys_order [] a b = Equal
keys_order (key ∷ keys) a b = ordering_then (key_order key a b) (keys_order keys a b)

-- by all columns from left to right, each ascending
abbrev pub columns_order : AnswerRow → AnswerRow → Ordering
columns_order a b = slice_cmp nulls_last a.cells b.cells

-- by the keys, and where these tell nothing apart by all columns
abbrev pub row_order : List SortKey → AnswerRow → AnswerRow → Ordering
row_order keys a b = ordering_then (keys_order keys a b) (columns_order a b)
