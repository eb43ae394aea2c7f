-- The one list of an answer's rows that is arranged: what it is says `IsArranged`, and the sort
-- below only shows that there is one. By it later definitions name that list.
use Rattle.std.specs.Prelude.{◌≡◌, ◌↔◌, Bool, cond, List, [], ◌∷◌}
use Rattle.std.specs.Ordering.{is_lt}
use Rattle.prefsql_tables.specs.Arranged.{IsArranged}
use Rattle.prefsql_tables.specs.Distinct.{each_once}
use Rattle.prefsql_tables.specs.RowOrder.{row_order}
use Rattle.prefsql_tables.specs.declared.place.SortKey.{SortKey}
use Rattle.prefsql_tables.specs.declared.table.AnswerRow.{AnswerRow}

-- sorted rows and one more at its place
abbrev pub placed : List SortKey → AnswerRow → List AnswerRow → List AnswerRow
placed keys row [] = row ∷ []
placed keys row (other ∷ others) =
    cond (is_lt (row_order keys other row)) (other ∷ placed keys row others) (row ∷ other ∷ others)

abbrev pub in_order : List SortKey → List AnswerRow → List AnswerRow
in_order keys [] = []
in_order keys (row ∷ rows) = placed keys row (in_order keys rows)

unfoldable pub arranged : Bool → List SortKey → List AnswerRow → List AnswerRow
arranged distinct keys given = in_order keys (cond distinct (each_once given) given)

-- there is exactly one such list
abbrev pub HasOneArrangement : Type 0
HasOneArrangement = (distinct : Bool) (keys : List SortKey) (given rows : List AnswerRow)
    → IsArranged distinct keys given rows ↔ (rows ≡ arranged distinct keys given)
