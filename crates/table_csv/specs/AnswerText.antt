-- The text of an answer. It is this project's own: the records of csv by its default settings, and
-- an empty line.
use Rattle.std.specs.Prelude.{ℕ, List, [], ◌∷◌, ◌++◌, map}
use Rattle.std.specs.Fmt.{signed_decimal}
use Rattle.std.specs.List.{flat_map}
use Rattle.csv.specs.Writing.{default_writer, row_text}
use Rattle.prefsql_values.specs.declared.value.Value.{Value}
use Rattle.prefsql_values.specs.declared.value.Value.TheVariants.{Num, Str, Null}
use Rattle.prefsql_tables.specs.declared.answer.Answer.{Answer}
use Rattle.prefsql_tables.specs.declared.table.AnswerRow.{AnswerRow}

-- decimal digits with a minus sign where the number is negative; the text as it is; nothing for
-- NULL
abbrev pub value_text : Value → List ℕ
value_text (Num n) = signed_decimal n
value_text (Str text) = text
value_text Null = []

abbrev pub row_fields : AnswerRow → List (List ℕ)
row_fields row = map value_text row.cells

-- the names and then the rows, each record with its line feed, and then one empty line
abbrev pub text_of_answer : Answer → List ℕ
text_of_answer answer =
    flat_map (row_text default_writer) (answer.names ∷ map row_fields answer.rows) ++ 10 ∷ []
