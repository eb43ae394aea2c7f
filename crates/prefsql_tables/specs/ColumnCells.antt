-- What the kept cells of a column stand for.
use Rattle.std.specs.Prelude.{ℕ, ℤ, pos, neg_ℤ, ◌^◌, List, Option, Some, None, cond, map}
use Rattle.std.specs.Ordering.{int_eq}
use Rattle.prefsql_values.specs.declared.value.Domain.TheVariants.{Integer, Chars}
use Rattle.prefsql_values.specs.declared.value.Value.{Value}
use Rattle.prefsql_values.specs.declared.value.Value.TheVariants.{Num, Str, Null}
use Rattle.prefsql_tables.specs.CellsData.{CellsData}
use Rattle.prefsql_tables.specs.declared.column_cells.Kept.{Kept}
use Rattle.prefsql_tables.specs.declared.column_cells.Kept.TheVariants.{Numbers, Texts}

-- the least number of 64 bits stands for NULL
abbrev pub number_kept : ℤ → Value
number_kept n = cond (int_eq n (neg_ℤ (pos (2 ^ 63)))) Null (Num n)

abbrev pub text_kept : Option (List ℕ) → Value
text_kept None = Null
text_kept (Some text) = Str text

abbrev pub cells_kept : Kept → CellsData
cells_kept (Numbers numbers) = record { domain = Integer; values = map number_kept numbers.items }
cells_kept (Texts texts) = record { domain = Chars; values = map text_kept texts.items }
