-- What follows from validity, and how it is kept.
use Rattle.std.proofs.Common.{◌≡◌, ℕ, ℤ, zero, suc, ◌+◌, ◌<◌, ◌^◌, ⊎_elim, false, List, [], ◌∷◌, ◌++◌, length, get_or, All, Contains, refl, ◌∙◌, arith, length-append}
use Rattle.std.proofs.lemmas.List.{get_or_append_left, get_or_default, get_or_push, map-append}
use Rattle.std.proofs.lemmas.List.Elements.{All-append}
use Rattle.std.proofs.lemmas.Bool.{both_ways, cases_lt}
use Rattle.prefsql_values.specs.declared.value.Value.{Value}
use Rattle.prefsql_tables.specs.declared.schema.Column.{Column}
use Rattle.prefsql_tables.specs.declared.table.AnswerRow.{AnswerRow}
use Rattle.prefsql_values.specs.declared.value.Domain.TheVariants.{Integer}
use Rattle.prefsql_values.specs.declared.value.Value.TheVariants.{Num, Str, Null}
use Rattle.prefsql_tables.specs.Names.{table_names}
use Rattle.prefsql_tables.specs.Table.{no_table, no_row, columns_of, rows_of, cell_at, HasCell}
use Rattle.prefsql_tables.specs.TableData.{TableData, NamedTable}
use Rattle.prefsql_tables.specs.Valid.{IsCell, IsRow, IsTable, IsTableSet, AllDiffer}
use Rattle.prefsql_values.specs.Limits.{IsName, IsShort}

-- a row has one cell for each column
pub length-IsRow : (columns : List Column) (values : List Value) → IsRow columns values → length values ≡ length columns
length-IsRow [] [] valid = refl
length-IsRow [] (value ∷ values) valid = absurd valid
length-IsRow (column ∷ columns) [] valid = absurd valid
length-IsRow (column ∷ columns) (value ∷ values) valid = let more = length-IsRow columns values valid.1 in omega arith

-- each column may hold its cell
pub cell_valid : (columns : List Column) (values : List Value) (k : ℕ) (c : Column) (v : Value) → IsRow columns values → k < length columns → IsCell (get_or columns k c) (get_or values k v)
cell_valid [] values k c v valid small = absurd (omega arith)
cell_valid (column ∷ columns) [] k c v valid small = absurd valid
cell_valid (column ∷ columns) (value ∷ values) zero c v valid small = valid.0
cell_valid (column ∷ columns) (value ∷ values) (suc k) c v valid small = cell_valid columns values k c v valid.1 (omega arith)

-- a row of a table has one cell for each column
pub row_width : (table : TableData) (k : ℕ) (d : AnswerRow) → IsTable table → k < length table.rows → length (get_or table.rows k d).cells ≡ length table.columns
row_width table k d valid small = length-IsRow table.columns (get_or table.rows k d).cells (valid.rows k d small)

-- each cell of a set is one that its column may hold
pub cell_at_valid : (tables : List NamedTable) (t row column : ℕ) (c : Column) → IsTableSet tables → HasCell tables t row column → IsCell (get_or (columns_of tables t) column c) (cell_at tables t row column)
cell_at_valid tables t row column c valid there =
    let table = valid.all_valid t no_table there.table in
    cell_valid (columns_of tables t) (get_or (rows_of tables t) row no_row).cells column c Null (table.rows row no_row there.row_in) there.column_in

-- a cell of a column that admits no NULL is not NULL
pub never_null : (column : Column) (v : Value) → IsCell column v → column.nullable ≡ false → v ≡ Null → ⊥
never_null column (Num n) cell no_null is = cc
never_null column (Str s) cell no_null is = cc
never_null column Null cell no_null is = both_ways column.nullable no_null cell

-- in a column of numbers it is a number of at most eighteen digits
pub short_number : (column : Column) (v : Value) → IsCell column v → column.nullable ≡ false → column.domain ≡ Integer → (n : ℤ) × ((v ≡ Num n) × IsShort n)
short_number column (Num n) cell no_null integer = (n, (refl, cell.1))
short_number column (Str s) cell no_null integer = absurd (cc)
short_number column Null cell no_null integer = absurd (both_ways column.nullable no_null cell)

-- a row and one more column with its value
pub IsRow-push : (columns : List Column) (values : List Value) (column : Column) (value : Value) → IsRow columns values → IsCell column value → IsRow (columns ++ column ∷ []) (values ++ value ∷ [])
IsRow-push [] [] column value valid cell = (cell, tt)
IsRow-push [] (v ∷ values) column value valid cell = absurd valid
IsRow-push (c ∷ columns) [] column value valid cell = absurd valid
IsRow-push (c ∷ columns) (v ∷ values) column value valid cell = (valid.0, IsRow-push columns values column value valid.1 cell)

-- a new name differs from all that are there
pub AllDiffer-push : (names : List (List ℕ)) (name : List ℕ) → AllDiffer names → (Contains names name → ⊥) → AllDiffer (names ++ name ∷ [])
AllDiffer-push names name differ new i j d before small =
    let longer : length (names ++ name ∷ []) ≡ length names + 1 = length-append names (name ∷ []) in
    let here : get_or (names ++ name ∷ []) i d ≡ get_or names i d = get_or_append_left names (name ∷ []) d i (omega arith) in
    ⊎_elim
    (λ within. let there : get_or (names ++ name ∷ []) j d ≡ get_or names j d = get_or_append_left names (name ∷ []) d j within in
    rw (here, there) (differ i j d before within))
    (λ past. let last : get_or (names ++ name ∷ []) j d ≡ name = get_or_push names name d j (omega arith) in
    rw (here, last) (λ same. new (i, omega arith, get_or_default names i name d (omega arith) ∙ same)))
    (cases_lt j (length names))

-- one item more of which the same holds
pub All-push : {X : Type 0} (P : X → Type 0) (xs : List X) (x : X) → All P xs → P x → All P (xs ++ x ∷ [])
All-push P xs x all last = All-append P xs (x ∷ []) all one
  where
    one : All P (x ∷ [])
    one zero d small = last
    one (suc k) d small = absurd (omega arith)

-- a valid set and one more valid table of a new name
pub IsTableSet-push : (tables : List NamedTable) (name : List ℕ) (table : TableData) → IsTableSet tables → IsName name → IsTable table → length tables < 2 ^ 32
    → (Contains (table_names tables) name → ⊥) → IsTableSet (tables ++ record { name = name; table = table } ∷ [])
IsTableSet-push tables name table valid named is_table room new =
    let names : table_names (tables ++ record { name = name; table = table } ∷ []) ≡ table_names tables ++ name ∷ [] = map-append _ tables _ in
    record {
      names = rw names (All-push IsName (table_names tables) name valid.names named);
      differ = rw names (AllDiffer-push (table_names tables) name valid.differ new);
      all_valid = All-push (λ (entry : NamedTable). IsTable entry.table) tables _ valid.all_valid is_table;
      few = omega (arith, length-append tables (record { name = name; table = table } ∷ []));
    }
