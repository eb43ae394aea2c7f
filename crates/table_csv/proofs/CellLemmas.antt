-- A cell of a table file, and a field as a number.
use Rattle.std.proofs.Common.{◌≡◌, ℕ, ℤ, List, [], ◌∷◌, ◌++◌, true, false, not, nat_lt, Ok, refl, arith}
use Rattle.std.proofs.lemmas.Bool.Decides.{nat_tests}
use Rattle.prefsql_values.specs.declared.value.Domain.TheVariants.{Integer}
use Rattle.prefsql_values.specs.declared.value.Value.{Value}
use Rattle.prefsql_values.specs.declared.value.Value.TheVariants.{Num}
use Rattle.prefsql_tables.specs.declared.schema.Column.{Column}
use Rattle.table_csv.specs.Cell.{cell_codes, cell_value, empty_codes, empty_value}
use Rattle.table_csv.specs.Fault.{spots, unless_faulty, when}
use Rattle.table_csv.specs.Field.{digit_count, is_empty, is_numeral, is_text, number_codes, number_in}
use Rattle.table_csv.proofs.FaultLemmas.{no_fault}
use Rattle.table_csv.proofs.FieldLemmas.{empty_text, numeral_text}
use Rattle.table_csv.proofs.TestLemmas.{both_empty, not_when, true_from_not}

pub number_good : (field : List ℕ) (number place : ℕ) (n : ℤ) → unless_faulty (number_codes field) (number_in field) ≡ Ok n
    → unless_faulty (spots number place (when (not (is_text field)) 507 ++ number_codes field)) (Num (number_in field)) ≡ Ok (Num n)
number_good field number place n good =
    let none = no_fault (number_codes field) (number_in field) n good in
    let parts = both_empty (when (not (is_numeral field)) 504) (when (nat_lt 18 (digit_count field)) 505) none.0 in
    let text = numeral_text field (true_from_not (is_numeral field) (not_when (not (is_numeral field)) 504 parts.0)) in
    rw (text, none.0, none.1) refl

pub empty_cell : (column : Column) (field : List ℕ) (number place : ℕ) → is_empty field ≡ true
    → unless_faulty (spots number place (cell_codes column field)) (cell_value column field) ≡ unless_faulty (spots number place (empty_codes column.domain column.nullable)) (empty_value column)
empty_cell column field number place empty = rw (empty_text field empty, empty) refl

not_empty : (field : List ℕ) → is_numeral field ≡ true → is_empty field ≡ false
not_empty [] numeral = absurd (cc)
not_empty (b ∷ field) numeral = grind (arith, nat_tests)

-- a number is a cell without a fault in a column of numbers
pub plain_number : (column : Column) (field : List ℕ) (n : ℤ) → column.domain ≡ Integer → unless_faulty (number_codes field) (number_in field) ≡ Ok n
    → (cell_codes column field ≡ []) × (cell_value column field ≡ Num n)
plain_number column field n integer good =
    let none = no_fault (number_codes field) (number_in field) n good in
    let parts = both_empty (when (not (is_numeral field)) 504) (when (nat_lt 18 (digit_count field)) 505) none.0 in
    let numeral = true_from_not (is_numeral field) (not_when (not (is_numeral field)) 504 parts.0) in
    (rw (numeral_text field numeral, not_empty field numeral, integer, none.0) refl, rw (not_empty field numeral, integer, none.1) refl)

pub plain_cell : (column : Column) (field : List ℕ) (number place : ℕ) (value : Value) → cell_codes column field ≡ [] → cell_value column field ≡ value
    → unless_faulty (spots number place (cell_codes column field)) (cell_value column field) ≡ Ok value
plain_cell column field number place value none is = rw (none, is) refl
