-- What is read without a fault is valid.
use Rattle.std.proofs.Common.{◌≡◌, ℕ, unsigned_abs, zero, suc, pos, neg_ℤ, ◌+◌, ◌≤◌, ◌<◌, ◌^◌, ◌==◌, List, [], ◌∷◌, ◌++◌, length, Bool, true, false, not, cond, nat_lt, refl, sym, subst, arith}
use Rattle.std.specs.Char.{is_ascii_digit}
use Rattle.std.specs.List.{list_all}
use Rattle.std.specs.Str.Parse.{digits_value, starts_with_minus, without_leading_sign}
use Rattle.prefsql_values.specs.declared.value.Domain.{Domain}
use Rattle.prefsql_values.specs.declared.value.Domain.TheVariants.{Integer, Chars}
use Rattle.prefsql_values.specs.declared.value.Value.TheVariants.{Num, Str, Null}
use Rattle.prefsql_tables.specs.Valid.{IsCell, IsRow}
use Rattle.prefsql_tables.specs.declared.schema.Column.{Column}
use Rattle.table_csv.specs.Cell.{cell_codes, cell_value, empty_codes, filled_codes}
use Rattle.table_csv.specs.Fault.{spots, when}
use Rattle.table_csv.specs.Field.{digit_count, is_empty, is_numeral, is_text, number_codes, number_in}
use Rattle.table_csv.specs.Row.{cells_faults, row_faults, values_of}
use Rattle.table_csv.proofs.FieldLemmas.{digits_value_small}
use Rattle.table_csv.proofs.TestLemmas.{and_right, at_most, both_empty, equal, no_codes, not_when, true_from_not}

abs_neg : (n : ℕ) → unsigned_abs (neg_ℤ (pos n)) ≡ n
abs_neg zero = refl
abs_neg (suc n) = refl

abs_signed : (minus : Bool) (n : ℕ) → unsigned_abs (cond minus (neg_ℤ (pos n)) (pos n)) ≡ n
abs_signed true n = abs_neg n
abs_signed false n = refl

number_small : (field : List ℕ) → number_codes field ≡ [] → unsigned_abs (number_in field) < 10 ^ 18
number_small field none =
    let parts = both_empty (when (not (is_numeral field)) 504) (when (nat_lt 18 (digit_count field)) 505) none in
    let numeral = true_from_not (is_numeral field) (not_when (not (is_numeral field)) 504 parts.0) in
    let digits = and_right (not (is_empty (without_leading_sign field))) (list_all is_ascii_digit (without_leading_sign field)) numeral in
    let above = not_when (nat_lt 18 (digit_count field)) 505 parts.1 in
    let few : length (without_leading_sign field) ≤ 18 = at_most 18 (length (without_leading_sign field)) above in
    let P : ℕ → Type 0 = λ n. n < 10 ^ 18 in
    subst P (sym (abs_signed (starts_with_minus field) (digits_value 10 (without_leading_sign field)))) (digits_value_small (without_leading_sign field) digits few)

value_valid : (column : Column) (field : List ℕ) (domain : Domain) (nullable empty : Bool) → column.domain ≡ domain → column.nullable ≡ nullable → is_empty field ≡ empty
    → (cond empty (empty_codes domain nullable) (filled_codes domain field)) ≡ [] → IsCell column (cell_value column field)
value_valid column field domain true true d n e none =
    let value : cell_value column field ≡ Null = rw (e, n) refl in
    subst (λ v. IsCell column v) (sym value) (rw n refl)
value_valid column field Integer false true d n e none = absurd (cc)
value_valid column field Chars false true d n e none =
    let value : cell_value column field ≡ Str [] = rw (e, n) refl in
    subst (λ v. IsCell column v) (sym value) d
value_valid column field Integer nullable false d n e none =
    let value : cell_value column field ≡ Num (number_in field) = rw (e, d) refl in
    subst (λ v. IsCell column v) (sym value) (d, number_small field none)
value_valid column field Chars nullable false d n e none =
    let value : cell_value column field ≡ Str field = rw (e, d) refl in
    subst (λ v. IsCell column v) (sym value) d

cell_valid : (column : Column) (field : List ℕ) → cell_codes column field ≡ [] → IsCell column (cell_value column field)
cell_valid column field none =
    value_valid column field column.domain column.nullable (is_empty field) refl refl refl (both_empty (when (not (is_text field)) 507) _ none).1

cells_valid : (number place : ℕ) (columns : List Column) (fields : List (List ℕ)) → length fields ≡ length columns → cells_faults number place columns fields ≡ [] → IsRow columns (values_of columns fields)
cells_valid number place [] fields same none = tt
cells_valid number place (column ∷ columns) [] same none = absurd (omega arith)
cells_valid number place (column ∷ columns) (field ∷ fields) same none =
    let parts = both_empty (spots number place (cell_codes column field)) (cells_faults number (place + 1) columns fields) none in
    (cell_valid column field (no_codes number place (cell_codes column field) parts.0), cells_valid number (place + 1) columns fields (omega arith) parts.1)

-- a row without a fault
pub record IsGoodRow (columns : List Column) (number : ℕ) (fields : List (List ℕ)) : Type 0 where
  pub valid : IsRow columns (values_of columns fields)
  pub in_time : number ≤ 100001

pub row_valid : (columns : List Column) (number : ℕ) (fields : List (List ℕ)) → row_faults columns number fields ≡ [] → IsGoodRow columns number fields
row_valid columns number fields none =
    let whole = when (not (length fields == length columns)) 503 in
    let late = when (nat_lt 100001 number) 508 in
    let parts = both_empty (spots number 0 (whole ++ late)) (cells_faults number 1 columns fields) none in
    let codes = both_empty whole late (no_codes number 0 (whole ++ late) parts.0) in
    let same = true_from_not (length fields == length columns) (not_when (not (length fields == length columns)) 503 codes.0) in
    record {
      valid = cells_valid number 1 columns fields (equal (length fields) (length columns) same) parts.1;
      in_time = at_most 100001 number (not_when (nat_lt 100001 number) 508 codes.1);
    }
