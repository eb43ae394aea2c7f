-- A row as far as its cells were read.
use Rattle.std.proofs.Common.{◌≡◌, ℕ, ◌+◌, ◌≤◌, List, [], ◌∷◌, ◌++◌, length, Ok, Err, refl, append_assoc, append-nil, eq-eqb}
use Rattle.prefsql_values.specs.declared.value.Value.{Value}
use Rattle.prefsql_tables.specs.declared.schema.Column.{Column}
use Rattle.table_csv.specs.Cell.{cell_codes, cell_value}
use Rattle.table_csv.specs.Fault.{Gives, spots, unless_faulty}
use Rattle.table_csv.specs.Row.{cells_faults, row_faults, row_of, values_of}
use Rattle.table_csv.specs.declared.fault.TableFault.{TableFault}
use Rattle.table_csv.proofs.FaultLemmas.{fault_first, no_fault}
use Rattle.table_csv.proofs.HeaderLemmas.{not_above}

-- these values were read without a fault; these columns and fields are left
pub record HasCells (number : ℕ) (columns : List Column) (fields : List (List ℕ)) (cells : List Value) (place : ℕ) (rest : List Column) (left : List (List ℕ)) : Type 0 where
  pub faults : cells_faults number 1 columns fields ≡ cells_faults number (place + 1) rest left
  pub cells_are : values_of columns fields ≡ cells ++ values_of rest left

pub row_start : (number : ℕ) (columns : List Column) (fields : List (List ℕ)) → HasCells number columns fields [] 0 columns fields
row_start number columns fields = record { faults = refl; cells_are = refl }

pub row_stops : (number : ℕ) (columns : List Column) (fields : List (List ℕ)) (cells : List Value) (place : ℕ) (column : Column) (rest : List Column) (field : List ℕ) (left : List (List ℕ)) (fault : TableFault)
    → length fields ≡ length columns → number ≤ 100001 → HasCells number columns fields cells place (column ∷ rest) (field ∷ left)
    → Gives (unless_faulty (spots number (place + 1) (cell_codes column field)) (cell_value column field)) (Err fault)
    → Gives (unless_faulty (row_faults columns number fields) (row_of columns fields)) (Err fault)
row_stops number columns fields cells place column rest field left fault same few has bad =
    let whole : row_faults columns number fields ≡ spots number (place + 1) (cell_codes column field) ++ cells_faults number (place + 1 + 1) rest left =
    rw (eq-eqb (length fields) (length columns) same, not_above 100001 number few, has.faults) refl in
    fault_first (row_faults columns number fields) (spots number (place + 1) (cell_codes column field)) (cells_faults number (place + 1 + 1) rest left) (cell_value column field) (row_of columns fields) fault whole bad

pub row_more : (number : ℕ) (columns : List Column) (fields : List (List ℕ)) (cells : List Value) (place : ℕ) (column : Column) (rest : List Column) (field : List ℕ) (left : List (List ℕ)) (value : Value)
    → HasCells number columns fields cells place (column ∷ rest) (field ∷ left)
    → unless_faulty (spots number (place + 1) (cell_codes column field)) (cell_value column field) ≡ Ok value
    → HasCells number columns fields (cells ++ value ∷ []) (place + 1) rest left
row_more number columns fields cells place column rest field left value has good =
    let none = no_fault (spots number (place + 1) (cell_codes column field)) (cell_value column field) value good in
    record {
      faults = rw (has.faults, none.0) refl;
      cells_are = rw (has.cells_are, none.1, append_assoc) refl;
    }

no_field : (number place : ℕ) (columns : List Column) → cells_faults number place columns [] ≡ []
no_field number place [] = refl
no_field number place (column ∷ columns) = refl

no_value : (columns : List Column) → values_of columns [] ≡ []
no_value [] = refl
no_value (column ∷ columns) = refl

pub row_done : (number : ℕ) (columns : List Column) (fields : List (List ℕ)) (cells : List Value) (place : ℕ) (left : List (List ℕ))
    → length fields ≡ length columns → number ≤ 100001 → HasCells number columns fields cells place [] left → unless_faulty (row_faults columns number fields) (row_of columns fields) ≡ Ok (record { cells = cells })
row_done number columns fields cells place left same few has =
    rw (eq-eqb (length fields) (length columns) same, not_above 100001 number few, has.faults, has.cells_are, append-nil cells) refl

pub row_out : (number : ℕ) (columns : List Column) (fields : List (List ℕ)) (cells : List Value) (place : ℕ) (rest : List Column)
    → length fields ≡ length columns → number ≤ 100001 → HasCells number columns fields cells place rest [] → unless_faulty (row_faults columns number fields) (row_of columns fields) ≡ Ok (record { cells = cells })
row_out number columns fields cells place rest same few has =
    rw (eq-eqb (length fields) (length columns) same, not_above 100001 number few, has.faults, no_field number (place + 1) rest, has.cells_are, no_value rest, append-nil cells) refl
