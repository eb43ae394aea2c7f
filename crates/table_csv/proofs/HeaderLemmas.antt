-- The header as far as its fields were read.
use Rattle.std.proofs.Common.{◌≡◌, ℕ, ◌+◌, ◌≤◌, List, [], ◌∷◌, ◌++◌, length, map, Ok, Err, false, nat_lt, refl, arith, append_assoc, append-nil}
use Rattle.std.proofs.lemmas.Bool.Decides.{nat_tests}
use Rattle.prefsql_tables.specs.declared.schema.Column.{Column}
use Rattle.table_csv.specs.Fault.{Gives, spots, unless_faulty}
use Rattle.table_csv.specs.Header.{column_of, columns_faults, header_codes, header_faults, schema_of}
use Rattle.table_csv.specs.declared.fault.TableFault.{TableFault}
use Rattle.table_csv.proofs.FaultLemmas.{fault_first, no_fault}

pub not_above : (m n : ℕ) → n ≤ m → nat_lt m n ≡ false
not_above m n le = grind (arith, nat_tests)

-- these columns were read without a fault, and these fields are left
pub record HasColumns (fields : List (List ℕ)) (columns : List Column) (rest : List (List ℕ)) : Type 0 where
  pub faults : columns_faults [] fields ≡ columns_faults columns rest
  pub columns_are : map column_of fields ≡ columns ++ map column_of rest

pub header_start : (fields : List (List ℕ)) → HasColumns fields [] fields
header_start fields = record { faults = refl; columns_are = refl }

-- the columns that a field is judged behind are those that were read
pub header_stops : (fields : List (List ℕ)) (columns earlier : List Column) (field : List ℕ) (rest : List (List ℕ)) (fault : TableFault) → length fields ≤ 64 → HasColumns fields columns (field ∷ rest) → earlier ≡ columns
    → Gives (unless_faulty (spots 1 (length earlier + 1) (header_codes earlier field)) (column_of field)) (Err fault) → Gives (unless_faulty (header_faults fields) (schema_of fields)) (Err fault)
header_stops fields columns earlier field rest fault few has same bad =
    let whole : header_faults fields ≡ spots 1 (length earlier + 1) (header_codes earlier field) ++ columns_faults (columns ++ column_of field ∷ []) rest = rw (not_above 64 (length fields) few, has.faults, same) refl in
    fault_first (header_faults fields) (spots 1 (length earlier + 1) (header_codes earlier field)) (columns_faults (columns ++ column_of field ∷ []) rest) (column_of field) (schema_of fields) fault whole bad

pub header_more : (fields : List (List ℕ)) (columns earlier : List Column) (field : List ℕ) (rest : List (List ℕ)) (column : Column) → HasColumns fields columns (field ∷ rest) → earlier ≡ columns
    → unless_faulty (spots 1 (length earlier + 1) (header_codes earlier field)) (column_of field) ≡ Ok column → HasColumns fields (columns ++ column ∷ []) rest
header_more fields columns earlier field rest column has same good =
    let none = no_fault (spots 1 (length earlier + 1) (header_codes earlier field)) (column_of field) column good in
    let here : spots 1 (length columns + 1) (header_codes columns field) ≡ [] = rw (← same) none.0 in
    record {
      faults = rw (has.faults, here, none.1) refl;
      columns_are = rw (has.columns_are, none.1, append_assoc) refl;
    }

pub header_done : (fields : List (List ℕ)) (columns : List Column) → length fields ≤ 64 → HasColumns fields columns [] → unless_faulty (header_faults fields) (schema_of fields) ≡ Ok (record { columns = columns })
header_done fields columns few has = rw (not_above 64 (length fields) few, has.faults, has.columns_are, append-nil columns) refl
