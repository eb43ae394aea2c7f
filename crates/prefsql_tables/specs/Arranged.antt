-- The rows of an answer in their order, and without repetition where DISTINCT asks for it (ISO/IEC
-- 9075:1992, select list).
use Rattle.std.specs.Prelude.{◌≢◌, ◌↔◌, List, Bool, true, false, AllPairs, Contains}
use Rattle.std.specs.List.Sorted.{IsSorted, IsPermutation}
use Rattle.prefsql_tables.specs.RowOrder.{row_order}
use Rattle.prefsql_tables.specs.declared.place.SortKey.{SortKey}
use Rattle.prefsql_tables.specs.declared.table.AnswerRow.{AnswerRow}

-- each row that was given, and no row twice; two rows are equal where their values are, and NULL
-- equals NULL
pub record HasEachOnce (given kept : List AnswerRow) : Type 0 where
  pub members : (row : AnswerRow) → Contains given row ↔ Contains kept row
  pub differ : AllPairs (λ (a b : AnswerRow). a ≢ b) kept

-- without DISTINCT each row as often as it was given, with DISTINCT each once
abbrev pub KeepsRows : Bool → List AnswerRow → List AnswerRow → Type 0
KeepsRows false given kept = IsPermutation given kept
KeepsRows true given kept = HasEachOnce given kept

-- the rows that are to be kept, sorted by the keys and then by all columns
pub record IsArranged (distinct : Bool) (keys : List SortKey)
    (given arranged : List AnswerRow) : Type 0 where
  pub kept : KeepsRows distinct given arranged
  pub sorted : IsSorted (row_order keys) arranged

-- given in the order of some keys, each row is kept once and in that order
abbrev pub KeepsOrderedOnce : List AnswerRow → List AnswerRow → Type 0
KeepsOrderedOnce given kept = (keys : List SortKey) → IsSorted (row_order keys) given
    → IsArranged true keys given kept
