-- Which rows of the FROM tables are enough for a query over several of them (best matches only:
-- Kießling and Köstler 2002). A choice is one row of each FROM table.
use Rattle.std.specs.Prelude.{◌≡◌, ◌++◌, ⊤, Bool, false, Option, Some, None, List, [], ◌∷◌}
use Rattle.std.specs.Prelude.{filter, Contains}
use Rattle.std.specs.List.Sorted.{IsPermutation}
use Rattle.prefsql_tables.specs.Product.{product}
use Rattle.prefsql_tables.specs.Table.{Tables}
use Rattle.prefsql_tables.specs.declared.place.ColumnPlace.{ColumnPlace}
use Rattle.prefsql_tables.specs.declared.table.AnswerRow.{AnswerRow}
use Rattle.order_laws.specs.Best.{best}
use Rattle.pref_terms.specs.declared.term.Term.{Term}
use Rattle.pref_terms.specs.Terms.{grouped_order}
use Rattle.query_meaning.specs.Answers.{answer_of, passes}
use Rattle.query_meaning.specs.BlockFits.{HasPlaces}
use Rattle.query_meaning.specs.declared.block.Block.{Block}
use Rattle.table_parts.specs.KeptRows.{rows_sight, rows_from}

-- better by the preference, and of the same group; without a preference no choice is
abbrev pub choice_better : Option Term → List ColumnPlace → List AnswerRow → List AnswerRow → Bool
choice_better None groups y x = false
choice_better (Some term) groups y x =
    (grouped_order groups term).better (rows_sight y) (rows_sight x)

-- the choices for which WHERE is True and that none of these betters within its group
abbrev pub best_choices : Block → List (List AnswerRow) → List (List AnswerRow)
best_choices block lists =
    best (choice_better block.term block.groups)
    (filter (λ choice. passes block.filter (rows_sight choice)) (product lists))

-- of each list some rows are kept, in any order, and the others left out
abbrev pub ArePartedLists : {X : Type 0} → List (List X) → List (List X) → List (List X) → Type 0
ArePartedLists [] [] [] = ⊤
ArePartedLists (xs ∷ all) (kept ∷ keeps) (left ∷ lefts) =
    IsPermutation xs (kept ++ left) × ArePartedLists all keeps lefts
ArePartedLists _ _ _ = ⊥

-- no row of the choice is one that was left out of its table
abbrev pub HasNoneOf : {X : Type 0} → List (List X) → List X → Type 0
HasNoneOf (left ∷ lefts) (x ∷ xs) = (Contains left x → ⊥) × HasNoneOf lefts xs
HasNoneOf _ _ = ⊤

-- some rows of each table are kept, and no best choice has a row that is left out
pub record KeepsBestChoices (block : Block) (rows kept : List (List AnswerRow)) : Type 0 where
  pub left_out : List (List AnswerRow)
  pub parted : ArePartedLists rows kept left_out
  pub none_best : (choice : List AnswerRow) → Contains (best_choices block rows) choice
      → HasNoneOf left_out choice

-- over the kept rows a query has the answer that it has over all
abbrev pub AnswersByKeptChoices : Type 0
AnswersByKeptChoices =
    (block : Block) (whole kept : Tables) → HasPlaces block
    → KeepsBestChoices block (rows_from whole block.from) (rows_from kept block.from)
    → answer_of kept block ≡ answer_of whole block

-- where some rows alone stand in a table, a choice of these that is best of all is best of them
abbrev pub HasBestOfFewer : Type 0
HasBestOfFewer =
    (block : Block) (before : List (List AnswerRow)) (part whole : List AnswerRow)
    (behind : List (List AnswerRow)) (choice : List AnswerRow)
    → ((row : AnswerRow) → Contains part row → Contains whole row)
    → Contains (product (before ++ part ∷ behind)) choice
    → Contains (best_choices block (before ++ whole ∷ behind)) choice
    → Contains (best_choices block (before ++ part ∷ behind)) choice
