-- The answer to the query for the best choices has these, each as often.
use Rattle.std.proofs.Common.{◌≡◌, ℕ, suc, ◌+◌, ◌<◌, Bool, false, List, [], ◌∷◌, ◌++◌, length, get_or, map, filter, All, refl, sym, ap, ◌∙◌, subst, inl, inr, arith}
use Rattle.std.specs.List.{flat_map}
use Rattle.std.specs.List.Sorted.{IsPermutation}
use Rattle.std.proofs.lemmas.List.{map-append}
use Rattle.std.proofs.lemmas.List.Elements.{All-append, All-cons, All-nil}
use Rattle.prefsql_values.specs.declared.value.Value.{Value}
use Rattle.prefsql_values.specs.declared.value.Value.TheVariants.{Null}
use Rattle.prefsql_tables.specs.Product.{product}
use Rattle.prefsql_tables.specs.Table.{Tables, no_row, rows_of}
use Rattle.prefsql_tables.specs.declared.answer.Answer.{Answer}
use Rattle.prefsql_tables.specs.declared.schema.Column.{Column}
use Rattle.prefsql_tables.specs.declared.table.AnswerRow.{AnswerRow}
use Rattle.prefsql_tables.proofs.ArrangementLemmas.{arranged_is}
use Rattle.order_laws.specs.Best.{best}
use Rattle.order_laws.proofs.BestLaws.{best_among}
use Rattle.order_laws.proofs.Members.{Among, among_flat_map, among_kept, among_map, filter_true, map_same}
use Rattle.conditions.specs.Meaning.{scalar_value}
use Rattle.conditions.specs.declared.condition.Scalar.TheVariants as scalar
use Rattle.query_meaning.specs.declared.block.Block.{Block}
use Rattle.query_meaning.specs.declared.block.FromTable.{FromTable}
use Rattle.query_meaning.specs.declared.block.Output.{Output}
use Rattle.query_meaning.specs.Answers.{answer_of, output_row, passes}
use Rattle.query_meaning.specs.BlockFits.{HasPlaces, IsPlace, IsScalar, columns_from}
use Rattle.reordered_tables.proofs.ByRows.{Rows, best_of, outputs, shown_by, sources}
use Rattle.reordered_tables.proofs.OneAnswer.{answer_is}
use Rattle.table_parts.specs.JoinAnswers.{AnswersBestChoices, AreAllFull, best_choices_block, joined_row, table_outputs, tables_outputs}
use Rattle.table_parts.specs.KeptChoices.{best_choices, choice_better}
use Rattle.table_parts.specs.KeptRows.{rows_from, rows_sight}
use Rattle.table_parts.proofs.EnoughChoices.{best_of_is}
use Rattle.table_parts.proofs.PartRows.{full_rows}

abbrev no_from : FromTable
no_from = record { index = 0; name = []; schema = record { columns = [] } }

-- a row of each FROM table, with a value for each column
abbrev AreFullRows : List FromTable → List AnswerRow → Type 0
AreFullRows [] [] = Unit {0}
AreFullRows [] (row ∷ rows) = ⊥
AreFullRows (table ∷ from) [] = ⊥
AreFullRows (table ∷ from) (row ∷ rows) = (length row.cells ≡ length table.schema.columns) × AreFullRows from rows

-- ---- what a choice shows in all columns

module _ (choice : Rows) where
  abbrev value_of : Output → Value
  value_of output = scalar_value (rows_sight choice) output.scalar

  table_shown : (table first : ℕ) (columns : List Column) (cells : List Value) → length cells ≡ length columns → ((k j : ℕ) → first + k ≡ j → get_or (get_or choice table no_row).cells j Null ≡ get_or cells k Null)
      → map value_of (table_outputs table first columns) ≡ cells
  table_shown table first [] [] long at = refl
  table_shown table first [] (cell ∷ cells) long at = absurd (omega (arith, long))
  table_shown table first (column ∷ columns) [] long at = absurd (omega (arith, long))
  table_shown table first (column ∷ columns) (cell ∷ cells) long at =
      let head : get_or (get_or choice table no_row).cells first Null ≡ cell = at 0 first (omega arith) in
      let tail = table_shown table (first + 1) columns cells (omega (arith, long)) (λ k j is. at (suc k) j (omega (arith, is))) in
      λ j. head j ∷ tail j

  tables_shown : (first : ℕ) (from : List FromTable) (rows : Rows) → AreFullRows from rows → ((i j : ℕ) → first + i ≡ j → get_or choice j no_row ≡ get_or rows i no_row)
      → map value_of (tables_outputs first from) ≡ flat_map (λ (row : AnswerRow). row.cells) rows
  tables_shown first [] [] full at = refl
  tables_shown first [] (row ∷ rows) full at = absurd full
  tables_shown first (table ∷ from) [] full at = absurd full
  tables_shown first (table ∷ from) (row ∷ rows) full at =
      let there : get_or choice first no_row ≡ row = at 0 first (omega arith) in
      let head =
      table_shown first 0 table.schema.columns row.cells full.0
      (λ k j is. (let same : j ≡ k = omega (arith, is) in ap (λ (r : AnswerRow). get_or r.cells j Null) there ∙ ap (λ n. get_or row.cells n Null) same))
      in
      let tail = tables_shown (first + 1) from rows full.1 (λ i j is. at (suc i) j (omega (arith, is))) in
      map-append value_of (table_outputs first 0 table.schema.columns) (tables_outputs (first + 1) from) ∙ (λ j. head j ++ tail j)

-- ---- places of all columns

module _ (all : List FromTable) where
  abbrev IsShown : Output → Type 0
  IsShown output = IsScalar all output.scalar

  table_placed : (table first : ℕ) (columns : List Column) → table < length all → first + length columns ≡ length (columns_from all table) → All IsShown (table_outputs table first columns)
  table_placed table first [] there long = All-nil _
  table_placed table first (column ∷ columns) there long =
      let place : IsPlace all (record { table = table; column = first }) = record { table = there; column = omega (arith, long) } in
      All-cons IsShown (record { name = column.name; scalar = scalar.Column (record { table = table; column = first }) }) (table_outputs table (first + 1) columns) place
      (table_placed table (first + 1) columns there (omega (arith, long)))

  tables_placed : (first : ℕ) (from : List FromTable) → first + length from ≡ length all → ((i j : ℕ) → first + i ≡ j → columns_from all j ≡ columns_from from i) → All IsShown (tables_outputs first from)
  tables_placed first [] long at = All-nil _
  tables_placed first (table ∷ from) long at =
      let same : columns_from all first ≡ table.schema.columns = at 0 first (omega arith) in
      let count : length (columns_from all first) ≡ length table.schema.columns = ap length same in
      All-append IsShown (table_outputs first 0 table.schema.columns) (tables_outputs (first + 1) from)
      (table_placed first 0 table.schema.columns (omega (arith, long)) (omega (arith, count)))
      (tables_placed (first + 1) from (omega (arith, long)) (λ i j is. at (suc i) j (omega (arith, is))))

-- ---- choices of full rows

choices_full : (tables : Tables) (from : List FromTable) → AreAllFull tables from → (choice : Rows) → Among (product (rows_from tables from)) choice → AreFullRows from choice
choices_full tables [] full choice (inl e) = subst (AreFullRows []) e tt
choices_full tables [] full choice (inr a) = absurd a
choices_full tables (table ∷ from) full choice a =
    let x = among_flat_map (λ row. map (λ more. row ∷ more) (product (rows_from tables from))) (rows_of tables table.index) choice a in
    let then = among_map (λ more. x.0 ∷ more) (product (rows_from tables from)) choice x.2 in
    subst (AreFullRows (table ∷ from)) then.2 (full_rows table.schema.columns (rows_of tables table.index) full.0 x.0 x.1, choices_full tables from full.1 then.0 then.1)

pub choices_placed : (block : Block) → HasPlaces block → HasPlaces (best_choices_block block)
choices_placed block places = record {
  output = tables_placed block.from 0 block.from (omega arith) (λ i j is. (let same : j ≡ i = omega (arith, is) in ap (columns_from block.from) same));
  filter = places.filter;
  leaves = places.leaves;
  groups = places.groups;
  only = All-nil _;
}

module _ (block : Block) (places : HasPlaces block) (tables : Tables) (full : AreAllFull tables block.from) where
  abbrev inner : Block
  inner = best_choices_block block

  choice_shown : (choice : Rows) → Among (product (rows_from tables block.from)) choice → output_row inner (shown_by choice) ≡ joined_row choice
  choice_shown choice a =
      let cells = tables_shown choice 0 block.from choice (choices_full tables block.from full choice a) (λ i j is. (let same : j ≡ i = omega (arith, is) in ap (λ n. get_or choice n no_row) same)) in
      λ j. record { cells = cells j }

  inner_shown : outputs inner (sources tables block.from) ≡ map joined_row (best_choices block (rows_from tables block.from))
  inner_shown =
      let lists = rows_from tables block.from in
      let out : Rows → AnswerRow = λ choice. output_row inner (shown_by choice) in
      let passing : Rows → Bool = λ choice. passes block.filter (shown_by choice) in
      let found = filter passing (product lists) in
      let better = choice_better block.term block.groups in
      ap (map out) (filter_true (λ choice. passes [] (shown_by choice)) (best_of inner inner.term inner.groups found) (λ choice. refl))
      ∙ ap (map out) (best_of_is inner block.term block.groups found)
      ∙ map_same out joined_row (best better found) (λ choice a. choice_shown choice ((among_kept passing (product lists) choice ((best_among better found choice a).0)).0))

  inner_choices : IsPermutation (map joined_row (best_choices block (rows_from tables block.from))) ((answer_of tables inner).rows)
  inner_choices =
      let shown = outputs inner (sources tables block.from) in
      subst (λ l. IsPermutation l ((answer_of tables inner).rows)) inner_shown
      (subst (IsPermutation shown) (sym (ap (λ (answer : Answer). answer.rows) (answer_is tables inner (choices_placed block places)))) ((arranged_is false [] shown).kept))

pub answers_choices : AnswersBestChoices
answers_choices block tables places full = inner_choices block places tables full
