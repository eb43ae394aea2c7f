-- The best rows of each part of a table are enough for a query over the whole.
use Rattle.std.proofs.Common.{◌≡◌, ℕ, suc, ◌+◌, Bool, false, not, ◌&&◌, List, [], ◌∷◌, ◌++◌, length, get_or, map, filter, All, refl, sym, ap, ◌∙◌, subst, inl, inr, arith}
use Rattle.std.specs.List.{flat_map}
use Rattle.std.specs.List.Sorted.{IsPermutation}
use Rattle.std.proofs.lemmas.Bool.{and_parts, and_from, both_ways, not-true}
use Rattle.std.proofs.lemmas.List.Elements.{All-contains, All-cons, All-head, All-nil, All-weaker}
use Rattle.std.proofs.lemmas.List.Sorted.{All-permutation, IsPermutation-refl, IsPermutation-trans, IsPermutation-append, IsPermutation-filter_both}
use Rattle.std.proofs.lemmas.Simd.{map-map}
use Rattle.prefsql_values.specs.declared.value.Value.{Value}
use Rattle.prefsql_values.specs.declared.value.Value.TheVariants.{Null}
use Rattle.prefsql_tables.specs.Product.{product}
use Rattle.prefsql_tables.specs.Table.{Tables, columns_of, no_table, rows_of, table_at}
use Rattle.prefsql_tables.specs.Valid.{IsRow, IsTable}
use Rattle.prefsql_tables.specs.declared.answer.Answer.{Answer}
use Rattle.prefsql_tables.specs.declared.schema.Column.{Column}
use Rattle.prefsql_tables.specs.declared.table.AnswerRow.{AnswerRow}
use Rattle.prefsql_tables.proofs.ArrangementLemmas.{arranged_is}
use Rattle.order_laws.specs.Best.{is_unbettered}
use Rattle.order_laws.proofs.Members.{Among, Contains_from_among, among_back, among_filter, among_flat_map, among_flat_mapped, among_from_Contains, among_front, among_kept, filter_filter, filter_true}
use Rattle.order_laws.proofs.PartLaws.{unbettered_in_part}
use Rattle.pref_terms.specs.TermLaws.{All-first}
use Rattle.conditions.specs.Meaning.{scalar_value}
use Rattle.conditions.specs.declared.condition.Scalar.TheVariants as scalar
use Rattle.query_meaning.specs.declared.block.Block.{Block}
use Rattle.query_meaning.specs.declared.block.FromTable.{FromTable}
use Rattle.query_meaning.specs.declared.block.Output.{Output}
use Rattle.query_meaning.specs.Answers.{answer_of, output_row, passes}
use Rattle.query_meaning.specs.BlockFits.{HasPlaces, IsPlace, IsScalar, IsTableOf}
use Rattle.reordered_tables.proofs.ByRows.{Rows, best_of, outputs, shown_by, sources}
use Rattle.reordered_tables.proofs.OneAnswer.{answer_is}
use Rattle.table_parts.specs.KeptRows.{KeepsBestRows, best_table_rows, row_better, row_sight}
use Rattle.table_parts.specs.Parts.{AnswersBestRows, AnswersByParts, AreFull, HasFullRows, best_rows_block, columns_shown}
use Rattle.table_parts.proofs.EnoughRows.{answers_kept, best_choices_are, middle_moved, single}

-- ---- a full row is what it shows in all columns

cells_shown : (row : AnswerRow) (first : ℕ) (columns : List Column) (cells : List Value) → length cells ≡ length columns → ((k j : ℕ) → first + k ≡ j → get_or row.cells j Null ≡ get_or cells k Null)
    → map (λ (output : Output). scalar_value (row_sight row) output.scalar) (columns_shown first columns) ≡ cells
cells_shown row first [] [] long at = refl
cells_shown row first [] (cell ∷ cells) long at = absurd (omega (arith, long))
cells_shown row first (column ∷ columns) [] long at = absurd (omega (arith, long))
cells_shown row first (column ∷ columns) (cell ∷ cells) long at =
    let head : get_or row.cells first Null ≡ cell = at 0 first (omega arith) in
    let tail = cells_shown row (first + 1) columns cells (omega (arith, long)) (λ k j is. at (suc k) j (omega (arith, is))) in
    λ j. head j ∷ tail j

pub map_fixed : {X : Type 0} (f : X → X) (xs : List X) → ((x : X) → Among xs x → f x ≡ x) → map f xs ≡ xs
map_fixed f [] fixed = refl
map_fixed f (x ∷ xs) fixed =
    let tail = map_fixed f xs (λ y a. fixed y (inr a)) in
    let head = fixed x (inl refl) in
    λ j. head j ∷ tail j

-- ---- the query for the best rows

module _ (block : Block) (table : FromTable) where
  abbrev inner : Block
  inner = best_rows_block block table

  abbrev IsFull : AnswerRow → Type 0
  IsFull row = length row.cells ≡ length table.schema.columns

  pub output_full : (row : AnswerRow) → IsFull row → output_row inner (row_sight row) ≡ row
  output_full row full =
      let cells = cells_shown row 0 table.schema.columns row.cells full (λ k j is. (let same : j ≡ k = omega (arith, is) in ap (λ n. get_or row.cells n Null) same)) in
      λ j. record { cells = cells j }

  best_there : (rows : List AnswerRow) (row : AnswerRow) → Among (best_table_rows block rows) row → Among rows row
  best_there rows row a =
      let passing : AnswerRow → Bool = λ row. passes block.filter (row_sight row) in
      (among_kept passing rows row ((among_kept (is_unbettered (row_better block.term block.groups) (filter passing rows)) (filter passing rows) row a).0)).0

  inner_outputs : (rows : List AnswerRow) → ((row : AnswerRow) → Among rows row → IsFull row) → outputs inner (rows ∷ []) ≡ best_table_rows block rows
  inner_outputs rows full =
      let out : Rows → AnswerRow = λ choice. output_row inner (shown_by choice) in
      let choices = best_of inner inner.term inner.groups (filter (λ choice. passes inner.filter (shown_by choice)) (product (rows ∷ []))) in
      ap (map out) (filter_true (λ choice. passes [] (shown_by choice)) choices (λ choice. refl))
      ∙ ap (map out) (best_choices_are inner rows)
      ∙ map-map out single (best_table_rows block rows)
      ∙ map_fixed (λ row. output_row inner (row_sight row)) (best_table_rows block rows) (λ row a. output_full row (full row (best_there rows row a)))

  module _ (places : HasPlaces block) (one : block.from ≡ table ∷ []) where
    places_shown : (first : ℕ) (columns : List Column) → first + length columns ≡ length table.schema.columns → All (λ (output : Output). IsScalar (table ∷ []) output.scalar) (columns_shown first columns)
    places_shown first [] long = All-nil _
    places_shown first (column ∷ columns) long =
        let place : IsPlace (table ∷ []) (record { table = 0; column = first }) = record { table = omega arith; column = omega (arith, long) } in
        All-cons (λ (output : Output). IsScalar (table ∷ []) output.scalar) (record { name = column.name; scalar = scalar.Column (record { table = 0; column = first }) }) (columns_shown (first + 1) columns) place
        (places_shown (first + 1) columns (omega (arith, long)))

    pub inner_places : HasPlaces inner
    inner_places = record {
      output = subst (λ from. All (λ (output : Output). IsScalar from output.scalar) (columns_shown 0 table.schema.columns)) (sym one) (places_shown 0 table.schema.columns (omega arith));
      filter = places.filter;
      leaves = places.leaves;
      groups = places.groups;
      only = All-nil _;
    }

    -- the answer has the best rows, each as often
    pub inner_rows : (tables : Tables) → ((row : AnswerRow) → Among (rows_of tables table.index) row → IsFull row) → IsPermutation (best_table_rows block (rows_of tables table.index)) ((answer_of tables inner).rows)
    inner_rows tables full =
        let rows = rows_of tables table.index in
        let shown = outputs inner (sources tables block.from) in
        let is : shown ≡ best_table_rows block rows = ap (λ from. outputs inner (sources tables from)) one ∙ inner_outputs rows full in
        subst (λ l. IsPermutation l ((answer_of tables inner).rows)) is
        (subst (IsPermutation shown) (sym (ap (λ (answer : Answer). answer.rows) (answer_is tables inner inner_places))) ((arranged_is false [] shown).kept))

    -- ---- parts

    abbrev passing : AnswerRow → Bool
    passing row = passes block.filter (row_sight row)

    abbrev better : AnswerRow → AnswerRow → Bool
    better = row_better block.term block.groups

    -- whether a row is a best one of a list
    abbrev is_best_of : List AnswerRow → AnswerRow → Bool
    is_best_of rows row = passing row && is_unbettered better (filter passing rows) row

    best_by_test : (rows : List AnswerRow) → best_table_rows block rows ≡ filter (is_best_of rows) rows
    best_by_test rows = filter_filter (is_unbettered better (filter passing rows)) passing rows

    abbrev left_of : List AnswerRow → List AnswerRow
    left_of rows = filter (λ row. not (is_best_of rows row)) rows

    abbrev answer_rows : Tables → List AnswerRow
    answer_rows part = (answer_of part inner).rows

    part_parted : (part : Tables) → ((row : AnswerRow) → Among (rows_of part table.index) row → IsFull row) → IsPermutation (rows_of part table.index) (answer_rows part ++ left_of (rows_of part table.index))
    part_parted part full =
        let rows = rows_of part table.index in
        IsPermutation-trans rows (best_table_rows block rows ++ left_of rows) (answer_rows part ++ left_of rows)
        (subst (λ l. IsPermutation rows (l ++ left_of rows)) (sym (best_by_test rows)) (IsPermutation-filter_both (is_best_of rows) (λ row. not (is_best_of rows row)) (λ row. refl) rows))
        (IsPermutation-append (best_table_rows block rows) (answer_rows part) (left_of rows) (left_of rows) (inner_rows part full) (IsPermutation-refl (left_of rows)))

    abbrev part_rows : Tables → List AnswerRow
    part_rows part = rows_of part table.index

    abbrev part_left : Tables → List AnswerRow
    part_left part = left_of (part_rows part)

    all_parted : (parts : List Tables) → ((row : AnswerRow) → Among (flat_map part_rows parts) row → IsFull row) → IsPermutation (flat_map part_rows parts) (flat_map answer_rows parts ++ flat_map part_left parts)
    all_parted [] full = IsPermutation-refl []
    all_parted (part ∷ parts) full =
        let first = part_parted part (λ row a. full row (among_front (part_rows part) (flat_map part_rows parts) row a)) in
        let rest = all_parted parts (λ row a. full row (among_back (part_rows part) (flat_map part_rows parts) row a)) in
        IsPermutation-trans (part_rows part ++ flat_map part_rows parts) ((answer_rows part ++ part_left part) ++ (flat_map answer_rows parts ++ flat_map part_left parts)) ((answer_rows part ++ flat_map answer_rows parts) ++ (part_left part ++ flat_map part_left parts))
        (IsPermutation-append (part_rows part) (answer_rows part ++ part_left part) (flat_map part_rows parts) (flat_map answer_rows parts ++ flat_map part_left parts) first rest)
        (middle_moved (answer_rows part) (part_left part) (flat_map answer_rows parts) (flat_map part_left parts))

    kept_by_parts : (parts : List Tables) (rows joined : List AnswerRow) → rows ≡ flat_map part_rows parts → joined ≡ flat_map answer_rows parts → ((row : AnswerRow) → Among rows row → IsFull row) → KeepsBestRows block rows joined
    kept_by_parts parts rows joined rows_are joined_are full = record {
      left_out = flat_map part_left parts;
      parted = subst (λ l. IsPermutation l (joined ++ flat_map part_left parts)) (sym rows_are)
          (subst (λ l. IsPermutation (flat_map part_rows parts) (l ++ flat_map part_left parts)) (sym joined_are)
          (all_parted parts (λ row a. full row (subst (λ l. Among l row) (sym rows_are) a))));
      none_best = λ row left is_best.
          let of = among_flat_map part_left parts row (among_from_Contains (flat_map part_left parts) row left) in
          let fails = (among_kept (λ row. not (is_best_of (part_rows of.0) row)) (part_rows of.0) row of.2).1 in
          let wins = (among_kept (is_best_of rows) rows row (subst (λ l. Among l row) (best_by_test rows) (among_from_Contains (best_table_rows block rows) row is_best))).1 in
          let within : (y : AnswerRow) → Among (filter passing (part_rows of.0)) y → Among (filter passing rows) y =
          λ y a. (let there = among_kept passing (part_rows of.0) y a in among_filter passing rows y (subst (λ l. Among l y) (sym rows_are) (among_flat_mapped part_rows parts of.0 y of.1 there.0)) there.1) in
          let wins_there = and_from _ _ ((and_parts _ _ wins).0) (unbettered_in_part better (filter passing (part_rows of.0)) (filter passing rows) within row ((and_parts _ _ wins).1)) in
          both_ways (is_best_of (part_rows of.0) row) (not-true (is_best_of (part_rows of.0) row) fails) wins_there;
    }

-- ---- the laws

pub full_rows : (columns : List Column) (rows : List AnswerRow) → AreFull columns rows → (row : AnswerRow) → Among rows row → length row.cells ≡ length columns
full_rows columns rows full row a = All-contains (λ (row : AnswerRow). length row.cells ≡ length columns) rows row full (Contains_from_among rows row a)

pub answers_best : AnswersBestRows
answers_best block table tables places one full = inner_rows block table places one tables (full_rows table.schema.columns (rows_of tables table.index) full)

-- the rows that are kept are full too
pub full_kept : (columns : List Column) (rows kept left : List AnswerRow) → IsPermutation rows (kept ++ left) → AreFull columns rows → AreFull columns kept
full_kept columns rows kept left parted full =
    let Full : AnswerRow → Type 0 = λ row. length row.cells ≡ length columns in
    All-first Full kept left (All-permutation Full rows (kept ++ left) parted full)

pub answers_parts : AnswersByParts
answers_parts block table parts whole joined places one is =
    let keeps =
    kept_by_parts block table places one parts (rows_of whole table.index) (rows_of joined table.index) is.rows is.answers (full_rows table.schema.columns (rows_of whole table.index) is.full)
    in
    (full_kept table.schema.columns (rows_of whole table.index) (rows_of joined table.index) keeps.left_out keeps.parted is.full, answers_kept block table whole joined places one keeps)

-- ---- a valid table has full rows

row_full : (columns : List Column) (cells : List Value) → IsRow columns cells → length cells ≡ length columns
row_full [] [] is = refl
row_full [] (cell ∷ cells) is = absurd is
row_full (column ∷ columns) [] is = absurd is
row_full (column ∷ columns) (cell ∷ cells) is = let rest = row_full columns cells is.1 in omega (arith, rest)

pub full_in_valid : HasFullRows
full_in_valid block table tables one fits valid =
    let at : IsTableOf tables table = All-head (IsTableOf tables) table [] (subst (All (IsTableOf tables)) one fits) in
    let is : IsTable ((table_at tables table.index).table) = valid.all_valid table.index no_table at.there in
    subst (λ (columns : List Column). AreFull columns (rows_of tables table.index)) at.columns
    (All-weaker (λ (row : AnswerRow). IsRow (columns_of tables table.index) row.cells) (λ (row : AnswerRow). length row.cells ≡ length (columns_of tables table.index))
    (λ row. row_full (columns_of tables table.index) row.cells) (rows_of tables table.index) is.rows)
