-- The columns of the auxiliary query: their names differ, a used column has the domain of its table's, and what a leaf ranks
-- by is a number.
use Rattle.std.proofs.Common.{◌≡◌, ◌≢◌, ◌∙◌, ℕ, suc, ◌+◌, ◌-◌, ◌≤◌, ◌<◌, ◌^◌, Bool, true, false, cond, List, [], ◌∷◌, ◌++◌, map, length, take, get_or, All, Decides, eq-eqb, refl, sym, ap, subst, arith, inl, inr, length-append}
use Rattle.std.specs.List.{flat_map}
use Rattle.std.proofs.lemmas.Bool.{and_from, and_parts, both_ways, eqb-true}
use Rattle.std.proofs.lemmas.List.{get_or-map, get_or_append_left, get_or-append_right, length-map, map-append}
use Rattle.prefsql_values.specs.declared.value.Domain.TheVariants.{Integer}
use Rattle.prefsql_tables.specs.declared.place.ColumnPlace.{ColumnPlace}
use Rattle.order_laws.proofs.Members.{Among, among_either, among_flat_map, among_map}
use Rattle.pref_terms.specs.declared.term.Leaf.{Leaf}
use Rattle.query_meaning.specs.BlockFits.{IsPlace}
use Rattle.query_meaning.specs.Valid.{IsFromTable, place_domain}
use Rattle.query_meaning.specs.declared.block.FromTable.{FromTable}
use Rattle.sql_tree.specs.declared.tree.SqlItem.{SqlItem}
use Rattle.sql_tree.specs.Shown.{ShownColumn, View}
use Rattle.sql_tree.specs.WellFormed.{is_name, judged_scalar}
use Rattle.rewritten_query.specs.Columns.{auxiliary_items, leaf_items, number_among, place_eq, rank_column, used_items}
use Rattle.rewritten_query.specs.Names.{lettered, of_tables}
use Rattle.written_query_validity.proofs.Auxiliary.{AreNumberedFrom, IsGoodLeaf, IsRankItem, code_differ, item_names, leaf_item, number_within, used_differ, used_item, used_length, used_value}
use Rattle.written_query_validity.proofs.Names.{ColumnsDiffer, Differ, among_at, columns_differ, differ_joined, lettered_letter, lettered_name, lettered_number}
use Rattle.written_query_validity.proofs.Queries.{IsItem, shown_column, shown_columns}
use Rattle.written_query_validity.proofs.Tables.{table_column, tables_view}

-- ---- the place of a used column

pub place_eq-Decides : (p q : ColumnPlace) → Decides (place_eq p q) (p ≡ q)
place_eq-Decides p q = (
  λ h.
      let parts = and_parts _ _ h in
      let tables = eqb-true p.table q.table parts.0 in
      let columns = eqb-true p.column q.column parts.1 in
      λ j. record { table = tables j; column = columns j },
  λ e. and_from _ _ (eq-eqb p.table q.table (ap (λ (r : ColumnPlace). r.table) e)) (eq-eqb p.column q.column (ap (λ (r : ColumnPlace). r.column) e)),
)

-- a place that is there stands at its number
pub found_among : (places : List ColumnPlace) (p : ColumnPlace) → Among places p → (number_among places p < length places) × (get_or places (number_among places p) p ≡ p)
found_among [] p there = absurd there
found_among (q ∷ places) p there =
    shown (place_eq q p) (λ same. (place_eq-Decides q p).0 same) (λ other. found_among places p (later other there))
  where
    later : place_eq q p ≡ false → Among (q ∷ places) p → Among places p
    later other (inl is) = absurd (both_ways (place_eq q p) other ((place_eq-Decides q p).1 is))
    later other (inr more) = more

    shown : (b : Bool) → (b ≡ true → q ≡ p) → (b ≡ false → (number_among places p < length places) × (get_or places (number_among places p) p ≡ p))
        → (cond b 0 (number_among places p + 1) < suc (length places)) × (get_or (q ∷ places) (cond b 0 (number_among places p + 1)) p ≡ p)
    shown true here there = (omega arith, here refl)
    shown false here there =
        let found = there refl in
        let e : number_among places p + 1 ≡ suc (number_among places p) = omega arith in
        (omega (arith, found.0), ap (λ k. get_or (q ∷ places) k p) e ∙ found.1)

-- ---- how far the items of the leaves go

leaf_width : (n : ℕ) (leaves : List Leaf) → AreNumberedFrom n leaves → (leaf : Leaf) → Among leaves leaf → length (flat_map leaf_items (take (leaf.number - n) leaves)) + length (leaf_items leaf) ≤ length (flat_map leaf_items leaves)
leaf_width n [] are leaf there = absurd there
leaf_width n (first ∷ leaves) are leaf (inl is) =
    let number : leaf.number - n ≡ 0 = (let same = ap (λ (l : Leaf). l.number) is in omega (arith, same, are.0)) in
    let none : length (flat_map leaf_items (take (leaf.number - n) (first ∷ leaves))) ≡ 0 = ap (λ k. length (flat_map leaf_items (take k (first ∷ leaves)))) number in
    let joined = length-append (leaf_items first) (flat_map leaf_items leaves) in
    let same = ap (λ l. length (leaf_items l)) is in
    omega (arith, none, joined, same)
leaf_width n (first ∷ leaves) are leaf (inr more) =
    let after = number_within (n + 1) leaves are.1 leaf more in
    let number : leaf.number - n ≡ suc (leaf.number - (n + 1)) = omega (arith, after.0) in
    let before : length (flat_map leaf_items (take (leaf.number - n) (first ∷ leaves))) ≡ length (leaf_items first ++ flat_map leaf_items (take (leaf.number - (n + 1)) leaves)) =
    ap (λ k. length (flat_map leaf_items (take k (first ∷ leaves)))) number
    in
    let split = length-append (leaf_items first) (flat_map leaf_items (take (leaf.number - (n + 1)) leaves)) in
    let joined = length-append (leaf_items first) (flat_map leaf_items leaves) in
    let rest = leaf_width (n + 1) leaves are.1 leaf more in
    omega (arith, before, split, joined, rest)

-- ---- the items and the columns

names_shown : (writing : Bool) (view : View) (items : List SqlItem) → map (λ (c : ShownColumn). c.name) (shown_columns writing view items) ≡ item_names items
names_shown writing view [] = refl
names_shown writing view (item ∷ items) = ap (λ names. item.name ∷ names) (names_shown writing view items)

module _ (writing : Bool) (from : List FromTable) (are : All IsFromTable from) (places : List ColumnPlace) (placed : (p : ColumnPlace) → Among places p → IsPlace from p) (few_places : length places ≤ 512)
    (leaves : List Leaf) (good : (leaf : Leaf) → Among leaves leaf → IsGoodLeaf from leaf) (numbered : AreNumberedFrom 1 leaves) (few_leaves : length leaves ≤ 8) where
  abbrev pub items : List SqlItem
  items = auxiliary_items places leaves

  abbrev pub columns : List ShownColumn
  columns = shown_columns writing (tables_view from) items

  -- an item of a leaf among some of them, numbered from n on
  leaf_of_item : (some : List Leaf) → ((leaf : Leaf) → Among some leaf → IsGoodLeaf from leaf) → (item : SqlItem) → Among (flat_map leaf_items some) item
      → (leaf : Leaf) × Among some leaf × IsRankItem writing (tables_view from) leaf.number item
  leaf_of_item some each item there =
      let found = among_flat_map leaf_items some item there in
      (found.0, found.1, leaf_item writing from are found.0 (each found.0 found.1) item found.2)

  rank_item_name : (n : ℕ) (item : SqlItem) → n < 2 ^ 32 → IsRankItem writing (tables_view from) n item → is_name item.name ≡ true
  rank_item_name n item small is = elim is.name [
    | inl same ↦ ap is_name same ∙ lettered_name 76 n (omega arith) small
    | inr same ↦ ap is_name same ∙ lettered_name 69 n (omega arith) small
  ]

  pub items_formed : (item : SqlItem) → Among items item → IsItem writing (tables_view from) item
  items_formed item there = elim (among_either (used_items 1 places) (flat_map leaf_items leaves) item there) [
    | inl early ↦
        let is = used_item 1 places item early in
        record {
          name = ap is_name is.name ∙ lettered_name 67 is.number (omega arith) (omega (arith, is.last, few_places));
          value = ap (λ v. (judged_scalar writing v (tables_view from)).well) is.value ∙ (table_column writing from are is.place (placed is.place is.there)).well;
        }
    | inr late ↦
        let found = leaf_of_item leaves good item late in
        let range = number_within 1 leaves numbered found.0 found.1 in
        record { name = rank_item_name found.0.number item (omega (arith, range.1, few_leaves)) found.2; value = found.2.value.well }
  ]

  -- two items of different leaves
  apart_by_number : (m n : ℕ) (a b : SqlItem) → m < n → n < 2 ^ 32 → IsRankItem writing (tables_view from) m a → IsRankItem writing (tables_view from) n b → a.name ≢ b.name
  apart_by_number m n a b less small a_is b_is same = elim a_is.name [
    | inl a_rank ↦ elim b_is.name [
      | inl b_rank ↦ equal 76 76 (sym a_rank ∙ same ∙ b_rank)
      | inr b_code ↦ equal 76 69 (sym a_rank ∙ same ∙ b_code)
    ]
    | inr a_code ↦ elim b_is.name [
      | inl b_rank ↦ equal 69 76 (sym a_code ∙ same ∙ b_rank)
      | inr b_code ↦ equal 69 69 (sym a_code ∙ same ∙ b_code)
    ]
  ]
    where
      equal : (x y : ℕ) → lettered x m ≡ lettered y n → ⊥
      equal x y e = let numbers = lettered_number x y m n (omega (arith, less, small)) small e in omega (arith, numbers, less)

  leaves_differ : (n : ℕ) (some : List Leaf) → AreNumberedFrom n some → n + length some < 2 ^ 32 → ((leaf : Leaf) → Among some leaf → IsGoodLeaf from leaf) → Differ (item_names (flat_map leaf_items some))
  leaves_differ n [] are_numbered small each = tt
  leaves_differ n (leaf ∷ some) are_numbered small each =
      let rest = flat_map leaf_items some in
      subst Differ (sym (map-append (λ (item : SqlItem). item.name) (leaf_items leaf) rest))
      (differ_joined (item_names (leaf_items leaf)) (item_names rest) (code_differ leaf.base leaf.place leaf.number)
      (leaves_differ (n + 1) some are_numbered.1 (omega (arith, small)) (λ l there. each l (inr there)))
      (λ x y x_there y_there same.
      let a = among_map (λ (item : SqlItem). item.name) (leaf_items leaf) x x_there in
      let b = among_map (λ (item : SqlItem). item.name) rest y y_there in
      let other = leaf_of_item some (λ l there. each l (inr there)) b.0 b.1 in
      let range = number_within (n + 1) some are_numbered.1 other.0 other.1 in
      apart_by_number leaf.number other.0.number a.0 b.0 (omega (arith, are_numbered.0, range.0)) (omega (arith, range.1, small))
      (leaf_item writing from are leaf (each leaf (inl refl)) a.0 a.1) other.2 (a.2 ∙ same ∙ sym b.2)))

  names_differ : Differ (item_names items)
  names_differ =
      let first = used_items 1 places in
      let second = flat_map leaf_items leaves in
      subst Differ (sym (map-append (λ (item : SqlItem). item.name) first second))
      (differ_joined (item_names first) (item_names second) (used_differ 1 places (omega (arith, few_places))) (leaves_differ 1 leaves numbered (omega (arith, few_leaves)) good)
      (λ x y x_there y_there same.
      let a = among_map (λ (item : SqlItem). item.name) first x x_there in
      let b = among_map (λ (item : SqlItem). item.name) second y y_there in
      let used = used_item 1 places a.0 a.1 in
      let other = leaf_of_item leaves good b.0 b.1 in
      let joined = sym used.name ∙ a.2 ∙ same ∙ sym b.2 in
      elim other.2.name [
        | inl rank ↦ (let letters = lettered_letter 67 76 used.number other.0.number (joined ∙ rank) in absurd (omega (arith, letters)))
        | inr code ↦ (let letters = lettered_letter 67 69 used.number other.0.number (joined ∙ code) in absurd (omega (arith, letters)))
      ]))

  pub columns_apart : ColumnsDiffer columns
  columns_apart = columns_differ columns (subst Differ (sym (names_shown writing (tables_view from) items)) names_differ)

  pub columns_length : length columns ≡ length places + length (flat_map leaf_items leaves)
  columns_length =
      length-map items (shown_column writing (tables_view from))
      ∙ length-append (used_items 1 places) (flat_map leaf_items leaves)
      ∙ ap (λ k. k + length (flat_map leaf_items leaves)) (used_length 1 places)

  abbrev shown : SqlItem → ShownColumn
  shown = shown_column writing (tables_view from)

  -- behind the used columns all are numbers
  pub rank_domain : (k : ℕ) (d : ShownColumn) → length places ≤ k → k < length columns → (get_or columns k d).shape.domain ≡ Integer
  rank_domain k d after within =
      let first = map shown (used_items 1 places) in
      let second = map shown (flat_map leaf_items leaves) in
      let first_length : length first ≡ length places = length-map (used_items 1 places) shown ∙ used_length 1 places in
      let second_length = length-map (flat_map leaf_items leaves) shown in
      let at : get_or columns k d ≡ get_or second (k - length places) d =
      ap (λ cs. get_or cs k d) (map-append shown (used_items 1 places) (flat_map leaf_items leaves)) ∙ get_or-append_right first second (length places) k d first_length after
      in
      let small : k - length places < length second = omega (arith, within, columns_length, second_length, after) in
      let item = among_map shown (flat_map leaf_items leaves) (get_or second (k - length places) d) (among_at second (k - length places) d small) in
      let found = leaf_of_item leaves good item.0 item.1 in
      ap (λ (c : ShownColumn). c.shape.domain) (at ∙ sym item.2) ∙ found.2.value.same

  pub used_domain : (p : ColumnPlace) (d : ShownColumn) → Among places p → (get_or columns (number_among places p) d).shape.domain ≡ place_domain from p
  used_domain p d there =
      let first = used_items 1 places in
      let k = number_among places p in
      let found = found_among places p there in
      let none : SqlItem = record { value = of_tables p; name = [] } in
      let within : k < length (map shown first) = (let a = length-map first shown in let b = used_length 1 places in omega (arith, a, b, found.0)) in
      let small : k < length first = (let b = used_length 1 places in omega (arith, b, found.0)) in
      let at : get_or columns k d ≡ shown (get_or first k none) =
      ap (λ cs. get_or cs k d) (map-append shown first (flat_map leaf_items leaves))
      ∙ get_or_append_left (map shown first) (map shown (flat_map leaf_items leaves)) d k within
      ∙ get_or-map shown first k none d small
      in
      let value : (get_or first k none).value ≡ of_tables p = used_value 1 places k none p found.0 ∙ ap of_tables found.1 in
      ap (λ (c : ShownColumn). c.shape.domain) at
      ∙ ap (λ v. (judged_scalar writing v (tables_view from)).shape.domain) value
      ∙ (table_column writing from are p (placed p there)).same

  -- where the items of a leaf stand
  pub rank_within : (leaf : Leaf) → Among leaves leaf → rank_column places leaves leaf.number + length (leaf_items leaf) ≤ length columns
  rank_within leaf there = let width = leaf_width 1 leaves numbered leaf there in omega (arith, width, columns_length)

  pub used_within : (p : ColumnPlace) → Among places p → number_among places p < length columns
  used_within p there = let found = found_among places p there in omega (arith, found.0, columns_length)
