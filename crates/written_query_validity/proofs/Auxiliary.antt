-- The auxiliary query is well formed, and what its columns are: the used columns with the domains they have in their
-- tables, and the numbers that the leaves rank by.
use Rattle.std.proofs.Common.{◌≡◌, ◌≢◌, ◌⊎◌, ◌∙◌, ℕ, zero, suc, ◌+◌, ◌-◌, ◌*◌, ◌≤◌, ◌<◌, ◌^◌, Bool, List, [], ◌∷◌, map, filter, length, get_or, All, refl, sym, ap, subst, arith, inl, inr, length-append}
use Rattle.std.specs.List.{range_with_len}
use Rattle.std.proofs.lemmas.List.Elements.{All-contains, All-head, All-tail}
use Rattle.std.proofs.lemmas.List.FromFn.{length-map-range_with_len}
use Rattle.std.proofs.lemmas.List.Sums.{count_by-le-length, length-filter}
use Rattle.prefsql_values.specs.declared.value.Domain.TheVariants.{Integer}
use Rattle.prefsql_tables.specs.declared.place.ColumnPlace.{ColumnPlace}
use Rattle.order_laws.proofs.Members.{Among, Contains_from_among, among_either, among_map, among_range}
use Rattle.base_prefs.specs.declared.kind.Kind.{Kind}
use Rattle.base_prefs.specs.declared.kind.Kind.TheVariants.{Pos, Neg, PosPos, PosNeg, Layered, Explicit, Around, Between, Lowest, Highest}
use Rattle.pref_terms.specs.declared.term.Leaf.{Leaf}
use Rattle.query_meaning.specs.BlockFits.{IsLeaf, IsPlace, columns_from}
use Rattle.query_meaning.specs.Valid.{IsFromTable, IsOfColumn, IsValidLeaf, named_values, no_column, place_domain}
use Rattle.query_meaning.specs.declared.block.FromTable.{FromTable}
use Rattle.sql_tree.specs.declared.tree.SqlItem.{SqlItem}
use Rattle.sql_tree.specs.Shown.{View}
use Rattle.rewritten_query.specs.Columns.{all_places, code_items, leaf_items, used_items}
use Rattle.rewritten_query.specs.Names.{code_name, column_name, of_tables, rank_name}
use Rattle.written_query_validity.proofs.Formed.{IsOf}
use Rattle.written_query_validity.proofs.Names.{Differ, lettered_letter, lettered_number}
use Rattle.written_query_validity.proofs.Ranks.{RanksOf, code_of, graph_literals, rank_of}
use Rattle.written_query_validity.proofs.Tables.{table_column, table_column_plain, tables_view}

-- ---- places

place_there : (from : List FromTable) (t : ℕ) (p : ColumnPlace) → Among (all_places t from) p → (t ≤ p.table) × (p.table < t + length from) × (p.column < length (columns_from from (p.table - t)))
place_there [] t p there = absurd there
place_there (table ∷ from) t p there =
    let place : ℕ → ColumnPlace = λ c. record { table = t; column = c } in
    elim (among_either (map place (range_with_len 0 (length table.schema.columns))) (all_places (t + 1) from) p there) [
      | inl here ↦
          let found = among_map place (range_with_len 0 (length table.schema.columns)) p here in
          let range = among_range 0 (length table.schema.columns) found.0 found.1 in
          let table_is : t ≡ p.table = ap (λ (q : ColumnPlace). q.table) found.2 in
          let column_is : found.0 ≡ p.column = ap (λ (q : ColumnPlace). q.column) found.2 in
          let first : 0 ≡ p.table - t = omega (arith, table_is) in
          (omega (arith, table_is), omega (arith, table_is), subst (λ k. p.column < length (columns_from (table ∷ from) k)) first (omega (arith, range.1, column_is)))
      | inr more ↦
          let found = place_there from (t + 1) p more in
          let next : suc (p.table - (t + 1)) ≡ p.table - t = omega (arith, found.0) in
          (omega (arith, found.0), omega (arith, found.1), subst (λ k. p.column < length (columns_from (table ∷ from) k)) next found.2)
    ]

pub place_of_all : (from : List FromTable) (p : ColumnPlace) → Among (all_places 0 from) p → IsPlace from p
place_of_all from p there =
    let found = place_there from 0 p there in
    let same : p.table - 0 ≡ p.table = omega arith in
    record { table = omega (arith, found.1); column = subst (λ k. p.column < length (columns_from from k)) same found.2 }

-- a number of columns that is surely enough
places_few : (t : ℕ) (from : List FromTable) → All IsFromTable from → length (all_places t from) ≤ 64 * length from
places_few t [] are = omega arith
places_few t (table ∷ from) are =
    let place : ℕ → ColumnPlace = λ c. record { table = t; column = c } in
    let own = length-map-range_with_len place 0 (length table.schema.columns) in
    let joined = length-append (map place (range_with_len 0 (length table.schema.columns))) (all_places (t + 1) from) in
    let here = (All-head IsFromTable table from are).schema.few in
    let more = places_few (t + 1) from (All-tail IsFromTable table from are) in
    omega (arith, own, joined, here, more)

pub filtered_few : (keeps : ColumnPlace → Bool) (from : List FromTable) → All IsFromTable from → length from ≤ 8 → length (filter keeps (all_places 0 from)) ≤ 512
filtered_few keeps from are few =
    let all = places_few 0 from are in
    omega (arith, all, few, length-filter keeps (all_places 0 from), count_by-le-length keeps (all_places 0 from))

-- ---- leaves

-- the leaves are numbered one after another, from a number on
abbrev pub AreNumberedFrom : ℕ → List Leaf → Type 0
AreNumberedFrom n [] = Unit {0}
AreNumberedFrom n (leaf ∷ leaves) = (leaf.number ≡ n) × AreNumberedFrom (n + 1) leaves

pub numbered_from : (n : ℕ) (leaves : List Leaf) → map (λ (leaf : Leaf). leaf.number) leaves ≡ range_with_len n (length leaves) → AreNumberedFrom n leaves
numbered_from n [] are = tt
numbered_from n (leaf ∷ leaves) are = ((cc), numbered_from (n + 1) leaves (cc))

pub number_within : (n : ℕ) (leaves : List Leaf) → AreNumberedFrom n leaves → (leaf : Leaf) → Among leaves leaf → (n ≤ leaf.number) × (leaf.number < n + length leaves)
number_within n [] are leaf there = absurd there
number_within n (first ∷ leaves) are leaf (inl is) = let same = ap (λ (l : Leaf). l.number) is in (omega (arith, are.0, same), omega (arith, are.0, same))
number_within n (first ∷ leaves) are leaf (inr more) = let found = number_within (n + 1) leaves are.1 leaf more in (omega (arith, found.0), omega (arith, found.1))

module _ (from : List FromTable) where
  -- the leaf is valid and stands on a column that it ranks
  pub record IsGoodLeaf (leaf : Leaf) : Type 0 where
    pub valid : IsValidLeaf from leaf
    pub placed : IsLeaf from leaf

  pub leaf_ranks : (leaf : Leaf) → IsGoodLeaf leaf → RanksOf (place_domain from leaf.place) leaf.base
  leaf_ranks leaf is = record {
    sound = is.valid.sound;
    values = λ v there. All-contains (IsOfColumn from leaf.place) (named_values leaf.base) v is.valid.values (Contains_from_among (named_values leaf.base) v there);
    numbers = λ ranks. (is.placed.ranked.rankable no_column).numbers ranks;
  }

-- ---- the items of the leaves

-- the item has the name of a rank or a code, and is a number
pub record IsRankItem (writing : Bool) (view : View) (n : ℕ) (item : SqlItem) : Type 0 where
  pub name : (item.name ≡ rank_name n) ⊎ (item.name ≡ code_name n)
  pub value : IsOf writing view Integer item.value

abbrev pub item_names : List SqlItem → List (List ℕ)
item_names = map (λ (item : SqlItem). item.name)

rank_or_code : (n : ℕ) → rank_name n ≢ code_name n
rank_or_code n same = let letters = lettered_letter 76 69 n n same in absurd (omega (arith, letters))

module _ (writing : Bool) (from : List FromTable) (are : All IsFromTable from) where
  code_item : (kind : Kind) (place : ColumnPlace) (n : ℕ) → IsPlace from place → RanksOf (place_domain from place) kind → (item : SqlItem) → Among (code_items kind place n) item → IsRankItem writing (tables_view from) n item
  code_item (Explicit g) place n is ranks item (inl same) =
      subst (IsRankItem writing (tables_view from) n) same
      (record {
        name = inr refl;
        value =
            code_of writing (tables_view from) (place_domain from place) (of_tables place) (table_column writing from are place is) g.edges
            (graph_literals (place_domain from place) g.edges g.acyclic ranks.sound ranks.values) ranks.sound.few;
      })
  code_item (Explicit g) place n is ranks item (inr none) = absurd none
  code_item (Pos s) place n is ranks item there = absurd there
  code_item (Neg s) place n is ranks item there = absurd there
  code_item (PosPos s t) place n is ranks item there = absurd there
  code_item (PosNeg s t) place n is ranks item there = absurd there
  code_item (Layered before after) place n is ranks item there = absurd there
  code_item (Around z) place n is ranks item there = absurd there
  code_item (Between low up) place n is ranks item there = absurd there
  code_item Lowest place n is ranks item there = absurd there
  code_item Highest place n is ranks item there = absurd there

  pub leaf_item : (leaf : Leaf) → IsGoodLeaf from leaf → (item : SqlItem) → Among (leaf_items leaf) item → IsRankItem writing (tables_view from) leaf.number item
  leaf_item leaf is item (inl same) =
      let there = is.placed.ranked.there in
      subst (IsRankItem writing (tables_view from) leaf.number) same
      (record {
        name = inl refl;
        value =
            rank_of writing (tables_view from) (place_domain from leaf.place) (of_tables leaf.place) (table_column writing from are leaf.place there)
            (table_column_plain writing from are leaf.place there) leaf.base (leaf_ranks from leaf is);
      })
  leaf_item leaf is item (inr more) = code_item leaf.base leaf.place leaf.number is.placed.ranked.there (leaf_ranks from leaf is) item more

one_differ : (name : List ℕ) → Differ (name ∷ [])
one_differ name = ((λ other none. absurd none), tt)

pub code_differ : (kind : Kind) (place : ColumnPlace) (n : ℕ) → Differ (rank_name n ∷ item_names (code_items kind place n))
code_differ (Explicit g) place n = ((λ other there. elim there [ inl is ↦ (λ same. rank_or_code n (same ∙ sym is)) | inr none ↦ absurd none ]), one_differ (code_name n))
code_differ (Pos s) place n = one_differ (rank_name n)
code_differ (Neg s) place n = one_differ (rank_name n)
code_differ (PosPos s t) place n = one_differ (rank_name n)
code_differ (PosNeg s t) place n = one_differ (rank_name n)
code_differ (Layered before after) place n = one_differ (rank_name n)
code_differ (Around z) place n = one_differ (rank_name n)
code_differ (Between low up) place n = one_differ (rank_name n)
code_differ Lowest place n = one_differ (rank_name n)
code_differ Highest place n = one_differ (rank_name n)

-- ---- the items of used columns

pub record IsUsedItem (places : List ColumnPlace) (n : ℕ) (item : SqlItem) : Type 0 where
  pub number : ℕ
  pub first : n ≤ number
  pub last : number < n + length places
  pub name : item.name ≡ column_name number
  pub place : ColumnPlace
  pub there : Among places place
  pub value : item.value ≡ of_tables place

pub used_item : (n : ℕ) (places : List ColumnPlace) (item : SqlItem) → Among (used_items n places) item → IsUsedItem places n item
used_item n [] item there = absurd there
used_item n (p ∷ places) item (inl is) =
    subst (IsUsedItem (p ∷ places) n) is (record { number = n; first = omega arith; last = omega arith; name = refl; place = p; there = inl refl; value = refl })
used_item n (p ∷ places) item (inr more) =
    let is = used_item (n + 1) places item more in
    record { number = is.number; first = omega (arith, is.first); last = omega (arith, is.last); name = is.name; place = is.place; there = inr is.there; value = is.value }

pub used_differ : (n : ℕ) (places : List ColumnPlace) → n + length places < 2 ^ 32 → Differ (item_names (used_items n places))
used_differ n [] small = tt
used_differ n (p ∷ places) small = (
  (λ other there same.
      let found = among_map (λ (item : SqlItem). item.name) (used_items (n + 1) places) other there in
      let is = used_item (n + 1) places found.0 found.1 in
      let equal = lettered_number 67 67 n is.number (omega (arith, small)) (omega (arith, is.last, small)) (same ∙ sym found.2 ∙ is.name) in
      omega (arith, equal, is.first)),
  used_differ (n + 1) places (omega (arith, small)),
)

pub used_length : (n : ℕ) (places : List ColumnPlace) → length (used_items n places) ≡ length places
used_length n [] = refl
used_length n (p ∷ places) = ap suc (used_length (n + 1) places)

pub used_value : (n : ℕ) (places : List ColumnPlace) (k : ℕ) (d : SqlItem) (q : ColumnPlace) → k < length places → (get_or (used_items n places) k d).value ≡ of_tables (get_or places k q)
used_value n [] k d q within = absurd (omega (arith, within))
used_value n (p ∷ places) zero d q within = refl
used_value n (p ∷ places) (suc k) d q within = used_value (n + 1) places k d q (omega (arith, within))
