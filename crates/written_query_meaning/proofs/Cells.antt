-- Where the cells of a row of the auxiliary query stand.
use Rattle.std.proofs.Common.{◌≡◌, ℕ, suc, ◌+◌, ◌-◌, ◌<◌, Bool, true, false, cond, List, [], ◌∷◌, length, get_or, map, take, nat_eq, Contains, Decides, refl, sym, ap, ◌∙◌, subst, arith, inl, inr, length-append}
use Rattle.std.specs.List.{flat_map, range_with_len}
use Rattle.std.proofs.lemmas.Bool.{and_parts, and_from, eqb-true, eq-eqb, both_ways}
use Rattle.std.proofs.lemmas.List.{get_or_append_left, get_or-append-add, get_or-map, length-map}
use Rattle.std.proofs.lemmas.List.Concat.{get_or-flat_map}
use Rattle.std.proofs.lemmas.List.FromFn.{get_or-range_with_len}
use Rattle.prefsql_values.specs.declared.value.Value.{Value}
use Rattle.prefsql_values.specs.declared.value.Value.TheVariants.{Null}
use Rattle.prefsql_tables.specs.declared.place.ColumnPlace.{ColumnPlace}
use Rattle.prefsql_tables.specs.Sight.{Sight}
use Rattle.order_laws.proofs.Members.{Among, among_from_Contains}
use Rattle.base_prefs.specs.declared.kind.Kind.{Kind}
use Rattle.base_prefs.specs.declared.kind.Kind.TheVariants.{Pos, Neg, PosPos, PosNeg, Layered, Explicit, Around, Between, Lowest, Highest}
use Rattle.pref_terms.specs.declared.term.Leaf.{Leaf}
use Rattle.rewritten_query.specs.Columns.{code_items, leaf_items, number_among, place_eq, rank_column}
use Rattle.written_query_meaning.specs.Held.{codes_of, held, leaf_values, rank_of}

pub place_eq-Decides : (p q : ColumnPlace) → Decides (place_eq p q) (p ≡ q)
place_eq-Decides p q = (
  λ h.
      let both = and_parts (nat_eq p.table q.table) (nat_eq p.column q.column) h in
      let tables = eqb-true p.table q.table both.0 in
      let columns = eqb-true p.column q.column both.1 in
      λ j. record { table = tables j; column = columns j },
  λ e. and_from (nat_eq p.table q.table) (nat_eq p.column q.column) (eq-eqb p.table q.table (ap (λ (r : ColumnPlace). r.table) e)) (eq-eqb p.column q.column (ap (λ (r : ColumnPlace). r.column) e)),
)

-- a place that is there stands at its number
found_among : (places : List ColumnPlace) (p : ColumnPlace) → Among places p → (number_among places p < length places) × (get_or places (number_among places p) p ≡ p)
found_among [] p a = absurd a
found_among (q ∷ places) p a =
    shown (place_eq q p) (λ h. (place_eq-Decides q p).0 h) (λ other. found_among places p (later other a))
  where
    later : place_eq q p ≡ false → Among (q ∷ places) p → Among places p
    later other (inl e) = absurd (both_ways (place_eq q p) other ((place_eq-Decides q p).1 e))
    later other (inr a) = a

    shown : (b : Bool) → (b ≡ true → q ≡ p) → (b ≡ false → (number_among places p < length places) × (get_or places (number_among places p) p ≡ p))
        → (cond b 0 (number_among places p + 1) < suc (length places)) × (get_or (q ∷ places) (cond b 0 (number_among places p + 1)) p ≡ p)
    shown true here there = (omega arith, here refl)
    shown false here there =
        let found = there refl in
        let e : number_among places p + 1 ≡ suc (number_among places p) = omega arith in
        (omega (arith, found.0), ap (λ k. get_or (q ∷ places) k p) e ∙ found.1)

module _ (places : List ColumnPlace) (leaves : List Leaf) (sight : Sight) where
  abbrev cells : List Value
  cells = (held places leaves sight).cells

  -- a used value
  pub used_cell : (p : ColumnPlace) → Contains places p → get_or (held places leaves sight).cells (number_among places p) Null ≡ sight p
  used_cell p there =
      let found = found_among places p (among_from_Contains places p there) in
      let within : number_among places p < length (map sight places) = omega (arith, found.0, length-map places sight) in
      get_or_append_left (map sight places) (flat_map (leaf_values sight) leaves) Null (number_among places p) within
      ∙ get_or-map sight places (number_among places p) p Null found.0
      ∙ ap sight found.1

  codes_width : (kind : Kind) (place : ColumnPlace) (n : ℕ) (v : Value) → length (code_items kind place n) ≡ length (codes_of kind v)
  codes_width (Pos s) place n v = refl
  codes_width (Neg s) place n v = refl
  codes_width (PosPos s t) place n v = refl
  codes_width (PosNeg s t) place n v = refl
  codes_width (Layered before after) place n v = refl
  codes_width (Explicit g) place n v = refl
  codes_width (Around z) place n v = refl
  codes_width (Between low up) place n v = refl
  codes_width Lowest place n v = refl
  codes_width Highest place n v = refl

  widths : (some : List Leaf) → length (flat_map leaf_items some) ≡ length (flat_map (leaf_values sight) some)
  widths [] = refl
  widths (leaf ∷ some) =
      let own = codes_width leaf.base leaf.place leaf.number (sight leaf.place) in
      let more = widths some in
      let left = length-append (leaf_items leaf) (flat_map leaf_items some) in
      let right = length-append (leaf_values sight leaf) (flat_map (leaf_values sight) some) in
      omega (arith, own, more, left, right)

  -- the j-th value of a leaf
  leaf_cell : (k j : ℕ) (leaf : Leaf) → k < length leaves → get_or leaves k leaf ≡ leaf → leaf.number ≡ k + 1 → j < length (leaf_values sight leaf)
      → get_or (held places leaves sight).cells (rank_column places leaves leaf.number + j) Null ≡ get_or (leaf_values sight leaf) j Null
  leaf_cell k j leaf small at numbered within =
      let before = take k leaves in
      let width = widths before in
      let front : length (map sight places) ≡ length places = length-map places sight in
      let take_is : leaf.number - 1 ≡ k = omega (arith, numbered) in
      let column : rank_column places leaves leaf.number ≡ length places + length (flat_map leaf_items before) = ap (λ m. length places + length (flat_map leaf_items (take m leaves))) take_is in
      let e : rank_column places leaves leaf.number + j ≡ length (map sight places) + (length (flat_map (leaf_values sight) before) + j) = omega (arith, column, width, front) in
      let inside : j < length (leaf_values sight (get_or leaves k leaf)) = subst_length (sym at) in
      ap (λ m. get_or (held places leaves sight).cells m Null) e
      ∙ get_or-append-add (map sight places) (flat_map (leaf_values sight) leaves) (length (flat_map (leaf_values sight) before) + j) Null
      ∙ get_or-flat_map (leaf_values sight) leaves k j leaf Null small inside
      ∙ ap (λ (l : Leaf). get_or (leaf_values sight l) j Null) at
    where
      subst_length : leaf ≡ get_or leaves k leaf → j < length (leaf_values sight (get_or leaves k leaf))
      subst_length same = subst (λ (l : Leaf). j < length (leaf_values sight l)) same within

  module _ (numbered : map (λ (leaf : Leaf). leaf.number) leaves ≡ range_with_len 1 (length leaves)) (leaf : Leaf) (there : Contains leaves leaf) where
    number_is : leaf.number ≡ there.0 + 1
    number_is =
        let k = there.0 in
        let listed : get_or (map (λ (l : Leaf). l.number) leaves) k 0 ≡ (get_or leaves k leaf).number = get_or-map (λ (l : Leaf). l.number) leaves k leaf 0 there.1 in
        let ranged : get_or (range_with_len 1 (length leaves)) k 0 ≡ 1 + k = get_or-range_with_len 1 (length leaves) k 0 there.1 in
        let own : (get_or leaves k leaf).number ≡ leaf.number = ap (λ (l : Leaf). l.number) there.2 in
        let both : get_or (map (λ (l : Leaf). l.number) leaves) k 0 ≡ get_or (range_with_len 1 (length leaves)) k 0 = ap (λ ns. get_or ns k 0) numbered in
        omega (arith, listed, ranged, own, both)

    pub rank_cell : get_or (held places leaves sight).cells (rank_column places leaves leaf.number) Null ≡ rank_of leaf.base (sight leaf.place)
    rank_cell =
        let e : rank_column places leaves leaf.number ≡ rank_column places leaves leaf.number + 0 = omega arith in
        ap (λ m. get_or (held places leaves sight).cells m Null) e
        ∙ leaf_cell there.0 0 leaf there.1 there.2 number_is (omega arith)

    pub code_cell : 0 < length (codes_of leaf.base (sight leaf.place)) → get_or (held places leaves sight).cells (rank_column places leaves leaf.number + 1) Null ≡ get_or (codes_of leaf.base (sight leaf.place)) 0 Null
    code_cell some = leaf_cell there.0 1 leaf there.1 there.2 number_is (omega (arith, some))
