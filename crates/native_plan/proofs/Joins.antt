-- The pairs of a join that are found by equal values are those that pass.
use Rattle.std.proofs.Common.{◌≡◌, ℕ, ◌+◌, ◌-◌, ◌<◌, ◌≤◌, Bool, true, false, cond, ◌&&◌, Option, Some, List, [], ◌∷◌, ◌++◌, length, length-append, get_or, map, take, filter, append-nil, All, Contains, refl, sym, ap, ◌∙◌, inl, inr, ⊎_elim, subst, arith}
use Rattle.std.specs.List.{flat_map, range_with_len}
use Rattle.std.specs.Prelude.{IfSome, slice_index}
use Rattle.std.proofs.lemmas.Bool.{false≢true}
use Rattle.std.proofs.lemmas.List.{get_or-append_right, get_or_append_left, get_or-map, length-map, take_more}
use Rattle.std.proofs.lemmas.Grind.{flat_map-append}
use Rattle.std.proofs.lemmas.List.Elements.{All-contains, All-head, All-tail, Contains-get_or, filter-append}
use Rattle.std.proofs.lemmas.List.FromFn.{fill_by_all}
use Rattle.prefsql_values.specs.Truth.{is_true}
use Rattle.prefsql_values.specs.declared.value.CompareOp.TheVariants.{Eq}
use Rattle.prefsql_values.specs.declared.value.Value.{Value}
use Rattle.prefsql_values.specs.declared.value.Value.TheVariants.{Null}
use Rattle.prefsql_tables.specs.Sight.{IsInSight, Sight}
use Rattle.prefsql_tables.specs.Table.{HasCell, cell_at}
use Rattle.prefsql_tables.specs.declared.place.ColumnPlace.{ColumnPlace}
use Rattle.prefsql_tables.specs.declared.place.Combo.{Combo}
use Rattle.order_laws.proofs.Members.{Among, Contains_from_among, all_at, among_from_Contains, among_kept, among_range}
use Rattle.conditions.specs.Fits.{CondFits, ScalarFits}
use Rattle.conditions.specs.declared.condition.Cond.{Cond}
use Rattle.conditions.specs.declared.condition.Scalar.{Scalar}
use Rattle.conditions.specs.declared.condition.Scalar.TheVariants.{Column}
use Rattle.conditions.proofs.CondReads.{scalars_of-Compare, truth-Compare}
use Rattle.query_meaning.specs.declared.asking.Asked.{Asked}
use Rattle.query_meaning.specs.declared.block.Block.{Block}
use Rattle.plan_algebra.specs.Conjuncts.{cond_of}
use Rattle.plan_algebra.specs.Meaning.{all_hold, holds_at, is_true_at, pairs_of}
use Rattle.plan_algebra.specs.declared.plan.Conjunct.{Conjunct}
use Rattle.plan_groups.specs.Groups.{row_at}
use Rattle.value_index.specs.Places.{are_equal, equal_places}
use Rattle.value_index.proofs.Equal.{equal_turned}
use Rattle.native_plan.specs.Asking.{CanAsk, CanAskAll, holds_all, sees}
use Rattle.native_plan.specs.Combos.{pair}
use Rattle.native_plan.specs.Joining.{IsEquated, equality}
use Rattle.native_plan.specs.declared.equating.Equated.{Equated}
use Rattle.native_plan.proofs.Arms.{all_from}

-- ---- lists

absorbed : (b c : Bool) → (c ≡ true → b ≡ true) → (b && c) ≡ c
absorbed true c h = refl
absorbed false true h = absurd (false≢true (h refl))
absorbed false false h = refl

module _ {X Y : Type 0} (p : Y → Bool) (f : X → Y) where
  kept_head : (x : X) (xs : List X) (b : Bool) → filter p (map f (cond b (x ∷ xs) xs)) ≡ cond (b && p (f x)) (f x ∷ filter p (map f xs)) (filter p (map f xs))
  kept_head x xs true = refl
  kept_head x xs false = refl

  -- where what passes has passed an earlier test, that test changes nothing
  pub earlier_test : (q : X → Bool) (xs : List X) → ((x : X) → Among xs x → p (f x) ≡ true → q x ≡ true) → filter p (map f (filter q xs)) ≡ filter p (map f xs)
  earlier_test q [] h = refl
  earlier_test q (x ∷ xs) h =
      kept_head x (filter q xs) (q x)
      ∙ ap (λ b. cond b (f x ∷ filter p (map f (filter q xs))) (filter p (map f (filter q xs)))) (absorbed (q x) (p (f x)) (h x (inl refl)))
      ∙ ap (λ ys. cond (p (f x)) (f x ∷ ys) ys) (earlier_test q xs (λ y a. h y (inr a)))

abbrev pub no_rows : Combo
no_rows = record { rows = [] }

-- the pairs with the combinations at all places are the pairs with all
all_places : (left : Combo) (rights : List Combo) → map (λ place. pair left (row_at rights place)) (range_with_len 0 (length rights)) ≡ map (pair left) rights
all_places left rights =
    sym (fill_by_all (λ place. pair left (row_at rights place)) (map (pair left) rights) (length rights) (pair left no_rows) (length-map rights (pair left))
    (λ k small. get_or-map (pair left) rights k no_rows (pair left no_rows) small))

module _ (holds : Combo → Bool) (left : Combo) (rights : List Combo) (see : Combo → Value) (v : Value)
    (needs : (right : Combo) → Among rights right → holds (pair left right) ≡ true → are_equal (see right) v ≡ true) where
  passed : (place : ℕ) → Among (range_with_len 0 (length (map see rights))) place → holds (pair left (row_at rights place)) ≡ true → are_equal (get_or (map see rights) place Null) v ≡ true
  passed place a h =
      let range = (among_range 0 (length (map see rights)) place a).1 in
      let small : place < length rights = omega (arith, range, length-map rights see) in
      ap (λ w. are_equal w v) (get_or-map see rights place no_rows Null small)
      ∙ needs (row_at rights place) (among_from_Contains rights (row_at rights place) (Contains-get_or rights place no_rows small)) h

  partners_pass : filter holds (map (λ place. pair left (row_at rights place)) (equal_places (map see rights) v)) ≡ filter holds (map (pair left) rights)
  partners_pass =
      earlier_test holds (λ place. pair left (row_at rights place)) (λ place. are_equal (get_or (map see rights) place Null) v) (range_with_len 0 (length (map see rights))) passed
      ∙ ap (λ n. filter holds (map (λ place. pair left (row_at rights place)) (range_with_len 0 n))) (length-map rights see)
      ∙ ap (filter holds) (all_places left rights)

-- the places of equal values are within the list
pub places_within : (rights : List Combo) (see : Combo → Value) (v : Value) → All (λ place. place < length rights) (equal_places (map see rights) v)
places_within rights see v =
    all_from (λ place. place < length rights) (equal_places (map see rights) v) (λ place a.
    let range = (among_range 0 (length (map see rights)) place (among_kept (λ k. are_equal (get_or (map see rights) k Null) v) (range_with_len 0 (length (map see rights))) place a).0).1 in
    omega (arith, range, length-map rights see))

-- the pairs of one combination more
pub pairs_more : (test : Combo → Bool) (lefts rights : List Combo) (i : ℕ) (left : Combo) (old new : List Combo) → i < length lefts → left ≡ get_or lefts i left
    → old ≡ filter test (pairs_of (take i lefts) rights) → new ≡ old ++ filter test (map (pair left) rights) → new ≡ filter test (pairs_of (take (i + 1) lefts) rights)
pairs_more test lefts rights i left old new small is before added =
    let last : flat_map (λ (l : Combo). map (pair l) rights) (left ∷ []) ≡ map (pair left) rights = append-nil (map (pair left) rights) in
    let more : pairs_of (take (i + 1) lefts) rights ≡ pairs_of (take i lefts) rights ++ map (pair left) rights =
    ap (flat_map (λ (l : Combo). map (pair l) rights)) (take_more lefts i left small)
    ∙ flat_map-append (λ (l : Combo). map (pair l) rights) (take i lefts) (get_or lefts i left ∷ [])
    ∙ ap (λ (l : Combo). pairs_of (take i lefts) rights ++ flat_map (λ (m : Combo). map (pair m) rights) (l ∷ [])) (sym is)
    ∙ ap (λ (ps : List Combo). pairs_of (take i lefts) rights ++ ps) last
    in
    added ∙ ap (λ (ps : List Combo). ps ++ filter test (map (pair left) rights)) before
    ∙ sym (filter-append test (pairs_of (take i lefts) rights) (map (pair left) rights)) ∙ ap (filter test) (sym more)

-- ---- what the condition that asks for equal values tells

module _ (asked : Asked) (conjuncts : List Conjunct) (first middle : ℕ) (columns : Equated) (is : IsEquated asked.block.now conjuncts middle columns) where
  abbrev block : Block
  block = asked.block.now

  told : (sight : Sight) (a b : ColumnPlace) → cond_of block is.conjunct ≡ Some (equality a b) → holds_at block sight is.conjunct ≡ true → are_equal (sight a) (sight b) ≡ true
  told sight a b e held = sym (ap is_true (truth-Compare sight (equality a b) Eq (Column a) (Column b) refl)) ∙ sym (ap (is_true_at sight) e) ∙ held

  -- where all conditions hold, the two values are equal
  values_equal : (sight : Sight) → all_hold block conjuncts sight ≡ true → are_equal (sight columns.right) (sight columns.left) ≡ true
  values_equal sight all =
      let held : holds_at block sight is.conjunct ≡ true = all_at (holds_at block sight) conjuncts is.conjunct all (among_from_Contains conjuncts is.conjunct is.there) in
      ⊎_elim
      (λ (e : cond_of block is.conjunct ≡ Some (equality columns.left columns.right)). equal_turned (sight columns.left) (sight columns.right) (told sight columns.left columns.right e held))
      (λ (e : cond_of block is.conjunct ≡ Some (equality columns.right columns.left)). told sight columns.right columns.left e held)
      is.equality

  both_seen : (combo : Combo) (a b : ColumnPlace) → cond_of block is.conjunct ≡ Some (equality a b) → CanAskAll asked conjuncts first combo
      → IsInSight asked.tables.now asked.from.now first combo.rows a × IsInSight asked.tables.now asked.from.now first combo.rows b
  both_seen combo a b e all =
      let asks = All-contains (CanAsk asked first combo) conjuncts is.conjunct all is.there in
      let fits : CondFits asked.tables.now asked.from.now first combo.rows (equality a b) = subst (λ (o : Option Cond). IfSome o (CondFits asked.tables.now asked.from.now first combo.rows)) e asks in
      let each = subst (All (ScalarFits asked.tables.now asked.from.now first combo.rows)) (scalars_of-Compare Eq (Column a) (Column b)) fits.each in
      let P : Scalar → Type 0 = ScalarFits asked.tables.now asked.from.now first combo.rows in
      (All-head P (Column a) (Column b ∷ []) each, All-head P (Column b) [] (All-tail P (Column a) (Column b ∷ []) each))

  -- both columns are in sight of a pair of which the conditions can be asked
  columns_seen : (combo : Combo) → CanAskAll asked conjuncts first combo
      → IsInSight asked.tables.now asked.from.now first combo.rows columns.left × IsInSight asked.tables.now asked.from.now first combo.rows columns.right
  columns_seen combo all =
      ⊎_elim
      (λ (e : cond_of block is.conjunct ≡ Some (equality columns.left columns.right)). both_seen combo columns.left columns.right e all)
      (λ (e : cond_of block is.conjunct ≡ Some (equality columns.right columns.left)). let both = both_seen combo columns.right columns.left e all in (both.1, both.0))
      is.equality

  module _ (left right : Combo) (ends : first + length left.rows ≡ middle) (asks : CanAskAll asked conjuncts first (pair left right)) where
    left_row : get_or (left.rows ++ right.rows) (columns.left.table - first) 0 ≡ get_or left.rows (columns.left.table - first) 0
    left_row =
        let from_first = (columns_seen (pair left right) asks).0.not_before in
        let side = is.sides.left in
        get_or_append_left left.rows right.rows 0 (columns.left.table - first) (omega (arith, ends, from_first, side))

    right_row : get_or (left.rows ++ right.rows) (columns.right.table - first) 0 ≡ get_or right.rows (columns.right.table - middle) 0
    right_row =
        let side = is.sides.right in
        let past : length left.rows ≤ columns.right.table - first = omega (arith, ends, side) in
        let rest : columns.right.table - first - length left.rows ≡ columns.right.table - middle = omega (arith, ends, side) in
        get_or-append_right left.rows right.rows (length left.rows) (columns.right.table - first) 0 refl past ∙ ap (λ n. get_or right.rows n 0) rest

    -- of a pair, each column shows what it shows of its part
    left_shows : sees asked first (pair left right) columns.left ≡ sees asked first left columns.left
    left_shows = ap (λ row. cell_at asked.tables.now (slice_index asked.from.now columns.left.table) row columns.left.column) left_row

    right_shows : sees asked first (pair left right) columns.right ≡ sees asked middle right columns.right
    right_shows = ap (λ row. cell_at asked.tables.now (slice_index asked.from.now columns.right.table) row columns.right.column) right_row

    pub left_seen : IsInSight asked.tables.now asked.from.now first left.rows columns.left
    left_seen =
        let whole = (columns_seen (pair left right) asks).0 in
        let side = is.sides.left in
        record {
          not_before = whole.not_before;
          in_combo = omega (arith, ends, side);
          in_from = whole.in_from;
          cell = subst (λ row. HasCell asked.tables.now (slice_index asked.from.now columns.left.table) row columns.left.column) left_row whole.cell;
        }

    pub right_seen : IsInSight asked.tables.now asked.from.now middle right.rows columns.right
    right_seen =
        let whole = (columns_seen (pair left right) asks).1 in
        let side = is.sides.right in
        let within = whole.in_combo in
        record {
          not_before = side;
          in_combo = omega (arith, ends, within, length-append left.rows right.rows);
          in_from = whole.in_from;
          cell = subst (λ row. HasCell asked.tables.now (slice_index asked.from.now columns.right.table) row columns.right.column) right_row whole.cell;
        }

    pub equal_needed : holds_all asked conjuncts first (pair left right) ≡ true → are_equal (sees asked middle right columns.right) (sees asked first left columns.left) ≡ true
    equal_needed held = (λ j. are_equal (sym right_shows j) (sym left_shows j)) ∙ values_equal (sees asked first (pair left right)) held

  -- ---- one combination and those that it is joined with

  pub all_right_seen : (left : Combo) (rights : List Combo) → first + length left.rows ≡ middle → All (λ right. CanAskAll asked conjuncts first (pair left right)) rights
      → All (λ (right : Combo). IsInSight asked.tables.now asked.from.now middle right.rows columns.right) rights
  all_right_seen left rights ends asks k d small = right_seen left (get_or rights k d) ends (asks k d small)

  pub joined_by_value : (left : Combo) (rights : List Combo) → first + length left.rows ≡ middle → All (λ right. CanAskAll asked conjuncts first (pair left right)) rights
      → filter (holds_all asked conjuncts first) (map (λ place. pair left (row_at rights place)) (equal_places (map (λ right. sees asked middle right columns.right) rights) (sees asked first left columns.left)))
      ≡ filter (holds_all asked conjuncts first) (map (pair left) rights)
  joined_by_value left rights ends asks =
      partners_pass (holds_all asked conjuncts first) left rights (λ right. sees asked middle right columns.right) (sees asked first left columns.left)
      (λ right a held. equal_needed left right ends (All-contains (λ r. CanAskAll asked conjuncts first (pair left r)) rights right asks (Contains_from_among rights right a)) held)
