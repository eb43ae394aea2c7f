-- The cells of rows in the group columns: their order is total, and ties exactly within a group.
use Rattle.std.proofs.Common.{◌≡◌, ℕ, zero, suc, add-one, ◌+◌, ◌<◌, ◌≤◌, false, ◌&&◌, List, [], ◌∷◌, ◌++◌, length, map, drop, get_or, All, refl, sym, ap, ◌∙◌, subst, arith}
use Rattle.std.specs.Cmp.{IsTotalOrder}
use Rattle.std.specs.Cmp.Lexicographic.{slice_cmp}
use Rattle.std.specs.List.{range_with_len}
use Rattle.std.specs.Ordering.{is_eq, ordering_then}
use Rattle.std.specs.declared.cmp.Ordering.{Ordering}
use Rattle.std.specs.declared.cmp.Ordering.TheVariants.{Less, Equal, Greater}
use Rattle.std.proofs.lemmas.Bool.{false≢true}
use Rattle.std.proofs.lemmas.Cmp.{lists_total, on_total, tied_itself}
use Rattle.std.proofs.lemmas.List.{drop_all, get_or_read, map-append}
use Rattle.std.proofs.lemmas.List.Elements.{All-append, All-cons, All-nil}
use Rattle.prefsql_values.proofs.ValueOrder.{nulls_last_total, nulls_last_ties}
use Rattle.prefsql_values.specs.Value.{nulls_last, value_of}
use Rattle.prefsql_values.specs.declared.value.Cell.{Cell}
use Rattle.prefsql_tables.specs.Sight.{Sight}
use Rattle.prefsql_tables.specs.declared.place.ColumnPlace.{ColumnPlace}
use Rattle.prefsql_tables.specs.declared.place.Combo.{Combo}
use Rattle.pref_terms.specs.Terms.{is_same_group}
use Rattle.pref_terms.specs.declared.bound.BoundTerm.{BoundTerm}
use Rattle.plan_groups.specs.Groups.{row_at, seen_at, seen_by}
use Rattle.plan_groups.specs.Members.{HasGroupOf, by_group, cell_order, place_of}
use Rattle.plan_groups.specs.declared.members.Member.{Member}

cells_total : IsTotalOrder (slice_cmp cell_order)
cells_total = lists_total (on_total value_of nulls_last_total)

pub by_group_total : IsTotalOrder by_group
by_group_total = on_total (λ (m : Member). m.key.items) cells_total

nothing_last : {X : Type 0} (R : X → X → Ordering) (xs : List X) (n : ℕ) → n < length xs → slice_cmp R (drop n xs) [] ≡ Greater
nothing_last R [] n more = absurd (omega arith)
nothing_last R (x ∷ xs) zero more = refl
nothing_last R (x ∷ xs) (suc n) more = nothing_last R xs n (omega arith)

-- a list that ends later is after
pub ends_last : {X : Type 0} (R : X → X → Ordering) (xs ys : List X) (n : ℕ) → n < length xs → length ys ≤ n → slice_cmp R (drop n xs) (drop n ys) ≡ Greater
ends_last R xs ys n more ended = rw (drop_all n ys ended) (nothing_last R xs n more)

is_eq-then : (o p : Ordering) → is_eq (ordering_then o p) ≡ (is_eq o && is_eq p)
is_eq-then Less p = refl
is_eq-then Equal p = refl
is_eq-then Greater p = refl

head_of : {X : Type 0} (x y : X) (xs ys : List X) → x ∷ xs ≡ y ∷ ys → x ≡ y
head_of x y xs ys e = cc

tail_of : {X : Type 0} (x y : X) (xs ys : List X) → x ∷ xs ≡ y ∷ ys → xs ≡ ys
tail_of x y xs ys e = cc

-- cells with the values of two rows in the group columns tie exactly where the rows are of one group
cells_tie : (groups : List ColumnPlace) (y x : Sight) (cs ds : List Cell) → map value_of cs ≡ map y groups → map value_of ds ≡ map x groups
    → is_eq (slice_cmp cell_order cs ds) ≡ is_same_group groups y x
cells_tie [] y x [] [] e f = refl
cells_tie [] y x [] (d ∷ ds) e f = absurd (cc)
cells_tie [] y x (c ∷ cs) ds e f = absurd (cc)
cells_tie (g ∷ groups) y x [] ds e f = absurd (cc)
cells_tie (g ∷ groups) y x (c ∷ cs) [] e f = absurd (cc)
cells_tie (g ∷ groups) y x (c ∷ cs) (d ∷ ds) e f =
    let first : value_of c ≡ y g = head_of (value_of c) (y g) (map value_of cs) (map y groups) e in
    let second : value_of d ≡ x g = head_of (value_of d) (x g) (map value_of ds) (map x groups) f in
    let rest : is_eq (slice_cmp cell_order cs ds) ≡ is_same_group groups y x =
    cells_tie groups y x cs ds (tail_of (value_of c) (y g) (map value_of cs) (map y groups) e) (tail_of (value_of d) (x g) (map value_of ds) (map x groups) f)
    in
    is_eq-then (nulls_last (value_of c) (value_of d)) (slice_cmp cell_order cs ds)
    ∙ (λ j. is_eq (nulls_last (first j) (second j)) && rest j)
    ∙ ap (λ b. b && is_same_group groups y x) (sym (nulls_last_ties (y g) (x g)))

-- two rows of a list are of one group exactly where they tie
pub members_tie : (bound : BoundTerm) (combos : List Combo) (a b : Member) → HasGroupOf bound combos a → HasGroupOf bound combos b
    → is_eq (by_group a b) ≡ is_same_group bound.groups.now (seen_at bound combos a.place) (seen_at bound combos b.place)
members_tie bound combos a b first second =
    cells_tie bound.groups.now (seen_at bound combos a.place) (seen_at bound combos b.place) a.key.items b.key.items first.values second.values

-- what is of another group than the first is not the first
pub not_first : (ms : List Member) (place : ℕ) (a b : Member) → 0 < length ms → a ≡ get_or ms 0 a → b ≡ get_or ms place b → is_eq (by_group a b) ≡ false → 0 < place
not_first ms zero a b some first read differs =
    let same : a ≡ b = get_or_read ms 0 a some first b ∙ sym read in
    absurd (false≢true (sym differs ∙ ap (λ (m : Member). is_eq (by_group a m)) (sym same) ∙ ap is_eq (tied_itself by_group_total a)))
not_first ms (suc place) a b some first read differs = omega arith

range_from : (a n : ℕ) → range_with_len a (suc n) ≡ range_with_len a n ++ (a + n) ∷ []
range_from a zero = let e : a ≡ a + 0 = omega arith in ap (λ k. k ∷ []) e
range_from a (suc n) =
    let e : a + 1 + n ≡ a + suc n = omega arith in
    ap (λ ks. a ∷ ks) (range_from (a + 1) n ∙ ap (λ k. range_with_len (a + 1) n ++ k ∷ []) e)

range_more : (n : ℕ) → range_with_len 0 (n + 1) ≡ range_with_len 0 n ++ n ∷ []
range_more n = let e : 0 + n ≡ n = omega arith in rw add-one (range_from 0 n ∙ ap (λ k. range_with_len 0 n ++ k ∷ []) e)

-- the places of the rows gone through, and their groups
pub record AreFirst (bound : BoundTerm) (combos : List Combo) (ms : List Member) (count : ℕ) : Type 0 where
  pub places : map place_of ms ≡ range_with_len 0 count
  pub groups : All (HasGroupOf bound combos) ms

pub first_more : (bound : BoundTerm) (combos : List Combo) (ms new : List Member) (m : Member) (combo : Combo)
    → AreFirst bound combos ms m.place → new ≡ ms ++ m ∷ [] → m.place < length combos → combo ≡ get_or combos m.place combo
    → map value_of m.key.items ≡ map (seen_by bound combo) bound.groups.now → AreFirst bound combos new (m.place + 1)
first_more bound combos ms new m combo first is small read values =
    let row : combo ≡ row_at combos m.place = get_or_read combos m.place combo small read (record { rows = [] }) in
    let one : HasGroupOf bound combos m = record { within = small; values = values ∙ ap (λ (c : Combo). map (seen_by bound c) bound.groups.now) row } in
    record {
      places = ap (map place_of) is ∙ map-append place_of ms (m ∷ []) ∙ ap (λ ks. ks ++ m.place ∷ []) first.places ∙ sym (range_more m.place);
      groups = subst (All (HasGroupOf bound combos)) (sym is) (All-append (HasGroupOf bound combos) ms (m ∷ []) first.groups (All-cons (HasGroupOf bound combos) m [] one (All-nil (HasGroupOf bound combos))));
    }
