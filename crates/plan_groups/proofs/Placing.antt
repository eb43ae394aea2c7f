-- The best of a list by places are the best of its rows.
use Rattle.std.proofs.Common.{◌≡◌, ℕ, ◌+◌, Bool, true, false, cond, not, ◌&&◌, List, [], ◌∷◌, length, map, filter, nat_eq, IsPermutation, refl, sym, ap, ◌∙◌, subst, arith, eq-eqb, eqb-true}
use Rattle.std.specs.List.{range_with_len, sum_by}
use Rattle.std.specs.Ordering.{on}
use Rattle.std.proofs.lemmas.List.{length-map}
use Rattle.std.proofs.lemmas.List.Sorted.{Contains-permutation, IsPermutation-map, IsPermutation-sym, length_permutation, sum_by-IsPermutation}
use Rattle.std.proofs.lemmas.List.Sums.{sum_by-cons}
use Rattle.std.proofs.lemmas.Simd.{map-map}
use Rattle.prefsql_tables.proofs.ListLemmas.{filter-map, list_any-map}
use Rattle.order_laws.specs.Best.{best, is_unbettered}
use Rattle.order_laws.proofs.BestLaws.{same_tests, unbettered_at, unbettered_from}
use Rattle.order_laws.proofs.Members.{Among, Contains_from_among, among_filter, among_from_Contains, among_kept, any_found, any_from, filter_filter, filter_same, map_same}
use Rattle.window_eval.specs.Marks.{marked}
use Rattle.window_eval.proofs.Marking.{marked-map}
use Rattle.plan_groups.specs.Counts.{within_groups}
use Rattle.plan_groups.specs.Marks.{is_one_of}

module _ {X : Type 0} where
  pub among_permuted : (xs ys : List X) → IsPermutation xs ys → (x : X) → Among xs x → Among ys x
  among_permuted xs ys perm x a = among_from_Contains ys x (Contains-permutation xs ys x perm (Contains_from_among xs x a))

  among_back : (xs ys : List X) → IsPermutation xs ys → (x : X) → Among ys x → Among xs x
  among_back xs ys perm = among_permuted ys xs (IsPermutation-sym xs ys perm)

  unbettered_permuted : (better : X → X → Bool) (xs ys : List X) → IsPermutation xs ys → (x : X) → is_unbettered better ys x ≡ is_unbettered better xs x
  unbettered_permuted better xs ys perm x =
      same_tests (is_unbettered better ys x) (is_unbettered better xs x)
      (λ h. unbettered_from better xs x (λ y a yx. unbettered_at better ys x h y (among_permuted xs ys perm y a) yx))
      (λ h. unbettered_from better ys x (λ y a yx. unbettered_at better xs x h y (among_back xs ys perm y a) yx))

  bit : (X → Bool) → X → ℕ
  bit p x = cond (p x) 1 0

  length_cond : (b : Bool) (x : X) (xs : List X) → length (cond b (x ∷ xs) xs) ≡ cond b 1 0 + length xs
  length_cond true x xs = omega arith
  length_cond false x xs = omega arith

  length-passing : (p : X → Bool) (xs : List X) → length (filter p xs) ≡ sum_by (bit p) xs
  unfolding bit
  length-passing p [] = refl
  length-passing p (x ∷ xs) = length_cond (p x) x (filter p xs) ∙ ap (λ n. cond (p x) 1 0 + n) (length-passing p xs) ∙ sym (sum_by-cons (bit p) x xs)

  passing_permuted : (p : X → Bool) (xs ys : List X) → IsPermutation xs ys → length (filter p ys) ≡ length (filter p xs)
  passing_permuted p xs ys perm = length-passing p ys ∙ sum_by-IsPermutation (bit p) xs ys perm ∙ sym (length-passing p xs)

module _ {X Y : Type 0} (f : X → Y) where
  sum_by-map : (g : Y → ℕ) (xs : List X) → sum_by g (map f xs) ≡ sum_by (λ x. g (f x)) xs
  sum_by-map g [] = refl
  sum_by-map g (x ∷ xs) = sum_by-cons g (f x) (map f xs) ∙ ap (λ n. g (f x) + n) (sum_by-map g xs) ∙ sym (sum_by-cons (λ y. g (f y)) x xs)

-- the items of the list `items` stand at the places below their number, and `places` has those places in another order
module _ {Y : Type 0} (f : ℕ → Y) (items : List Y) (count : ℕ) (read : map f (range_with_len 0 count) ≡ items) (places : List ℕ) (perm : IsPermutation (range_with_len 0 count) places) where
  abbrev range : List ℕ
  range = range_with_len 0 count

  permuted : IsPermutation items (map f places)
  permuted = subst (λ xs. IsPermutation xs (map f places)) read (IsPermutation-map f range places perm)

  -- as many items pass by places as in the list
  placed_passing : (p : Y → Bool) → length (filter (λ k. p (f k)) places) ≡ length (filter p items)
  placed_passing p =
      sym (length-map (filter (λ k. p (f k)) places) f) ∙ ap length (sym (filter-map p f places)) ∙ passing_permuted p items (map f places) permuted

  pub places_length : length places ≡ length items
  places_length = sym (length-map places f) ∙ length_permutation items (map f places) permuted

  module _ (better : Y → Y → Bool) where
    abbrev is_best : Y → Bool
    is_best = is_unbettered better items

    is_best_place : (k : ℕ) → is_unbettered (on f better) places k ≡ is_best (f k)
    is_best_place k =
        unbettered_permuted (on f better) range places perm k
        ∙ ap not (sym (list_any-map (λ y. better y (f k)) f range))
        ∙ ap (λ ys. is_unbettered better ys (f k)) read

    best_by_place : best (on f better) places ≡ filter (λ k. is_best (f k)) places
    best_by_place = filter_same (is_unbettered (on f better) places) (λ k. is_best (f k)) places (λ k a. is_best_place k)

    pub best_length : length (best (on f better) places) ≡ length (best better items)
    best_length = ap length best_by_place ∙ placed_passing is_best

    -- a place is one of the best exactly where its item is
    is_kept : (k : ℕ) → Among range k → is_one_of (best (on f better) places) k ≡ is_best (f k)
    is_kept k a =
        let kept = best (on f better) places in
        same_tests (is_one_of kept k) (is_unbettered (on f better) places k)
        (λ h.
        let found = any_found (nat_eq k) kept h in
        let same : found.0 ≡ k = sym (eqb-true k found.0 found.2) in
        subst (λ j. is_unbettered (on f better) places j ≡ true) same ((among_kept (is_unbettered (on f better) places) places found.0 found.1).1))
        (λ h.
        any_from (nat_eq k) kept k (among_filter (is_unbettered (on f better) places) places k (among_permuted range places perm k a) h) (eq-eqb k k refl))
        ∙ is_best_place k

    -- so marks at these places mark the best items
    pub best_marked : (marks : List Bool) → marks ≡ map (is_one_of (best (on f better) places)) range → marked items marks ≡ best better items
    best_marked marks is =
        let tests : marks ≡ map is_best items =
        is ∙ map_same (is_one_of (best (on f better) places)) (λ k. is_best (f k)) range is_kept ∙ sym (map-map is_best f range) ∙ ap (map is_best) read
        in
        ap (marked items) tests ∙ marked-map is_best items

    module _ (same : Y → Y → Bool) where
      abbrev weight : Y → ℕ
      weight x = length (filter (λ y. same y x) (best better items))

      weight_at : (k : ℕ) → length (filter (λ j. same (f j) (f k)) (best (on f better) places)) ≡ weight (f k)
      weight_at k =
          ap (λ ks. length (filter (λ j. same (f j) (f k)) ks)) best_by_place
          ∙ ap length (filter_filter (λ j. same (f j) (f k)) (λ j. is_best (f j)) places)
          ∙ placed_passing (λ y. is_best y && same y (f k))
          ∙ sym (ap length (filter_filter (λ y. same y (f k)) is_best items))

      pub groups_placed : within_groups (on f same) places (best (on f better) places) ≡ within_groups same items (best better items)
      groups_placed =
          (λ j. sum_by (λ k. weight_at k j) places) ∙ sym (sum_by-map f weight places) ∙ sum_by-IsPermutation weight items (map f places) permuted
