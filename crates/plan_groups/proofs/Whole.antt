-- From the places that are kept to the rows that are best in their groups.
use Rattle.std.proofs.Common.{◌≡◌, ℕ, ◌+◌, ◌<◌, ◌≤◌, Bool, List, [], length, map, get_or, All, IsPermutation, refl, sym, ap, ◌∙◌, subst, arith}
use Rattle.std.specs.List.{range_with_len}
use Rattle.std.specs.Ordering.{on}
use Rattle.std.proofs.lemmas.List.{length-map}
use Rattle.std.proofs.lemmas.List.Elements.{All-contains, All-weaker, Contains-get_or}
use Rattle.std.proofs.lemmas.List.FromFn.{fill_by_all, get_or-range_with_len, length-range_with_len}
use Rattle.std.proofs.lemmas.List.Sorted.{All-permutation, IsPermutation-map}
use Rattle.prefsql_tables.specs.declared.place.Combo.{Combo}
use Rattle.order_laws.specs.Best.{best, is_unbettered}
use Rattle.order_laws.proofs.Members.{Among, among_from_Contains, among_kept, Contains_from_among}
use Rattle.pref_terms.specs.Terms.{grouped_order, is_same_group}
use Rattle.pref_terms.specs.declared.bound.BoundTerm.{BoundTerm}
use Rattle.window_eval.specs.Marks.{marked}
use Rattle.plan_algebra.specs.Tests.{tests_between}
use Rattle.plan_groups.specs.Counts.{within_groups}
use Rattle.plan_groups.specs.Groups.{AreInSight, IsJudged, IsRow, row_at, seen_at, seen_by}
use Rattle.plan_groups.specs.Marks.{is_one_of}
use Rattle.plan_groups.specs.Members.{place_of}
use Rattle.plan_groups.specs.declared.members.Member.{Member}
use Rattle.plan_groups.proofs.Placing.{best_length, best_marked, groups_placed, places_length}

-- a judged row has every group column
pub groups_there : (bound : BoundTerm) (combos : List Combo) → All (IsJudged bound) combos → All (AreInSight bound) combos
groups_there bound combos judged = All-weaker (IsJudged bound) (AreInSight bound) (λ combo fits. fits.groups_in_sight) combos judged

-- the rows of a list by their places
all_read : (combos : List Combo) → map (row_at combos) (range_with_len 0 (length combos)) ≡ combos
all_read combos = sym (fill_by_all (row_at combos) combos (length combos) (record { rows = [] }) refl (λ k small. refl))

module _ (bound : BoundTerm) (combos : List Combo) (first sorted : List Member) (places : map place_of first ≡ range_with_len 0 (length combos)) (perm : IsPermutation first sorted) where
  abbrev count : ℕ
  count = length combos

  places_perm : IsPermutation (range_with_len 0 count) (map place_of sorted)
  places_perm = subst (λ ps. IsPermutation ps (map place_of sorted)) places (IsPermutation-map place_of first sorted perm)

  abbrev better : Combo → Combo → Bool
  better = on (seen_by bound) ((grouped_order bound.groups.now bound.term.now).better)

  at_range : (P : ℕ → Type 0) → ((k : ℕ) → k < count → P k) → All P (range_with_len 0 count)
  at_range P each k d h =
      let small : k < count = rw length-range_with_len at h in
      let e : k ≡ 0 + k = omega arith in
      subst P (e ∙ sym (get_or-range_with_len 0 count k d small)) (each k small)

  pub all_rows : All (IsJudged bound) combos → All (IsRow bound combos) (map place_of sorted)
  all_rows judged =
      All-permutation (IsRow bound combos) (range_with_len 0 count) (map place_of sorted) places_perm
      (at_range (IsRow bound combos) (λ k small. (small, judged k (record { rows = [] }) small)))

  all_within : All (λ k. k < count) (map place_of sorted)
  all_within = All-permutation (λ k. k < count) (range_with_len 0 count) (map place_of sorted) places_perm (at_range (λ k. k < count) (λ k small. small))

  module _ (kept : List ℕ) (kept_is : kept ≡ best (on (seen_at bound combos) ((grouped_order bound.groups.now bound.term.now).better)) (map place_of sorted)) where
    abbrev test : ℕ → Bool
    test = is_unbettered (on (seen_at bound combos) ((grouped_order bound.groups.now bound.term.now).better)) (map place_of sorted)

    best_within : (ks : List ℕ) → ((k : ℕ) → Among ks k → Among (map place_of sorted) k) → All (λ k. k < count) ks
    best_within ks inside k d small =
        let place = get_or ks k d in
        let here = inside place (among_from_Contains ks place (Contains-get_or ks k d small)) in
        All-contains (λ j. j < count) (map place_of sorted) place all_within (Contains_from_among (map place_of sorted) place here)

    pub kept_within : All (λ k. k < length combos) kept
    kept_within = best_within kept (λ k a. (among_kept test (map place_of sorted) k (subst (λ ks. Among ks k) kept_is a)).0)

    pub exact : (marks : List Bool) (items : List Combo) → marks ≡ map (is_one_of kept) (range_with_len 0 (length combos)) → items ≡ marked combos marks
        → items ≡ best (on (seen_by bound) ((grouped_order bound.groups.now bound.term.now).better)) combos
    exact marks items marks_are items_are =
        items_are
        ∙ best_marked (row_at combos) combos count (all_read combos) (map place_of sorted) places_perm better marks
        (marks_are ∙ ap (λ ks. map (is_one_of ks) (range_with_len 0 count)) kept_is)

    as_many : (items : List Combo) → items ≡ best better combos → length kept ≡ length items
    as_many items is = ap length kept_is ∙ best_length (row_at combos) combos count (all_read combos) (map place_of sorted) places_perm better ∙ sym (ap length is)

    pub least : (items : List Combo) (tests : ℕ) → items ≡ best (on (seen_by bound) ((grouped_order bound.groups.now bound.term.now).better)) combos
        → length sorted ≤ tests + length kept → length combos ≤ tests + length items
    least items tests is enough =
        let all = places_length (row_at combos) combos count (all_read combos) (map place_of sorted) places_perm in
        omega (arith, enough, as_many items is, all, length-map sorted place_of)

    pub most : (items : List Combo) (tests : ℕ) → items ≡ best (on (seen_by bound) ((grouped_order bound.groups.now bound.term.now).better)) combos
        → tests ≤ within_groups (on (seen_at bound combos) (is_same_group bound.groups.now)) (map place_of sorted) kept
        → tests ≤ tests_between bound.groups.now (seen_by bound) combos items
    most items tests is few =
        let same : Combo → Combo → Bool = on (seen_by bound) (is_same_group bound.groups.now) in
        let placed = groups_placed (row_at combos) combos count (all_read combos) (map place_of sorted) places_perm better same in
        subst (λ n. tests ≤ n) (ap (λ ks. within_groups (on (seen_at bound combos) (is_same_group bound.groups.now)) (map place_of sorted) ks) kept_is ∙ placed ∙ sym (ap (λ xs. within_groups same combos xs) is)) few
