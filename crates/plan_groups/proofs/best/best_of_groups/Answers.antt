use Rattle.std.proofs.Common.{◌≡◌, ℕ, ◌+◌, ◌<◌, ◌≤◌, List, length, map, All, sym, ap, ◌∙◌, subst, arith}
use Rattle.std.specs.List.{range_with_len}
use Rattle.std.specs.Ordering.{on}
use Rattle.std.proofs.lemmas.List.FromFn.{length-map-range_with_len}
use Rattle.std.proofs.lemmas.List.Sorted.{All-permutation}
use Rattle.prefsql_tables.specs.declared.place.Combo.{Combo}
use Rattle.order_laws.specs.Best.{best}
use Rattle.pref_terms.specs.Terms.{grouped_order, is_same_group}
use Rattle.plan_groups.specs.Counts.{within_groups}
use Rattle.plan_groups.specs.Groups.{AreInSight, IsRow, seen_at}
use Rattle.plan_groups.specs.Marks.{is_one_of}
use Rattle.plan_groups.specs.Members.{HasGroupOf, place_of}
use Rattle.plan_groups.specs.declared.members.Member.{Member}
use Rattle.plan_groups.proofs.Whole.{all_rows, exact, groups_there, kept_within, least, most}
use Rattle.plan_groups.proofs.best.best_of_groups.Goals as goal

pub members-requires : goal.members-requires
members-requires g c =
    let bound = c.args.bound.now in
    subst (All (AreInSight bound)) (sym c.as_slice.ensures.value) (groups_there bound c.args.combos.items c.requires)

pub best_places-requires-clause-rows : goal.best_places-requires-clause-rows
best_places-requires-clause-rows g c =
    let bound = c.args.bound.now in
    let combos = c.args.combos.items in
    let first = c.in_ok-members.field-0.items in
    let sorted = c.in_ok-members-2.members.items in
    let places = c.in_ok-members.ensures.places ∙ ap (λ (xs : List Combo). range_with_len 0 (length xs)) c.as_slice.ensures.value in
    subst (λ (xs : List Combo). All (IsRow bound xs) (map place_of c.as_slice-3.result.now)) (sym c.as_slice-2.ensures.value)
    (subst (λ (ms : List Member). All (IsRow bound combos) (map place_of ms)) (sym c.as_slice-3.ensures.value)
    (all_rows bound combos first sorted places c.in_ok-members-2.ensures.permutation c.requires))

pub best_places-requires-clause-groups : goal.best_places-requires-clause-groups
best_places-requires-clause-groups g c =
    let bound = c.args.bound.now in
    let first = c.in_ok-members.field-0.items in
    let sorted = c.in_ok-members-2.members.items in
    let same = c.as_slice.ensures.value ∙ sym c.as_slice-2.ensures.value in
    subst (λ (ms : List Member). All (HasGroupOf bound c.as_slice-2.result.now) ms) (sym c.as_slice-3.ensures.value)
    (subst (λ (xs : List Combo). All (HasGroupOf bound xs) sorted) same
    (All-permutation (HasGroupOf bound c.as_slice.result.now) first sorted c.in_ok-members-2.ensures.permutation c.in_ok-members.ensures.groups))

pub marks_at-requires : goal.marks_at-requires
marks_at-requires g c =
    let bound = c.args.bound.now in
    let combos = c.args.combos.items in
    let first = c.in_ok-members.field-0.items in
    let sorted = c.in_ok-members-2.members.items in
    let places = c.in_ok-members.ensures.places ∙ ap (λ (xs : List Combo). range_with_len 0 (length xs)) c.as_slice.ensures.value in
    let perm = c.in_ok-members-2.ensures.permutation in
    let kept = c.in_ok-kept.kept.places.items in
    let kept_is : kept ≡ best (on (seen_at bound combos) ((grouped_order bound.groups.now bound.term.now).better)) (map place_of sorted) =
    c.in_ok-kept.ensures.exact
    ∙ (λ j. best (on (seen_at bound (c.as_slice-2.ensures.value j)) ((grouped_order bound.groups.now bound.term.now).better)) (map place_of (c.as_slice-3.ensures.value j)))
    in
    let count : c.len.result ≡ length combos = omega (arith, c.len.ensures, c.args.combos.ok.0) in
    subst (λ (ks : List ℕ). All (λ k. k < c.len.result) ks) (sym c.as_slice-4.ensures.value)
    (subst (λ (n : ℕ). All (λ k. k < n) kept) (sym count) (kept_within bound combos first sorted places perm kept kept_is))

pub keep_marked-requires : goal.keep_marked-requires
keep_marked-requires g c =
    let counted = ap length (c.as_slice-5.ensures.value ∙ c.in_ok-marks.ensures) ∙ length-map-range_with_len (is_one_of c.as_slice-4.result.now) 0 c.len.result in
    omega (arith, counted, c.len.ensures, c.args.combos.ok.0)

pub returns-clause-exact : goal.returns-clause-exact
returns-clause-exact g c =
    let bound = c.args.bound.now in
    let combos = c.args.combos.items in
    let first = c.in_ok-members.field-0.items in
    let sorted = c.in_ok-members-2.members.items in
    let places = c.in_ok-members.ensures.places ∙ ap (λ (xs : List Combo). range_with_len 0 (length xs)) c.as_slice.ensures.value in
    let perm = c.in_ok-members-2.ensures.permutation in
    let kept = c.in_ok-kept.kept.places.items in
    let kept_is : kept ≡ best (on (seen_at bound combos) ((grouped_order bound.groups.now bound.term.now).better)) (map place_of sorted) =
    c.in_ok-kept.ensures.exact
    ∙ (λ j. best (on (seen_at bound (c.as_slice-2.ensures.value j)) ((grouped_order bound.groups.now bound.term.now).better)) (map place_of (c.as_slice-3.ensures.value j)))
    in
    let count : c.len.result ≡ length combos = omega (arith, c.len.ensures, c.args.combos.ok.0) in
    let marks_are : c.as_slice-5.result.now ≡ map (is_one_of kept) (range_with_len 0 (length combos)) =
    c.as_slice-5.ensures.value ∙ c.in_ok-marks.ensures ∙ (λ j. map (is_one_of (c.as_slice-4.ensures.value j)) (range_with_len 0 (count j)))
    in
    let is = exact bound combos first sorted places perm kept kept_is c.as_slice-5.result.now c.in_ok-items.items marks_are c.in_ok-items.ensures in
    is

pub returns-clause-least_tests : goal.returns-clause-least_tests
returns-clause-least_tests g c =
    let bound = c.args.bound.now in
    let combos = c.args.combos.items in
    let first = c.in_ok-members.field-0.items in
    let sorted = c.in_ok-members-2.members.items in
    let places = c.in_ok-members.ensures.places ∙ ap (λ (xs : List Combo). range_with_len 0 (length xs)) c.as_slice.ensures.value in
    let perm = c.in_ok-members-2.ensures.permutation in
    let kept = c.in_ok-kept.kept.places.items in
    let kept_is : kept ≡ best (on (seen_at bound combos) ((grouped_order bound.groups.now bound.term.now).better)) (map place_of sorted) =
    c.in_ok-kept.ensures.exact
    ∙ (λ j. best (on (seen_at bound (c.as_slice-2.ensures.value j)) ((grouped_order bound.groups.now bound.term.now).better)) (map place_of (c.as_slice-3.ensures.value j)))
    in
    let count : c.len.result ≡ length combos = omega (arith, c.len.ensures, c.args.combos.ok.0) in
    let marks_are : c.as_slice-5.result.now ≡ map (is_one_of kept) (range_with_len 0 (length combos)) =
    c.as_slice-5.ensures.value ∙ c.in_ok-marks.ensures ∙ (λ j. map (is_one_of (c.as_slice-4.ensures.value j)) (range_with_len 0 (count j)))
    in
    let is = exact bound combos first sorted places perm kept kept_is c.as_slice-5.result.now c.in_ok-items.items marks_are c.in_ok-items.ensures in
    least bound combos first sorted places perm kept kept_is c.in_ok-items.items c.in_ok-kept.kept.tests is
    (subst (λ (ms : List Member). length ms ≤ c.in_ok-kept.kept.tests + length kept) c.as_slice-3.ensures.value c.in_ok-kept.ensures.least_tests)

pub returns-clause-most_tests : goal.returns-clause-most_tests
returns-clause-most_tests g c =
    let bound = c.args.bound.now in
    let combos = c.args.combos.items in
    let first = c.in_ok-members.field-0.items in
    let sorted = c.in_ok-members-2.members.items in
    let places = c.in_ok-members.ensures.places ∙ ap (λ (xs : List Combo). range_with_len 0 (length xs)) c.as_slice.ensures.value in
    let perm = c.in_ok-members-2.ensures.permutation in
    let kept = c.in_ok-kept.kept.places.items in
    let kept_is : kept ≡ best (on (seen_at bound combos) ((grouped_order bound.groups.now bound.term.now).better)) (map place_of sorted) =
    c.in_ok-kept.ensures.exact
    ∙ (λ j. best (on (seen_at bound (c.as_slice-2.ensures.value j)) ((grouped_order bound.groups.now bound.term.now).better)) (map place_of (c.as_slice-3.ensures.value j)))
    in
    let count : c.len.result ≡ length combos = omega (arith, c.len.ensures, c.args.combos.ok.0) in
    let marks_are : c.as_slice-5.result.now ≡ map (is_one_of kept) (range_with_len 0 (length combos)) =
    c.as_slice-5.ensures.value ∙ c.in_ok-marks.ensures ∙ (λ j. map (is_one_of (c.as_slice-4.ensures.value j)) (range_with_len 0 (count j)))
    in
    let is = exact bound combos first sorted places perm kept kept_is c.as_slice-5.result.now c.in_ok-items.items marks_are c.in_ok-items.ensures in
    most bound combos first sorted places perm kept kept_is c.in_ok-items.items c.in_ok-kept.kept.tests is
    (subst (λ (n : ℕ). c.in_ok-kept.kept.tests ≤ n)
    (λ j. within_groups (on (seen_at bound (c.as_slice-2.ensures.value j)) (is_same_group bound.groups.now)) (map place_of (c.as_slice-3.ensures.value j)) kept)
    c.in_ok-kept.ensures.most_tests)
