-- A run of sorted rows is a group: what is known after its best ones are found.
use Rattle.std.proofs.Common.{◌≡◌, ℕ, ◌+◌, ◌-◌, ◌^◌, ◌<◌, ◌≤◌, min, Bool, true, false, List, [], ◌∷◌, ◌++◌, length, map, take, drop, get_or, All, refl, sym, ap, ◌∙◌, subst, arith, take-append-drop}
use Rattle.std.specs.List.Sorted.{IsSorted}
use Rattle.std.specs.Ordering.{is_eq, on}
use Rattle.std.proofs.Math.Seq.{take-add}
use Rattle.std.proofs.lemmas.Cmp.{on_equiv}
use Rattle.std.proofs.lemmas.List.{drop-drop, get_or-drop, length-drop, length-map, length-take, map-append}
use Rattle.std.proofs.lemmas.List.Elements.{All-contains, All-nil}
use Rattle.prefsql_tables.specs.declared.place.Combo.{Combo}
use Rattle.order_laws.specs.Best.{best}
use Rattle.order_laws.proofs.Members.{Among, Contains_from_among, among_back, among_front, among_map}
use Rattle.pref_terms.specs.BoundLaws.{same_group-equivalence}
use Rattle.pref_terms.specs.Fits.{TermFits}
use Rattle.pref_terms.specs.Terms.{is_same_group, leaves_of, order_of}
use Rattle.pref_terms.specs.declared.bound.BoundTerm.{BoundTerm}
use Rattle.plan_groups.specs.Groups.{IsRow, row_at, seen_at}
use Rattle.plan_groups.specs.Members.{HasGroupOf, by_group, place_of}
use Rattle.plan_groups.specs.declared.members.Member.{Member}
use Rattle.plan_groups.proofs.GroupSteps.{IsCounted, IsGrouped, grouped_more}
use Rattle.plan_groups.proofs.Keys.{by_group_total, members_tie}
use Rattle.plan_groups.proofs.Runs as runs

-- what is judged within groups is judged without them
pub without_groups : (bound : BoundTerm) (combos : List Combo) (k : ℕ) → IsRow bound combos k
    → (k < length combos) × TermFits bound.tables.now bound.from.now bound.first (row_at combos k).rows bound.term.now []
without_groups bound combos k is = (is.0, record { leaves = is.1.leaves; groups_in_sight = All-nil _ })

some_item : {X : Type 0} (xs : List X) → 0 < length xs → X
some_item [] h = absurd (omega arith)
some_item (x ∷ xs) h = x

module _ (bound : BoundTerm) (combos : List Combo) (ms : List Member) where
  abbrev pub same : ℕ → ℕ → Bool
  same = on (seen_at bound combos) (is_same_group bound.groups.now)

  -- the groups of the first members are done
  abbrev pub AreDone : (start at : ℕ) (kept : List ℕ) (tests steps : ℕ) → Type 0
  AreDone start at kept tests steps =
      IsGrouped (on (seen_at bound combos) (is_same_group bound.groups.now)) (on (seen_at bound combos) ((order_of bound.term.now).better)) (map place_of ms)
      (length (leaves_of bound.term.now)) start (map place_of (take at ms)) (map place_of (drop at ms)) kept tests steps

  module _ (groups : All (HasGroupOf bound combos) ms) (sorted : IsSorted by_group ms)
      (at count : ℕ) (starts : at < length ms) (within : at + count ≤ length ms)
      (one : (k : ℕ) (d : Member) → k < count → is_eq (by_group (get_or (drop at ms) 0 d) (get_or (drop at ms) k d)) ≡ true)
      (ends : (d : Member) → count < length (drop at ms) → is_eq (by_group (get_or (drop at ms) 0 d) (get_or (drop at ms) count d)) ≡ false) where
    abbrev run : List Member
    run = take count (drop at ms)

    abbrev behind : List Member
    behind = drop (at + count) ms

    split : drop at ms ≡ run ++ behind
    split = sym (take-append-drop count (drop at ms)) ∙ ap (λ rest. run ++ rest) (drop-drop count at ms)

    split_places : map place_of (drop at ms) ≡ map place_of run ++ map place_of behind
    split_places = ap (map place_of) split ∙ map-append place_of run behind

    first_is : (d : Member) → get_or (drop at ms) 0 d ≡ get_or ms at d
    first_is d = let e : at + 0 ≡ at = omega arith in get_or-drop at ms 0 d ∙ ap (λ k. get_or ms k d) e

    one_group : (d : Member) (k : ℕ) → k < count → is_eq (by_group (get_or ms at d) (get_or ms (at + k) d)) ≡ true
    one_group d k small =
        subst (λ (m : Member). is_eq (by_group m (get_or ms (at + k) d)) ≡ true) (first_is d)
        (subst (λ (m : Member). is_eq (by_group (get_or (drop at ms) 0 d) m) ≡ true) (get_or-drop at ms k d) (one k d small))

    next_group : (d : Member) → at + count < length ms → is_eq (by_group (get_or ms at d) (get_or ms (at + count) d)) ≡ false
    next_group d small =
        let more : count < length (drop at ms) = omega (arith, small, length-drop at ms) in
        subst (λ (m : Member). is_eq (by_group m (get_or ms (at + count) d)) ≡ false) (first_is d)
        (subst (λ (m : Member). is_eq (by_group (get_or (drop at ms) 0 d) m) ≡ false) (get_or-drop at ms count d) (ends d more))

    any_member : Member
    any_member = some_item ms (omega (arith, starts))

    in_members : (m : Member) → Among (drop at ms) m → HasGroupOf bound combos m
    in_members m a =
        let here : Among ms m = subst (λ xs. Among xs m) (take-append-drop at ms) (among_back (take at ms) (drop at ms) m a) in
        All-contains (HasGroupOf bound combos) ms m groups (Contains_from_among ms m here)

    in_run : (m : Member) → Among run m → HasGroupOf bound combos m
    in_run m a = in_members m (subst (λ xs. Among xs m) (sym split) (among_front run behind m a))

    in_behind : (m : Member) → Among behind m → HasGroupOf bound combos m
    in_behind m a = in_members m (subst (λ xs. Among xs m) (sym split) (among_back run behind m a))

    together : (a b : ℕ) → Among (map place_of run) a → Among (map place_of run) b → same a b ≡ true
    together a b first second =
        let m = among_map place_of run a first in
        let n = among_map place_of run b second in
        let tie : is_eq (by_group m.0 n.0) ≡ true = runs.together by_group_total ms sorted at count within any_member (one_group any_member) (next_group any_member) m.0 n.0 m.1 n.1 in
        (λ j. same (sym m.2 j) (sym n.2 j)) ∙ sym (members_tie bound combos m.0 n.0 (in_run m.0 m.1) (in_run n.0 n.1)) ∙ tie

    apart : (a b : ℕ) → Among (map place_of run) a → Among (map place_of behind) b → same a b ≡ false
    apart a b first second =
        let m = among_map place_of run a first in
        let n = among_map place_of behind b second in
        let tie : is_eq (by_group m.0 n.0) ≡ false = runs.apart by_group_total ms sorted at count within any_member (one_group any_member) (next_group any_member) m.0 n.0 m.1 n.1 in
        (λ j. same (sym m.2 j) (sym n.2 j)) ∙ sym (members_tie bound combos m.0 n.0 (in_run m.0 m.1) (in_behind n.0 n.1)) ∙ tie

    abbrev better : ℕ → ℕ → Bool
    better = on (seen_at bound combos) ((order_of bound.term.now).better)

    abbrev width : ℕ
    width = length (leaves_of bound.term.now)

    taken : map place_of (take at ms) ++ map place_of run ≡ map place_of (take (at + count) ms)
    taken = sym (map-append place_of (take at ms) run) ∙ ap (map place_of) (sym (take-add at count ms))

    -- one group more is done
    pub group_more : (start : ℕ) (kept new : List ℕ) (tests added sum before after : ℕ)
        → AreDone start at kept tests before → new ≡ kept ++ best (on (seen_at bound combos) ((order_of bound.term.now).better)) (map place_of (take count (drop at ms)))
        → IsCounted (length (leaves_of bound.term.now)) (length (take count (drop at ms)))
        (length (best (on (seen_at bound combos) ((order_of bound.term.now).better)) (map place_of (take count (drop at ms))))) added before after
        → sum ≡ min (tests + added) (2 ^ 64 - 1) → at + count < 2 ^ 64 → AreDone start (at + count) new sum after
    group_more start kept new tests added sum before after done is counted added_up small =
        let all = map place_of ms in
        let chosen = best better (map place_of run) in
        let grouped : IsGrouped same better all width start (map place_of (take at ms)) (map place_of run ++ map place_of behind) kept tests before =
        subst (λ rest. IsGrouped same better all width start (map place_of (take at ms)) rest kept tests before) split_places done
        in
        let equiv = on_equiv (seen_at bound combos) (same_group-equivalence bound.groups.now) in
        let counts : IsCounted width (length (map place_of run)) (length chosen) added before after =
        subst (λ n. IsCounted width n (length chosen) added before after) (sym (length-map run place_of)) counted
        in
        let few : length (map place_of (take at ms)) + length (map place_of run) < 2 ^ 64 =
        omega (arith, small, length-map (take at ms) place_of, length-map run place_of, length-take at ms, length-take count (drop at ms))
        in
        let next : IsGrouped same better all width start (map place_of (take at ms) ++ map place_of run) (map place_of behind) (kept ++ chosen) sum after =
        grouped_more same better all equiv (map place_of (take at ms)) (map place_of run) (map place_of behind) grouped.whole grouped.apart together apart
        width start kept chosen tests added sum before after grouped refl counts added_up few
        in
        subst (λ ks. IsGrouped same better all width start (map place_of (take (at + count) ms)) (map place_of behind) ks sum after) (sym is)
        (subst (λ first. IsGrouped same better all width start first (map place_of behind) (kept ++ chosen) sum after) taken next)

    -- the same where the count of the run is written otherwise
    pub group_more_by : (n : ℕ) → n ≡ count → (start : ℕ) (kept new : List ℕ) (tests added sum before after : ℕ)
        → AreDone start at kept tests before → new ≡ kept ++ best (on (seen_at bound combos) ((order_of bound.term.now).better)) (map place_of (take n (drop at ms)))
        → IsCounted (length (leaves_of bound.term.now)) (length (take n (drop at ms)))
        (length (best (on (seen_at bound combos) ((order_of bound.term.now).better)) (map place_of (take n (drop at ms))))) added before after
        → sum ≡ min (tests + added) (2 ^ 64 - 1) → at + count < 2 ^ 64 → AreDone start (at + count) new sum after
    group_more_by n e start kept new tests added sum before after done is counted added_up small =
        group_more start kept new tests added sum before after done
        (subst (λ k. new ≡ kept ++ best better (map place_of (take k (drop at ms)))) e is)
        (subst (λ k. IsCounted width (length (take k (drop at ms))) (length (best better (map place_of (take k (drop at ms))))) added before after) e counted)
        added_up small
