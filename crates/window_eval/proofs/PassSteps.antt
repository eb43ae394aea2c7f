-- One pass through the items in the order of their keys: what it knows on the way, and the counts of its tests and steps.
use Rattle.std.proofs.Common.{◌≡◌, ℕ, suc, ◌+◌, ◌*◌, ◌-◌, ◌^◌, ◌<◌, ◌≤◌, min, Bool, true, false, cond, ◌⊎◌, List, [], ◌∷◌, ◌++◌, length, take, drop, map, filter, get_or, set, All, Some, IsPermutation, refl, sym, ap, ◌∙◌, inl, inr, ⊎_elim, subst, arith, take-append-drop, length-append, drop-cons, replicate}
use Rattle.std.specs.Prelude.{IsTrue}
use Rattle.std.specs.List.{slice_get, range_with_len}
use Rattle.std.specs.List.Sorted.{IsSortedBy}
use Rattle.std.specs.Ordering.{is_lt}
use Rattle.std.specs.declared.cmp.Ordering.{Ordering}
use Rattle.std.proofs.lemmas.Bool.{false≢true}
use Rattle.std.proofs.lemmas.List.{take_more, take_all, take-append-le, drop-append-le}
use Rattle.std.proofs.lemmas.List.Elements.{All-append, All-take, Contains-get_or, filter-append}
use Rattle.std.proofs.lemmas.List.Sorted.{length_permutation}
use Rattle.std.proofs.lemmas.List.FromFn.{length-range_with_len}
use Rattle.order_laws.specs.Lawful.{IsLawfulWhere}
use Rattle.order_laws.specs.Best.{best, is_unbettered}
use Rattle.order_laws.proofs.Members.{Among, among_back, among_from_Contains, among_front, Contains_from_among}
use Rattle.window_eval.specs.Keys.{SmallerKeyIsBetterAmong}
use Rattle.window_eval.specs.Places.{items_at, place_cmp, smaller_kept}
use Rattle.window_eval.proofs.PlaceOrder.{place_ranks}
use Rattle.window_eval.proofs.PlaceItems.{slice_get_read, items_at-append, items_at_cons, items_at_more, items_at_push, length_items_at, among_items_at}
use Rattle.window_eval.proofs.Passing.{Rising, places_within, all_placed, items_rise}
use Rattle.window_eval.proofs.Rise.{rising_back, rising_across}
use Rattle.window_eval.proofs.Placed.{passing_placed}
use Rattle.window_eval.proofs.MarkPlaces.{IsMarked, marked_none, marked_drops, marked_keeps, marked_all}
use Rattle.window_eval.proofs.Advance.{IsAdvanced, advance, items_inside}
use Rattle.window_eval.proofs.Keeping.{IsWindow, tied, window_decides, window_keeps, window_drops}

-- the steps of a list are at most the tests times the width, until the count stays at its last value
steps_more : (width start before after tests more sum : ℕ) → sum ≡ min (tests + more) (2 ^ 64 - 1)
    → (tests < 2 ^ 64 - 1 → before ≤ start + tests * width) → after ≤ before + more * width
    → sum < 2 ^ 64 - 1 → after ≤ start + sum * width
steps_more width start before after tests more sum counted bound last below =
    let exact : sum ≡ tests + more = omega arith in
    let enough : before ≤ start + tests * width = bound (omega arith) in
    rw exact (omega (arith, enough, last))

-- the items at the first i places are gone through, by so many tests and steps: these places are kept, so many of them
-- known to have a smaller key than what comes, and these marks are set
pub record IsPass {X : Type 0} (better : X → X → Bool) (key_cmp : X → X → Ordering) (xs : List X) (places : List ℕ) (width start i : ℕ) (kept : List ℕ) (smaller : ℕ) (marks : List Bool) (tests steps : ℕ) : Type 0 where
  pub known : smaller ≤ length kept
  pub within : All (λ p. p < length xs) kept
  pub window : IsWindow (is_unbettered better xs) key_cmp (items_at xs (take i places)) (items_at xs (drop i places)) (items_at xs (take smaller kept)) (items_at xs (drop smaller kept))
  pub marked : IsMarked (is_unbettered better xs) xs (take i places) marks
  pub least_tests : i ≤ tests + length (filter (is_unbettered better xs) (items_at xs (take i places)))
  pub most_tests : tests ≤ i * length (best better xs)
  pub few_tests : SmallerKeyIsBetterAmong xs key_cmp better → tests ≤ i
  pub least_steps : start + tests ≤ steps
  pub most_steps : tests < 2 ^ 64 - 1 → steps ≤ start + tests * width

length_one : {X : Type 0} (b : Bool) (x : X) (more : ℕ) → IsTrue b ⊎ (1 ≤ more) → 1 ≤ more + length (cond b (x ∷ []) [])
length_one true x more h = omega arith
length_one false x more (inl h) = absurd (false≢true h)
length_one false x more (inr h) = omega arith

module _ {X : Type 0} where
  all_from : (P : X → Type 0) (ys : List X) → ((y : X) → Among ys y → P y) → All P ys
  all_from P ys h k d within = h (get_or ys k d) (among_from_Contains ys (get_or ys k d) (Contains-get_or ys k d within))

  length_left : (ys zs us : List X) → ys ++ zs ≡ us → length ys ≤ length us
  length_left ys zs us h =
      let e : length (ys ++ zs) ≡ length us = ap length h in
      omega (arith, e, length-append ys zs)

module _ {X : Type 0} {valid : X → Type 0} {better same : X → X → Bool} {key_cmp : X → X → Ordering} (laws : IsLawfulWhere valid better same key_cmp) (xs : List X) (all : All valid xs)
    (places : List ℕ) (perm : IsPermutation (range_with_len 0 (length xs)) places) (sorted : IsSortedBy (λ a b. is_lt (place_cmp key_cmp xs a b)) places) where
  abbrev best_one : X → Bool
  best_one = is_unbettered better xs

  places_in : All (λ p. p < length xs) places
  places_in = places_within xs places perm

  pub place_in : (i : ℕ) → i < length places → get_or places i 0 < length xs
  place_in i h = places_in i 0 h

  rises : Rising key_cmp (items_at xs places)
  rises = items_rise xs key_cmp (place_ranks valid laws xs all) places places_in sorted

  placed : (z : X) → Among xs z → Among (items_at xs places) z
  placed z a =
      let c = Contains_from_among xs z a in
      among_items_at xs places c.0 z places_in (all_placed xs places perm c.0 c.1) (slice_get_read xs c.0 z c.1 (sym c.2))

  pub as_many : length places ≡ length xs
  as_many = length_permutation (range_with_len 0 (length xs)) places perm ∙ length-range_with_len 0 (length xs)

  passing_all : length (filter best_one (items_at xs places)) ≡ length (best better xs)
  passing_all = passing_placed best_one xs places perm

  module _ (width start i : ℕ) (kept : List ℕ) (s : ℕ) (marks : List Bool) (tests before : ℕ) (pass : IsPass better key_cmp xs places width start i kept s marks tests before)
      (x : X) (lt : i < length places) (read : slice_get xs (get_or places i 0) ≡ Some x) where
    abbrev p : ℕ
    p = get_or places i 0

    abbrev done : List X
    done = items_at xs (take i places)

    abbrev rest : List X
    rest = items_at xs (drop (i + 1) places)

    next : suc i ≡ i + 1
    next = omega arith

    at_cons : items_at xs (drop i places) ≡ x ∷ rest
    at_cons = ap (items_at xs) (drop-cons places i 0 lt) ∙ items_at_cons xs p x (drop (suc i) places) read ∙ ap (λ n. x ∷ items_at xs (drop n places)) next

    at_more : items_at xs (take (i + 1) places) ≡ done ++ x ∷ []
    at_more = items_at_more xs places i x lt read

    whole : done ++ x ∷ rest ≡ items_at xs places
    whole = ap (λ ys. done ++ ys) (sym at_cons) ∙ sym (items_at-append xs (take i places) (drop i places)) ∙ ap (items_at xs) (take-append-drop i places)

    onto : (z : X) → Among xs z → Among (done ++ x ∷ rest) z
    onto z a = subst (λ ys. Among ys z) (sym whole) (placed z a)

    inside : (z : X) → Among (done ++ x ∷ rest) z → Among xs z
    inside z a = items_inside xs places z places_in (subst (λ ys. Among ys z) whole a)

    rest_in : (z : X) → Among (x ∷ rest) z → Among xs z
    rest_in z a = inside z (among_back done (x ∷ rest) z a)

    done_in : (z : X) → Among done z → Among xs z
    done_in z a = inside z (among_front done (x ∷ rest) z a)

    rising_whole : Rising key_cmp (done ++ x ∷ rest)
    rising_whole = subst (Rising key_cmp) (sym whole) rises

    x_in : Among xs x
    x_in = rest_in x (inl refl)

    rising : (z : X) → Among (x ∷ rest) z → is_lt (key_cmp z x) ≡ false
    rising z (inl e) = subst (λ u. is_lt (key_cmp u x) ≡ false) e (ap is_lt (tied laws xs all x x_in))
    rising z (inr a) = (rising_back key_cmp done (x ∷ rest) rising_whole).0 z a

    before_x : (y : X) → Among done y → is_lt (key_cmp x y) ≡ false
    before_x y a = rising_across key_cmp done (x ∷ rest) rising_whole y x a (inl refl)

    -- how many have a smaller key, and that they are places of the list
    pub advanced : (r : ℕ) → r ≡ smaller_kept key_cmp xs x kept s → IsAdvanced best_one key_cmp xs done rest x kept r
    advanced r e =
        advance laws xs all done rest x kept s pass.known pass.within
        (subst (λ ys. IsWindow best_one key_cmp done ys (items_at xs (take s kept)) (items_at xs (drop s kept))) at_cons pass.window)
        rest_in done_in rising before_x r e

    module _ (r : ℕ) (r_is : r ≡ smaller_kept key_cmp xs x kept s) (mark : Bool) (mark_is : mark ≡ is_unbettered better (items_at xs (take r kept)) x)
        (more after sum : ℕ) (most : more ≤ length (take r kept)) (one_test : All (λ rival. better rival x ≡ true) (items_at xs (take r kept)) → more ≤ 1)
        (a_test : IsTrue mark ⊎ (1 ≤ more)) (least_after : before + more ≤ after) (most_after : after ≤ before + more * width) (counted : sum ≡ min (tests + more) (2 ^ 64 - 1)) where
      adv : IsAdvanced best_one key_cmp xs done rest x kept r
      adv = advanced r r_is

      decided : mark ≡ best_one x
      decided = mark_is ∙ window_decides laws xs all done rest (items_at xs (take r kept)) (items_at xs (drop r kept)) x adv.window onto inside rising adv.ties

      level_in : (y : X) → Among (items_at xs (drop r kept)) y → Among xs y
      level_in y a =
          items_inside xs kept y pass.within
          (subst (λ ys. Among ys y) (sym (items_at-append xs (take r kept) (drop r kept)) ∙ ap (items_at xs) (take-append-drop r kept))
          (among_back (items_at xs (take r kept)) (items_at xs (drop r kept)) y a))

      few_more : SmallerKeyIsBetterAmong xs key_cmp better → more ≤ 1
      few_more h =
          one_test (all_from (λ rival. better rival x ≡ true) (items_at xs (take r kept))
          (λ y a.
          let y_in = items_inside xs (take r kept) y (All-take (λ q. q < length xs) r kept pass.within) a in
          h y x (Contains_from_among xs y y_in) (Contains_from_among xs x x_in) (adv.window.earlier_less y x a (inl refl))))

      passed_more : 1 + length (filter best_one done) ≤ more + length (filter best_one (items_at xs (take (i + 1) places)))
      passed_more =
          let one = length_one (best_one x) x more (subst (λ b. IsTrue b ⊎ (1 ≤ more)) decided a_test) in
          let split : filter best_one (items_at xs (take (i + 1) places)) ≡ filter best_one done ++ cond (best_one x) (x ∷ []) [] = ap (filter best_one) at_more ∙ filter-append best_one done (x ∷ []) in
          rw split (omega (arith, one, length-append (filter best_one done) (cond (best_one x) (x ∷ []) [])))

      most_more : more ≤ length (best better xs)
      most_more =
          let earlier = length_items_at xs (take r kept) (All-take (λ q. q < length xs) r kept pass.within) in
          let in_done : length (items_at xs (take r kept)) ≤ length (filter best_one done) = length_left (items_at xs (take r kept)) (items_at xs (drop r kept)) (filter best_one done) adv.window.kept in
          let in_all : length (filter best_one done) ≤ length (filter best_one (items_at xs places)) =
          length_left (filter best_one done) (filter best_one (x ∷ rest)) (filter best_one (items_at xs places)) (sym (filter-append best_one done (x ∷ rest)) ∙ ap (filter best_one) whole)
          in
          omega (arith, most, earlier, in_done, in_all, passing_all)

      most_sum : sum ≤ (i + 1) * length (best better xs)
      most_sum = omega (arith, pass.most_tests, most_more, counted)

      few_sum : SmallerKeyIsBetterAmong xs key_cmp better → sum ≤ i + 1
      few_sum h = omega (arith, pass.few_tests h, few_more h, counted)

      least_sum : i < 2 ^ 64 - 1 → i + 1 ≤ sum + length (filter best_one (items_at xs (take (i + 1) places)))
      least_sum small = omega (arith, pass.least_tests, passed_more, counted)

      taken : take (i + 1) places ≡ take i places ++ p ∷ []
      taken = take_more places i 0 lt

      pub step_drops : i < 2 ^ 64 - 1 → mark ≡ false → IsPass better key_cmp xs places width start (i + 1) kept r marks sum after
      step_drops small fails =
          let worse : best_one x ≡ false = sym decided ∙ fails in
          record {
            known = adv.bounded;
            within = pass.within;
            window = subst (λ ys. IsWindow best_one key_cmp ys rest (items_at xs (take r kept)) (items_at xs (drop r kept))) (sym at_more)
                (window_drops laws xs all done rest (items_at xs (take r kept)) (items_at xs (drop r kept)) x adv.window worse);
            marked = subst (λ ps. IsMarked best_one xs ps marks) (sym taken) (marked_drops best_one xs (take i places) p x marks pass.marked read worse);
            least_tests = least_sum small;
            most_tests = most_sum;
            few_tests = few_sum;
            least_steps = omega (arith, pass.least_steps, least_after, counted);
            most_steps = steps_more width start before after tests more sum counted pass.most_steps most_after;
          }

      take_kept : take r (kept ++ p ∷ []) ≡ take r kept
      take_kept = take-append-le r kept (p ∷ []) adv.bounded

      drop_kept : items_at xs (drop r (kept ++ p ∷ [])) ≡ items_at xs (drop r kept) ++ x ∷ []
      drop_kept = ap (items_at xs) (drop-append-le r kept (p ∷ []) adv.bounded) ∙ items_at_push xs (drop r kept) p x read

      pub step_keeps : i < 2 ^ 64 - 1 → mark ≡ true → IsPass better key_cmp xs places width start (i + 1) (kept ++ p ∷ []) r (set marks p true) sum after
      step_keeps small passes =
          let is_best : best_one x ≡ true = sym decided ∙ passes in
          let p_in : p < length marks = omega (arith, pass.marked.as_many, place_in i lt) in
          let kept_window : IsWindow best_one key_cmp (done ++ x ∷ []) rest (items_at xs (take r kept)) (items_at xs (drop r kept) ++ x ∷ []) =
          window_keeps laws xs all done rest (items_at xs (take r kept)) (items_at xs (drop r kept)) x adv.window x_in level_in adv.ties is_best
          in
          record {
            known = omega (arith, adv.bounded, length-append kept (p ∷ []));
            within = All-append (λ q. q < length xs) kept (p ∷ []) pass.within (all_from (λ q. q < length xs) (p ∷ []) (λ q a. ⊎_elim (λ e. subst (λ k. k < length xs) e (place_in i lt)) (λ b. absurd b) a));
            window = subst (λ ys. IsWindow best_one key_cmp ys rest (items_at xs (take r (kept ++ p ∷ []))) (items_at xs (drop r (kept ++ p ∷ [])))) (sym at_more)
                (subst (λ ps. IsWindow best_one key_cmp (done ++ x ∷ []) rest (items_at xs ps) (items_at xs (drop r (kept ++ p ∷ [])))) (sym take_kept)
                (subst (λ ys. IsWindow best_one key_cmp (done ++ x ∷ []) rest (items_at xs (take r kept)) ys) (sym drop_kept) kept_window));
            marked = subst (λ ps. IsMarked best_one xs ps (set marks p true)) (sym taken) (marked_keeps best_one xs (take i places) p x marks pass.marked read p_in is_best);
            least_tests = least_sum small;
            most_tests = most_sum;
            few_tests = few_sum;
            least_steps = omega (arith, pass.least_steps, least_after, counted);
            most_steps = steps_more width start before after tests more sum counted pass.most_steps most_after;
          }

  pub pass_start : (width start n : ℕ) → n ≡ length xs → IsPass better key_cmp xs places width start 0 [] 0 (replicate n false) 0 start
  pass_start width start n h = record {
    known = omega arith;
    within = λ k d lt. absurd (omega arith);
    window = record { kept = refl; earlier_less = λ y z a b. absurd a; level_equal = λ y z a b. absurd a };
    marked = marked_none best_one xs n h;
    least_tests = omega arith;
    most_tests = omega arith;
    few_tests = λ h. omega arith;
    least_steps = omega arith;
    most_steps = λ h. omega arith;
  }

  pub pass_end : (width start i : ℕ) (kept : List ℕ) (s : ℕ) (marks : List Bool) (tests steps : ℕ) → IsPass better key_cmp xs places width start i kept s marks tests steps → i ≡ length places
      → (marks ≡ map best_one xs) × (length xs ≤ tests + length (best better xs)) × (tests ≤ length xs * length (best better xs)) × (SmallerKeyIsBetterAmong xs key_cmp better → tests ≤ length xs)
  pass_end width start i kept s marks tests steps pass ended =
      let all_taken : take i places ≡ places = take_all i places (omega arith) in
      let passing : length (filter best_one (items_at xs (take i places))) ≡ length (best better xs) = ap (λ ps. length (filter best_one (items_at xs ps))) all_taken ∙ passing_all in
      let is : i ≡ length xs = ended ∙ as_many in (
        marked_all best_one xs (take i places) marks pass.marked (λ k h. subst (λ ps. Among ps k) (sym all_taken) (all_placed xs places perm k h)),
        omega (arith, pass.least_tests, passing, is),
        rw is at pass.most_tests,
        λ h. omega (arith, pass.few_tests h, is),
      )
