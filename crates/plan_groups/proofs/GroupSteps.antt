-- The best of each group of a list, one group after the other: what is known on the way.
use Rattle.std.proofs.Common.{◌≡◌, ℕ, ◌+◌, ◌*◌, ◌-◌, ◌^◌, ◌<◌, ◌≤◌, min, Bool, true, false, List, [], ◌∷◌, ◌++◌, length, filter, refl, sym, ap, ◌∙◌, inl, inr, ⊎_elim, subst, arith, append_assoc, length-append}
use Rattle.std.specs.Cmp.{IsEquivalence}
use Rattle.std.specs.List.{sum_by}
use Rattle.std.specs.Ordering.{eq_of_both}
use Rattle.std.proofs.lemmas.Bool.{and_from, and_parts, both_ways}
use Rattle.std.proofs.lemmas.List.Elements.{filter-append}
use Rattle.std.proofs.lemmas.List.Sums.{sum_by-append, sum_by-cons}
use Rattle.order_laws.specs.Best.{best, is_unbettered}
use Rattle.order_laws.proofs.BestLaws.{same_tests, unbettered_at, unbettered_from}
use Rattle.order_laws.proofs.Members.{Among, among_back, among_either, among_front, among_kept, filter_same, filter_true}

sum_least : {X : Type 0} (f : X → ℕ) (m : ℕ) (xs : List X) → ((x : X) → Among xs x → m ≤ f x) → length xs * m ≤ sum_by f xs
sum_least f m [] h = omega arith
sum_least f m (x ∷ xs) h =
    let tail = sum_least f m xs (λ y a. h y (inr a)) in
    let head = h x (inl refl) in
    omega (arith, tail, head, sum_by-cons f x xs)

filter_all : {X : Type 0} (p : X → Bool) (xs : List X) → ((x : X) → Among xs x → p x ≡ true) → filter p xs ≡ xs
filter_all p xs h = filter_same p (λ x. true) xs h ∙ filter_true (λ x. true) xs (λ x. refl)

-- the steps of all tests are at most the tests times the width, until the count stays at its last value
steps_more : (width start before after tests more sum : ℕ) → sum ≡ min (tests + more) (2 ^ 64 - 1)
    → (tests < 2 ^ 64 - 1 → before ≤ start + tests * width) → (more < 2 ^ 64 - 1 → after ≤ before + more * width)
    → sum < 2 ^ 64 - 1 → after ≤ start + sum * width
steps_more width start before after tests more sum counted bound last below =
    let exact : sum ≡ tests + more = omega arith in
    let enough : before ≤ start + tests * width = bound (omega arith) in
    let added : after ≤ before + more * width = last (omega arith) in
    rw exact (omega (arith, enough, added))

-- how many tests a run took that chose some items, and how many steps
pub record IsCounted (width ins outs tests before after : ℕ) : Type 0 where
  pub least_tests : ins ≤ tests + outs
  pub most_tests : tests ≤ ins * outs
  pub least_steps : before + tests ≤ after
  pub most_steps : tests < 2 ^ 64 - 1 → after ≤ before + tests * width

module _ {X : Type 0} (same better : X → X → Bool) (all : List X) where
  abbrev one_best : X → Bool
  one_best = is_unbettered (eq_of_both same better) all

  abbrev weight : X → ℕ
  weight x = length (filter (λ y. same y x) (filter one_best all))

  -- of the items the first are done, in whole groups: their best ones are kept, by so many tests and steps
  pub record IsGrouped (width start : ℕ) (done rest kept : List X) (tests steps : ℕ) : Type 0 where
    pub whole : done ++ rest ≡ all
    pub apart : (a b : X) → Among done a → Among rest b → same a b ≡ false
    pub exact : kept ≡ filter one_best done
    pub least_tests : length done ≤ tests + length kept
    pub most_tests : tests ≤ sum_by weight done
    pub least_steps : start + tests ≤ steps
    pub most_steps : tests < 2 ^ 64 - 1 → steps ≤ start + tests * width

  module _ (equiv : IsEquivalence same) (done run more : List X) (whole : done ++ (run ++ more) ≡ all)
      (before_apart : (a b : X) → Among done a → Among (run ++ more) b → same a b ≡ false)
      (together : (a b : X) → Among run a → Among run b → same a b ≡ true)
      (behind_apart : (a b : X) → Among run a → Among more b → same a b ≡ false) where
    in_all : (x : X) → Among run x → Among all x
    in_all x a = subst (λ xs. Among xs x) whole (among_back done (run ++ more) x (among_front run more x a))

    -- an item of a group is best in the list where it is in the group
    best_in_run : (x : X) → Among run x → is_unbettered better run x ≡ one_best x
    best_in_run x ax =
        same_tests (is_unbettered better run x) (one_best x)
        (λ h. unbettered_from (eq_of_both same better) all x (λ y ay yx.
        let both = and_parts (same y x) (better y x) yx in
        ⊎_elim (λ in_done. both_ways (same y x) (before_apart y x in_done (among_front run more x ax)) both.0)
        (λ in_rest. ⊎_elim (λ in_run. unbettered_at better run x h y in_run both.1)
        (λ in_more. both_ways (same y x) (equiv.symm y x ∙ behind_apart x y ax in_more) both.0)
        (among_either run more y in_rest))
        (among_either done (run ++ more) y (subst (λ xs. Among xs y) (sym whole) ay))))
        (λ h. unbettered_from better run x (λ y ay yx. unbettered_at (eq_of_both same better) all x h y (in_all y ay) (and_from (same y x) (better y x) (together y x ay ax) yx)))

    best_of_run : best better run ≡ filter one_best run
    best_of_run = filter_same (is_unbettered better run) one_best run best_in_run

    -- the best of the group of an item are at least those of the run
    run_weighs : (x : X) → Among run x → length (filter one_best run) ≤ weight x
    run_weighs x ax =
        let p : X → Bool = λ y. same y x in
        let split : filter one_best all ≡ filter one_best done ++ (filter one_best run ++ filter one_best more) =
        ap (filter one_best) (sym whole) ∙ filter-append one_best done (run ++ more) ∙ ap (λ ys. filter one_best done ++ ys) (filter-append one_best run more)
        in
        let middle : filter p (filter one_best run) ≡ filter one_best run = filter_all p (filter one_best run) (λ y a. together y x ((among_kept one_best run y a).0) ax) in
        let parts : filter p (filter one_best all) ≡ filter p (filter one_best done) ++ (filter one_best run ++ filter p (filter one_best more)) =
        ap (filter p) split ∙ filter-append p (filter one_best done) (filter one_best run ++ filter one_best more)
        ∙ ap (λ ys. filter p (filter one_best done) ++ ys) (filter-append p (filter one_best run) (filter one_best more) ∙ ap (λ ys. ys ++ filter p (filter one_best more)) middle)
        in
        let long = length-append (filter p (filter one_best done)) (filter one_best run ++ filter p (filter one_best more)) in
        let inner = length-append (filter one_best run) (filter p (filter one_best more)) in
        omega (arith, ap length parts, long, inner)

    pub grouped_more : (width start : ℕ) (kept chosen : List X) (tests added sum before after : ℕ)
        → IsGrouped width start done (run ++ more) kept tests before
        → chosen ≡ best better run → IsCounted width (length run) (length chosen) added before after
        → sum ≡ min (tests + added) (2 ^ 64 - 1) → length done + length run < 2 ^ 64 → IsGrouped width start (done ++ run) more (kept ++ chosen) sum after
    grouped_more width start kept chosen tests added sum before after grouped is counted added_up small =
        let chosen_is : chosen ≡ filter one_best run = is ∙ best_of_run in
        let run_sum = sum_least weight (length (filter one_best run)) run run_weighs in
        let most : added ≤ length run * length (filter one_best run) = subst (λ ys. added ≤ length run * length ys) chosen_is counted.most_tests in
        record {
          whole = append_assoc done run more ∙ whole;
          apart = λ a b in_done in_more.
              ⊎_elim (λ first. before_apart a b first (among_back run more b in_more)) (λ second. behind_apart a b second in_more) (among_either done run a in_done);
          exact = (λ j. grouped.exact j ++ chosen_is j) ∙ sym (filter-append one_best done run);
          least_tests = omega (arith, grouped.least_tests, counted.least_tests, length-append kept chosen, length-append done run, small);
          most_tests = omega (arith, grouped.most_tests, most, run_sum, sum_by-append weight done run);
          least_steps = omega (arith, grouped.least_steps, counted.least_steps);
          most_steps = steps_more width start before after tests added sum added_up grouped.most_steps counted.most_steps;
        }
