-- Sorted rows without their repetitions, and that the rows of an answer have one arrangement.
use Rattle.std.proofs.Common.{◌≡◌, ◌≢◌, ◌↔◌, ℕ, zero, suc, ◌+◌, ◌-◌, ◌<◌, ⊎_elim, false, List, [], ◌∷◌, ◌++◌, length, get_or, AllPairs, Contains, refl, sym, ap, ◌∙◌, subst, arith, length-append}
use Rattle.std.specs.Cmp.{IsTotalOrder}
use Rattle.std.specs.List.Sorted.{IsSorted}
use Rattle.std.specs.Ordering.{is_lt, ordering_reverse}
use Rattle.std.specs.declared.cmp.Ordering.{Ordering}
use Rattle.std.specs.declared.cmp.Ordering.TheVariants.{Less, Equal, Greater}
use Rattle.std.proofs.lemmas.Bool.{cases_lt}
use Rattle.std.proofs.lemmas.Cmp.{tied_itself}
use Rattle.std.proofs.lemmas.List.{get_or_append_left, get_or_push, get_or_at}
use Rattle.std.proofs.lemmas.List.Elements.{Contains-append_left, Contains-append_right, Contains-append_cases, Contains-get_or}
use Rattle.std.proofs.lemmas.List.Sorted.{ranks_by, sorted_far}
use Rattle.prefsql_tables.proofs.MemberLemmas.{at_head, in_tail, head_or_tail, none_in}

-- the items of a list that rises, each once
pub record IsOnce {X : Type 0} (R : X → X → Ordering) (done once : List X) : Type 0 where
  pub rising : AllPairs (λ a b. R a b ≡ Less) once
  pub members : (x : X) → Contains done x ↔ Contains once x

one_item : {X : Type 0} (y x : X) → Contains (y ∷ []) x → y ≡ x
one_item y x (zero, small, is) = is
one_item y x (suc k, small, is) = absurd (omega arith)

pub none_once : {X : Type 0} (R : X → X → Ordering) → IsOnce R [] []
none_once R = record { rising = λ i j d low high. absurd (omega arith); members = λ x. (λ c. c, λ c. c) }

-- an item that is there already
pub once_there : {X : Type 0} (R : X → X → Ordering) (done once : List X) (x : X) → IsOnce R done once → Contains once x → IsOnce R (done ++ x ∷ []) once
once_there {X} R done once x so there = record {
  rising = so.rising;
  members = λ y. (
    (λ c. ⊎_elim (λ (old : Contains done y). (so.members y).0 old) (λ (new : Contains (x ∷ []) y). let same : x ≡ y = one_item x y new in subst (λ (z : X). Contains once z) same there) (Contains-append_cases done (x ∷ []) y c)),
    (λ c. Contains-append_left done (x ∷ []) y ((so.members y).1 c)),
  );
}

module _ {X : Type 0} (R : X → X → Ordering) (total : IsTotalOrder R) (ties : (x y : X) → R x y ≡ Equal → x ≡ y) where
  -- what is not before and not the same is behind
  behind : (x y : X) → is_lt (R x y) ≡ false → y ≢ x → R y x ≡ Less
  behind x y not_before differs =
      elim (R y x) as (λ o. R y x ≡ o → R y x ≡ Less) [
        | Less ↦ λ e. e
        | Equal ↦ λ e. absurd (differs (ties y x e))
        | Greater ↦ λ e. let less : R x y ≡ Less = total.antisymm x y ∙ ap ordering_reverse e in absurd (let f : is_lt Less ≡ false = sym (ap is_lt less) ∙ not_before in cc)
      ] refl

  -- an item behind all that were done and different from the last one
  pub once_new : (done once : List X) (x : X) → IsOnce R done once → ((k : ℕ) (d : X) → k < length done → is_lt (R x (get_or done k d)) ≡ false)
      → ((d : X) → 0 < length once → get_or once (length once - 1) d ≢ x) → IsOnce R (done ++ x ∷ []) (once ++ x ∷ [])
  once_new done once x so passed differs = record {
    rising = λ i j d before small.
        let longer : length (once ++ x ∷ []) ≡ length once + 1 = length-append once (x ∷ []) in
        let here : get_or (once ++ x ∷ []) i d ≡ get_or once i d = get_or_append_left once (x ∷ []) d i (omega arith) in
        ⊎_elim
        (λ within. let there : get_or (once ++ x ∷ []) j d ≡ get_or once j d = get_or_append_left once (x ∷ []) d j within in
        rw (here, there) (so.rising i j d before within))
        (λ past. let last : get_or (once ++ x ∷ []) j d ≡ x = get_or_push once x d j (omega arith) in
        rw (here, last) (below i d (omega arith)))
        (cases_lt j (length once));
    members = λ y. (
      (λ c. ⊎_elim (λ (old : Contains done y). Contains-append_left once (x ∷ []) y ((so.members y).0 old)) (λ (new : Contains (x ∷ []) y). Contains-append_right once (x ∷ []) y new) (Contains-append_cases done (x ∷ []) y c)),
      (λ c. ⊎_elim (λ (old : Contains once y). Contains-append_left done (x ∷ []) y ((so.members y).1 old)) (λ (new : Contains (x ∷ []) y). Contains-append_right done (x ∷ []) y new) (Contains-append_cases once (x ∷ []) y c)),
    );
  }
    where
      not_before : (y : X) → Contains once y → is_lt (R x y) ≡ false
      not_before y c = let at = (so.members y).1 c in subst (λ (z : X). is_lt (R x z) ≡ false) at.2 (passed at.0 y at.1)

      last_below : (d : X) → 0 < length once → R (get_or once (length once - 1) d) x ≡ Less
      last_below d some = behind x (get_or once (length once - 1) d) (not_before _ (Contains-get_or once (length once - 1) d (omega arith))) (differs d some)

      below : (i : ℕ) (d : X) → i < length once → R (get_or once i d) x ≡ Less
      below i d small = ⊎_elim
          (λ earlier. total.trans (get_or once i d) (get_or once (length once - 1) d) x (so.rising i (length once - 1) d earlier (omega arith)) (last_below d (omega arith)))
          (λ late. let is : i ≡ length once - 1 = omega arith in rw is (last_below d (omega arith)))
          (cases_lt i (length once - 1))

  -- what is done of a sorted list is not behind what follows
  pub passed_by : (all done : List X) (x : X) (rest : List X) → all ≡ done ++ x ∷ rest → IsSorted R all → (k : ℕ) (d : X) → k < length done → is_lt (R x (get_or done k d)) ≡ false
  passed_by all done x rest is sorted k d small =
      let order = ranks_by total (λ (z : X). z) in
      let long : length all ≡ length done + length (x ∷ rest) = ap length is ∙ length-append done (x ∷ rest) in
      let low : get_or all k d ≡ get_or done k d = ap (λ zs. get_or zs k d) is ∙ get_or_append_left done (x ∷ rest) d k small in
      let high : get_or all (length done) d ≡ x = ap (λ zs. get_or zs (length done) d) is ∙ get_or_at done x rest d (length done) refl in
      let far = sorted_far (λ a b. is_lt (R a b)) order all sorted k (length done) d (omega arith) (omega arith) in
      rw (← low, ← high) far

  -- a list that rises is sorted, and no item stands twice in it
  pub rising_sorted : (xs : List X) → AllPairs (λ a b. R a b ≡ Less) xs → IsSorted R xs
  rising_sorted xs rising k d low high =
      let less : R (get_or xs k d) (get_or xs (k + 1) d) ≡ Less = rising k (k + 1) d (omega arith) high in
      let more : R (get_or xs (k + 1) d) (get_or xs k d) ≡ Greater = total.antisymm _ _ ∙ ap ordering_reverse less in
      ap is_lt more

  pub rising_differs : (xs : List X) → AllPairs (λ a b. R a b ≡ Less) xs → AllPairs (λ a b. a ≢ b) xs
  rising_differs xs rising i j d before small same =
      let less : R (get_or xs i d) (get_or xs j d) ≡ Less = rising i j d before small in
      let tied : R (get_or xs i d) (get_or xs j d) ≡ Equal = rw same (tied_itself total (get_or xs j d)) in
      cc

  -- a sorted list in which no item stands twice rises
  sorted_rises : (xs : List X) → IsSorted R xs → AllPairs (λ a b. a ≢ b) xs → AllPairs (λ a b. R a b ≡ Less) xs
  sorted_rises xs sorted differ i j d before small =
      let order = ranks_by total (λ (z : X). z) in
      behind (get_or xs j d) (get_or xs i d) (sorted_far (λ a b. is_lt (R a b)) order xs sorted i j d (omega arith) small) (differ i j d before small)

  head_less : (x : X) (xs : List X) (z : X) → AllPairs (λ a b. R a b ≡ Less) (x ∷ xs) → Contains xs z → R x z ≡ Less
  head_less x xs z rising (k, small, is) = subst (λ (y : X). R x y ≡ Less) is (rising 0 (suc k) z (omega arith) (omega arith))

  tail_rising : (x : X) (xs : List X) → AllPairs (λ a b. R a b ≡ Less) (x ∷ xs) → AllPairs (λ a b. R a b ≡ Less) xs
  tail_rising x xs rising i j d before small = rising (suc i) (suc j) d (omega arith) (omega arith)

  -- the head of a list is not before all of a rising list with the same items
  not_less : (x y : X) (xs ys : List X) → AllPairs (λ a b. R a b ≡ Less) (y ∷ ys) → ((z : X) → Contains (x ∷ xs) z → Contains (y ∷ ys) z) → R x y ≡ Less → ⊥
  not_less x y xs ys rising same less =
      ⊎_elim
      (λ (e : y ≡ x). let tied : R x y ≡ Equal = rw e (tied_itself total x) in cc)
      (λ (c : Contains ys x). let after : R y x ≡ Less = head_less y ys x rising c in let back : R x y ≡ Greater = total.antisymm x y ∙ ap ordering_reverse after in cc)
      (head_or_tail y ys x (same x (at_head x xs)))

  tail_same : (x : X) (xs ys : List X) → AllPairs (λ a b. R a b ≡ Less) (x ∷ xs) → ((z : X) → Contains (x ∷ xs) z → Contains (x ∷ ys) z) → (z : X) → Contains xs z → Contains ys z
  tail_same x xs ys rising same z c =
      ⊎_elim
      (λ (e : x ≡ z). let less : R x z ≡ Less = head_less x xs z rising c in let tied : R x z ≡ Equal = rw (← e) (tied_itself total x) in absurd (cc))
      (λ (k : Contains ys z). k)
      (head_or_tail x ys z (same z (in_tail x xs z c)))

  one_rising : (xs ys : List X) → AllPairs (λ a b. R a b ≡ Less) xs → AllPairs (λ a b. R a b ≡ Less) ys
      → ((z : X) → Contains xs z → Contains ys z) → ((z : X) → Contains ys z → Contains xs z) → xs ≡ ys
  one_rising [] [] p q to from = refl
  one_rising [] (y ∷ ys) p q to from = absurd (none_in y (from y (at_head y ys)))
  one_rising (x ∷ xs) [] p q to from = absurd (none_in x (to x (at_head x xs)))
  one_rising (x ∷ xs) (y ∷ ys) p q to from =
      elim (R x y) as (λ o. R x y ≡ o → x ∷ xs ≡ y ∷ ys) [
        | Less ↦ λ e. absurd (not_less x y xs ys q to e)
        | Equal ↦ λ e.
            let alike : y ≡ x = sym (ties x y e) in
            let q' : AllPairs (λ a b. R a b ≡ Less) (x ∷ ys) = subst (λ (w : X). AllPairs (λ a b. R a b ≡ Less) (w ∷ ys)) alike q in
            let to' : (z : X) → Contains (x ∷ xs) z → Contains (x ∷ ys) z = λ z. subst (λ (w : X). Contains (x ∷ xs) z → Contains (w ∷ ys) z) alike (to z) in
            let from' : (z : X) → Contains (x ∷ ys) z → Contains (x ∷ xs) z = λ z. subst (λ (w : X). Contains (w ∷ ys) z → Contains (x ∷ xs) z) alike (from z) in
            let rest = one_rising xs ys (tail_rising x xs p) (tail_rising x ys q') (tail_same x xs ys p to') (tail_same x ys xs q' from') in
            cc
        | Greater ↦ λ e. absurd (not_less y x ys xs p from (total.antisymm y x ∙ ap ordering_reverse e))
      ] refl

  -- two sorted lists with the same items, in neither of which one stands twice, are one list
  pub one_list : (xs ys : List X) → IsSorted R xs → IsSorted R ys → AllPairs (λ a b. a ≢ b) xs → AllPairs (λ a b. a ≢ b) ys
      → ((z : X) → Contains xs z → Contains ys z) → ((z : X) → Contains ys z → Contains xs z) → xs ≡ ys
  one_list xs ys up rise p q to from = one_rising xs ys (sorted_rises xs up p) (sorted_rises ys rise q) to from
