-- In a sorted list the items that tie with one stand side by side.
use Rattle.std.proofs.Common.{◌≡◌, ℕ, ◌+◌, ◌<◌, ◌≤◌, true, false, List, length, take, drop, get_or, refl, sym, ap, ◌∙◌, subst, arith}
use Rattle.std.specs.Cmp.{IsTotalOrder}
use Rattle.std.specs.List.Sorted.{IsSorted}
use Rattle.std.specs.Ordering.{is_eq, is_lt, ordering_reverse}
use Rattle.std.specs.declared.cmp.Ordering.{Ordering}
use Rattle.std.specs.declared.cmp.Ordering.TheVariants.{Less, Equal, Greater}
use Rattle.std.proofs.lemmas.Bool.{both_ways, false≢true, false_from_ne_true}
use Rattle.std.proofs.lemmas.Cmp.{eq_by_cmp_equiv}
use Rattle.std.proofs.lemmas.List.{get_or-drop, get_or-take, get_or_default, length-drop, length-take}
use Rattle.std.proofs.lemmas.List.Sorted.{ranks_by, sorted_far}
use Rattle.order_laws.proofs.Members.{Among, Contains_from_among}

is_eq-true : (o : Ordering) → is_eq o ≡ true → o ≡ Equal
is_eq-true Less h = absurd (false≢true h)
is_eq-true Equal h = refl
is_eq-true Greater h = absurd (false≢true h)

tie_of : (o p : Ordering) → o ≡ ordering_reverse p → is_lt p ≡ false → is_lt o ≡ false → is_eq o ≡ true
tie_of Less p e h k = absurd (false≢true (sym k))
tie_of Equal p e h k = refl
tie_of Greater Less e h k = absurd (false≢true (sym h))
tie_of Greater Equal e h k = absurd (cc)
tie_of Greater Greater e h k = absurd (cc)

module _ {X : Type 0} {cmp : X → X → Ordering} (total : IsTotalOrder cmp) (xs : List X) (sorted : IsSorted cmp xs) where
  far : (i j : ℕ) (d : X) → i ≤ j → j < length xs → is_lt (cmp (get_or xs j d) (get_or xs i d)) ≡ false
  far = sorted_far (λ a b. is_lt (cmp a b)) (ranks_by total (λ x. x)) xs sorted

  -- what stands behind one that does not tie does not tie
  beyond : (i m j : ℕ) (d : X) → i ≤ m → m ≤ j → j < length xs → is_eq (cmp (get_or xs i d) (get_or xs m d)) ≡ false → is_eq (cmp (get_or xs i d) (get_or xs j d)) ≡ false
  beyond i m j d im mj small differs =
      let x = get_or xs i d in
      let y = get_or xs m d in
      let z = get_or xs j d in
      false_from_ne_true (is_eq (cmp x z)) (λ h.
      let tied : cmp x y ≡ cmp z y = total.congr x z y (is_eq-true (cmp x z) h) in
      both_ways (is_eq (cmp x y)) differs
      (tie_of (cmp x y) (cmp y x) (total.antisymm x y) (far i m d im (omega (arith, mj, small))) (ap is_lt tied ∙ far m j d mj small)))

  module _ (at count : ℕ) (within : at + count ≤ length xs) (d : X)
      (one : (k : ℕ) → k < count → is_eq (cmp (get_or xs at d) (get_or xs (at + k) d)) ≡ true)
      (ends : at + count < length xs → is_eq (cmp (get_or xs at d) (get_or xs (at + count) d)) ≡ false) where
    with_first : (a : X) → Among (take count (drop at xs)) a → is_eq (cmp (get_or xs at d) a) ≡ true
    with_first a in_run =
        let c = Contains_from_among (take count (drop at xs)) a in_run in
        let small : c.0 < count = (let h = c.1 in omega (arith, h, length-take count (drop at xs))) in
        let is : get_or xs (at + c.0) d ≡ a =
        sym (get_or-drop at xs c.0 d) ∙ sym (get_or-take count (drop at xs) c.0 d small) ∙ get_or_default (take count (drop at xs)) c.0 d a c.1 ∙ c.2
        in
        subst (λ (x : X). is_eq (cmp (get_or xs at d) x) ≡ true) is (one c.0 small)

    -- those of the run tie
    pub together : (a b : X) → Among (take count (drop at xs)) a → Among (take count (drop at xs)) b → is_eq (cmp a b) ≡ true
    together a b first second =
        sym ((eq_by_cmp_equiv total).congr (get_or xs at d) a b (with_first a first)) ∙ with_first b second

    -- and do not tie with those behind it
    pub apart : (a b : X) → Among (take count (drop at xs)) a → Among (drop (at + count) xs) b → is_eq (cmp a b) ≡ false
    apart a b first second =
        let c = Contains_from_among (drop (at + count) xs) b second in
        let small : at + count + c.0 < length xs = (let h = c.1 in omega (arith, h, length-drop (at + count) xs)) in
        let is : get_or xs (at + count + c.0) d ≡ b = sym (get_or-drop (at + count) xs c.0 d) ∙ get_or_default (drop (at + count) xs) c.0 d b c.1 ∙ c.2 in
        sym ((eq_by_cmp_equiv total).congr (get_or xs at d) a b (with_first a first))
        ∙ subst (λ (x : X). is_eq (cmp (get_or xs at d) x) ≡ false) is
        (beyond at (at + count) (at + count + c.0) d (omega arith) (omega arith) small (ends (omega (arith, small))))
