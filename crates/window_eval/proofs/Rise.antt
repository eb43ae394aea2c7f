-- What comes before what, in a list of rising keys.
use Rattle.std.proofs.Common.{◌≡◌, false, List, [], ◌∷◌, ◌++◌, inl, inr, subst}
use Rattle.std.specs.Ordering.{is_lt}
use Rattle.std.specs.declared.cmp.Ordering.{Ordering}
use Rattle.order_laws.proofs.Members.{Among, among_back}
use Rattle.window_eval.proofs.Passing.{Rising}

module _ {X : Type 0} (cmp : X → X → Ordering) where
  pub rising_back : (front back : List X) → Rising cmp (front ++ back) → Rising cmp back
  rising_back [] back r = r
  rising_back (y ∷ front) back r = rising_back front back r.1

  -- what stands in front is not greater
  pub rising_across : (front back : List X) → Rising cmp (front ++ back) → (y z : X) → Among front y → Among back z → is_lt (cmp z y) ≡ false
  rising_across [] back r y z a b = absurd a
  rising_across (u ∷ front) back r y z (inl e) b = subst (λ v. is_lt (cmp z v) ≡ false) e (r.0 z (among_back front back z b))
  rising_across (u ∷ front) back r y z (inr a) b = rising_across front back r.1 y z a b
