-- The items of a list.
use Rattle.std.proofs.Common.{◌≡◌, zero, suc, ◌⊎◌, ⊎_elim, inl, inr, Bool, true, false, cond, List, [], ◌∷◌, Contains, refl, ap, ◌∙◌, subst, arith}
use Rattle.std.specs.List.{filter}
use Rattle.std.proofs.lemmas.Bool.{false≢true}

pub at_head : {X : Type 0} (x : X) (xs : List X) → Contains (x ∷ xs) x
at_head x xs = (0, omega arith, refl)

pub in_tail : {X : Type 0} (x : X) (xs : List X) (z : X) → Contains xs z → Contains (x ∷ xs) z
in_tail x xs z (k, small, is) = (suc k, omega arith, is)

pub head_or_tail : {X : Type 0} (x : X) (xs : List X) (z : X) → Contains (x ∷ xs) z → (x ≡ z) ⊎ Contains xs z
head_or_tail x xs z (zero, small, is) = inl is
head_or_tail x xs z (suc k, small, is) = inr (k, omega arith, is)

pub none_in : {X : Type 0} (z : X) → Contains [] z → ⊥
none_in z c = let small = c.1 in omega arith

in_kept : {X : Type 0} (b : Bool) (x : X) (kept : List X) (z : X) → Contains kept z → Contains (cond b (x ∷ kept) kept) z
in_kept true x kept z c = in_tail x kept z c
in_kept false x kept z c = c

kept_head : {X : Type 0} (b : Bool) (x : X) (kept : List X) → b ≡ true → Contains (cond b (x ∷ kept) kept) x
kept_head true x kept e = at_head x kept
kept_head false x kept e = absurd (false≢true e)

-- an item that passes is kept
pub Contains-filter : {X : Type 0} (p : X → Bool) (xs : List X) (z : X) → Contains xs z → p z ≡ true → Contains (filter p xs) z
Contains-filter p [] z c passes = absurd (none_in z c)
Contains-filter {X} p (x ∷ xs) z c passes =
    ⊎_elim
    (λ (e : x ≡ z). subst (λ (w : X). Contains (cond (p x) (x ∷ filter p xs) (filter p xs)) w) e (kept_head (p x) x (filter p xs) (ap p e ∙ passes)))
    (λ (tail : Contains xs z). in_kept (p x) x (filter p xs) z (Contains-filter p xs z tail passes))
    (head_or_tail x xs z c)

was_there : {X : Type 0} (b : Bool) (x : X) (xs kept : List X) (z : X) → (Contains kept z → Contains xs z) → Contains (cond b (x ∷ kept) kept) z → Contains (x ∷ xs) z
was_there {X} true x xs kept z from c = ⊎_elim (λ (e : x ≡ z). subst (λ (w : X). Contains (x ∷ xs) w) e (at_head x xs)) (λ (tail : Contains kept z). in_tail x xs z (from tail)) (head_or_tail x kept z c)
was_there false x xs kept z from c = in_tail x xs z (from c)

-- what is kept was there
pub Contains-from_filter : {X : Type 0} (p : X → Bool) (xs : List X) (z : X) → Contains (filter p xs) z → Contains xs z
Contains-from_filter p [] z c = c
Contains-from_filter p (x ∷ xs) z c = was_there (p x) x xs (filter p xs) z (Contains-from_filter p xs z) c
