-- Tests and lists of codes.
use Rattle.std.proofs.Common.{◌≡◌, ℕ, ◌≤◌, ◌<◌, ◌==◌, ◌&&◌, List, [], ◌∷◌, ◌++◌, Bool, true, false, not, nat_lt, refl, arith}
use Rattle.std.proofs.lemmas.Bool.Decides.{nat_tests}
use Rattle.table_csv.specs.Fault.{spots, when}

-- two lists that are empty together
pub both_empty : {A : Type 0} (xs ys : List A) → xs ++ ys ≡ [] → (xs ≡ []) × (ys ≡ [])
both_empty [] ys is = (refl, is)
both_empty (x ∷ xs) ys is = absurd (cc)

pub no_codes : (number place : ℕ) (codes : List ℕ) → spots number place codes ≡ [] → codes ≡ []
no_codes number place [] is = refl
no_codes number place (code ∷ codes) is = absurd (cc)

pub not_when : (b : Bool) (code : ℕ) → when b code ≡ [] → b ≡ false
not_when true code is = absurd (cc)
not_when false code is = refl

pub true_from_not : (b : Bool) → not b ≡ false → b ≡ true
true_from_not true is = refl
true_from_not false is = absurd (cc)

pub and_left : (a b : Bool) → (a && b) ≡ true → a ≡ true
and_left true b is = refl
and_left false b is = absurd (cc)

pub at_most : (m n : ℕ) → nat_lt m n ≡ false → n ≤ m
at_most m n is = grind (arith, nat_tests)

pub below : (m n : ℕ) → nat_lt m n ≡ true → m < n
below m n is = grind (arith, nat_tests)

pub equal : (m n : ℕ) → (m == n) ≡ true → m ≡ n
equal m n is = grind (arith, nat_tests)

pub and_right : (a b : Bool) → (a && b) ≡ true → b ≡ true
and_right true b is = is
and_right false b is = absurd (cc)
