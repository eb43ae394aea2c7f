-- Bounds of sums and of choices.
use Rattle.std.proofs.Common.{◌≡◌, ℕ, ◌+◌, Option, Some, None, List, [], ◌∷◌, refl, ap, arith}
use Rattle.sql_resolver.specs.declared.found.FoundTerm.{FoundTerm}
use Rattle.sql_resolver.specs.Found.{added, capped, sum_bound}

capped_more : (m n : ℕ) → capped (0 + capped (m + n)) ≡ capped (m + n)
capped_more m n = omega arith

capped_still : (m n : ℕ) → capped (capped (m + n) + 0) ≡ capped (m + n)
capped_still m n = omega arith

added_before : (a b : Option ℕ) → added (Some 0) (added a b) ≡ added a b
added_before (Some m) (Some n) = ap Some (capped_more m n)
added_before (Some m) None = refl
added_before None b = refl

pub added_still : (a b : Option ℕ) → added (added a b) (Some 0) ≡ added a b
added_still (Some m) (Some n) = ap Some (capped_still m n)
added_still (Some m) None = refl
added_still None b = refl

pub sum_begun : (terms : List FoundTerm) → added (Some 0) (sum_bound terms) ≡ sum_bound terms
sum_begun [] = refl
sum_begun (term ∷ more) = added_before term.scalar.bound (sum_bound more)

pub ruleset sums = (sum_begun, added_still)
