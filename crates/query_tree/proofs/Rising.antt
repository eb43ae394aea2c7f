-- Lists of places that do not descend, put together from their parts.
use Rattle.std.proofs.Common.{ℕ, zero, suc, ◌≤◌, ◌<◌, List, [], ◌∷◌, ◌++◌, length, get_or, arith}
use Rattle.std.specs.List.Sorted.{IsNonDecreasing}

-- from low up to high, and no number is less than the one before it
abbrev pub Rises : ℕ → ℕ → List ℕ → Type 0
Rises low high [] = low ≤ high
Rises low high (x ∷ xs) = (low ≤ x) × Rises x high xs

pub Rises-ends : (low high : ℕ) (xs : List ℕ) → Rises low high xs → low ≤ high
Rises-ends low high [] rises = rises
Rises-ends low high (x ∷ xs) rises = let rest = Rises-ends x high xs rises.1 in omega (arith, rises.0, rest)

pub Rises-wider : (low high lower higher : ℕ) (xs : List ℕ) → lower ≤ low → high ≤ higher → Rises low high xs → Rises lower higher xs
Rises-wider low high lower higher [] down up rises = omega (arith, rises)
Rises-wider low high lower higher (x ∷ xs) down up rises =
    (omega (arith, rises.0), Rises-wider x high x higher xs (omega arith) up rises.1)

pub Rises-append : (low middle high : ℕ) (xs ys : List ℕ) → Rises low middle xs → Rises middle high ys → Rises low high (xs ++ ys)
Rises-append low middle high [] ys first second = Rises-wider middle high low high ys first (omega arith) second
Rises-append low middle high (x ∷ xs) ys first second = (first.0, Rises-append x middle high xs ys first.1 second)

above_low : (low high : ℕ) (xs : List ℕ) (j d : ℕ) → Rises low high xs → j < length xs → low ≤ get_or xs j d
above_low low high [] j d rises inside = absurd (omega arith)
above_low low high (x ∷ xs) zero d rises inside = rises.0
above_low low high (x ∷ xs) (suc j) d rises inside =
    let later = above_low x high xs j d rises.1 (omega (arith, inside)) in
    omega (arith, rises.0, later)

pub Rises-sorted : (low high : ℕ) (xs : List ℕ) → Rises low high xs → IsNonDecreasing xs
Rises-sorted low high [] rises i j d order inside = absurd (omega arith)
Rises-sorted low high (x ∷ xs) rises zero zero d order inside = omega arith
Rises-sorted low high (x ∷ xs) rises zero (suc j) d order inside = above_low x high xs j d rises.1 (omega (arith, inside))
Rises-sorted low high (x ∷ xs) rises (suc i) zero d order inside = absurd (omega (arith, order))
Rises-sorted low high (x ∷ xs) rises (suc i) (suc j) d order inside =
    Rises-sorted x high xs rises.1 i j d (omega (arith, order)) (omega (arith, inside))
