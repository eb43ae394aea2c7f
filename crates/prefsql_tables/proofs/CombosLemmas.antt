-- Ranges of numbers, one after another.
use Rattle.std.proofs.Common.{◌≡◌, ℕ, zero, suc, ◌+◌, List, ◌++◌, arith, add-one, sym, ap, ◌∙◌, append_assoc}
use Rattle.std.specs.List.{flat_map, range_with_len}
use Rattle.std.proofs.lemmas.Grind.{common_steps}

-- the numbers from a on, and one more piece
flat_map-range_from : {X : Type 0} (f : ℕ → List X) (n a : ℕ) → flat_map f (range_with_len a (suc n)) ≡ flat_map f (range_with_len a n) ++ f (a + n)
flat_map-range_from f zero a = grind (arith, common_steps)
flat_map-range_from f (suc n) a =
    ap (λ more. f a ++ more) (flat_map-range_from f n (a + 1))
    ∙ sym (append_assoc (f a) (flat_map f (range_with_len (a + 1) n)) (f (a + 1 + n)))
    ∙ (let e : a + 1 + n ≡ a + suc n = omega arith in ap (λ k. (f a ++ flat_map f (range_with_len (a + 1) n)) ++ f k) e)

pub flat_map-range_more : {X : Type 0} (f : ℕ → List X) (n : ℕ) → flat_map f (range_with_len 0 (n + 1)) ≡ flat_map f (range_with_len 0 n) ++ f n
flat_map-range_more f n =
    let e : 0 + n ≡ n = omega arith in
    rw add-one (flat_map-range_from f n 0 ∙ ap (λ k. flat_map f (range_with_len 0 n) ++ f k) e)
