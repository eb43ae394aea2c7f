-- Lists that are added one after the other, and one item more of a list that a loop makes.
use Rattle.std.proofs.Common.{◌≡◌, ℕ, ◌+◌, List, [], ◌∷◌, ◌++◌, map, sym, ap, ◌∙◌, append_assoc, arith}
use Rattle.std.specs.List.{range_with_len}
use Rattle.std.proofs.lemmas.List.FromFn.{map-range_with_len_more}

-- two or three lists added one after the other
pub two_more : {X : Type 0} (old mid new reads a b : List X) → mid ≡ old ++ a → new ≡ mid ++ b → reads ≡ a ++ b → new ≡ old ++ reads
two_more old mid new reads a b first second is =
    second ∙ ap (λ xs. xs ++ b) first ∙ append_assoc old a b ∙ ap (λ xs. old ++ xs) (sym is)

pub three_more : {X : Type 0} (old mid last new reads a b d : List X) → mid ≡ old ++ a → last ≡ mid ++ b → new ≡ last ++ d → reads ≡ a ++ (b ++ d) → new ≡ old ++ reads
three_more old mid last new reads a b d first second third is =
    two_more old mid new reads a (b ++ d) first (third ∙ ap (λ xs. xs ++ d) second ∙ append_assoc mid b d) is

pub pushed_more : {X : Type 0} (f : ℕ → X) (n : ℕ) (old new : List X) → old ≡ map f (range_with_len 0 n) → new ≡ old ++ f n ∷ [] → new ≡ map f (range_with_len 0 (n + 1))
pushed_more f n old new before pushed =
    let e : 0 + n ≡ n = omega arith in
    pushed ∙ ap (λ xs. xs ++ f n ∷ []) before ∙ sym (map-range_with_len_more f 0 n n e)
