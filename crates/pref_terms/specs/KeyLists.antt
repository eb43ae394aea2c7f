-- Keys compared as lists: where two lists begin with lists of one length, those decide first, and
-- with their signs changed they compare the other way round.
use Rattle.std.proofs.Common.{◌≡◌, ℤ, neg_ℤ, ◌<ℤ◌, List, [], ◌∷◌, ◌++◌, length, map, refl, ap, ◌∙◌, arith}
use Rattle.std.specs.Ordering.{MatchOrdering, ordering_then, int_cmp}
use Rattle.std.specs.Cmp.Lexicographic.{slice_cmp}
use Rattle.std.specs.declared.cmp.Ordering.{Ordering}
use Rattle.std.specs.declared.cmp.Ordering.TheVariants.{Less, Equal, Greater}
use Rattle.std.proofs.lemmas.Cmp.{int_ranked}
use Rattle.std.specs.Cmp.{int_cmp_is}
use Rattle.std.proofs.lemmas.Int.{ints}

pub then_then : (a b c : Ordering) → ordering_then a (ordering_then b c)
    ≡ ordering_then (ordering_then a b) c
then_then Less b c = refl
then_then Equal b c = refl
then_then Greater b c = refl

pub then_Equal : (a : Ordering) → ordering_then a Equal ≡ a
then_Equal Less = refl
then_Equal Equal = refl
then_Equal Greater = refl

pub slice_cmp-append : (xs ys us vs : List ℤ) → length xs ≡ length ys
    → slice_cmp int_cmp (xs ++ us) (ys ++ vs)
    ≡ ordering_then (slice_cmp int_cmp xs ys) (slice_cmp int_cmp us vs)
slice_cmp-append [] [] us vs e = refl
slice_cmp-append [] (y ∷ ys) us vs e = absurd (omega arith)
slice_cmp-append (x ∷ xs) [] us vs e = absurd (omega arith)
slice_cmp-append (x ∷ xs) (y ∷ ys) us vs e =
    ap (ordering_then (int_cmp x y)) (slice_cmp-append xs ys us vs (omega arith))
    ∙ then_then (int_cmp x y) (slice_cmp int_cmp xs ys) (slice_cmp int_cmp us vs)

turned_match : (a b : ℤ) (o : Ordering)
    → MatchOrdering o (neg_ℤ a <ℤ neg_ℤ b) (neg_ℤ a ≡ neg_ℤ b) (neg_ℤ b <ℤ neg_ℤ a)
    → MatchOrdering o (b <ℤ a) (b ≡ a) (a <ℤ b)
turned_match a b Less h = omega (arith, ints, h)
turned_match a b Equal h = omega (arith, ints, h)
turned_match a b Greater h = omega (arith, ints, h)

pub int_cmp-neg : (a b : ℤ) → int_cmp (neg_ℤ a) (neg_ℤ b) ≡ int_cmp b a
int_cmp-neg a b =
    let o = int_cmp (neg_ℤ a) (neg_ℤ b) in
    int_cmp_is b a o (turned_match a b o (int_ranked (neg_ℤ a) (neg_ℤ b) o refl))

pub slice_cmp-neg : (xs ys : List ℤ) → length xs ≡ length ys
    → slice_cmp int_cmp (map neg_ℤ xs) (map neg_ℤ ys) ≡ slice_cmp int_cmp ys xs
slice_cmp-neg [] [] e = refl
slice_cmp-neg [] (y ∷ ys) e = absurd (omega arith)
slice_cmp-neg (x ∷ xs) [] e = absurd (omega arith)
slice_cmp-neg (x ∷ xs) (y ∷ ys) e =
    let rest = slice_cmp-neg xs ys (omega arith) in
    (λ j. ordering_then (int_cmp-neg x y j) (rest j))
