-- Sums in the range of a 128-bit number, term by term.
use Rattle.std.proofs.Common.{◌≡◌, ℕ, suc, ◌+◌, ◌<◌, pos, length, get_or, drop, List, [], ◌∷◌, map, refl, sym, ap, ◌∙◌, arith}
use Rattle.std.specs.Int.{int_wrap, w128}
use Rattle.std.proofs.Math.IntN.{+ℤ_assoc, +ℤ_idl, +ℤ_idr}
use Rattle.std.proofs.Math.Seq.{drop-cons}
use Rattle.std.proofs.lemmas.Int.{int_wrap-add_left, to_z-of_z, wrapping_add_is, wrapping_neg_is}
use Rattle.prefsql_values.specs.declared.value.Value.{Value}
use Rattle.prefsql_values.specs.declared.value.Value.TheVariants.{Num, Str, Null}
use Rattle.sql_tree.specs.Meaning.{added, sum_of}
use Rattle.sql_exec.specs.Wrapping.{wrapped, wrapped_sum}

pub added_grouped : (a b c : Value) → wrapped (added a (added b c)) ≡ wrapped (added (wrapped (added a b)) c)
added_grouped (Num a) (Num b) (Num c) = ap Num (ap (int_wrap w128) (sym (+ℤ_assoc a b c)) ∙ sym (int_wrap-add_left w128 _ c))
added_grouped (Num a) (Num b) (Str t) = refl
added_grouped (Num a) (Num b) Null = refl
added_grouped (Num a) (Str t) c = refl
added_grouped (Num a) Null c = refl
added_grouped (Str t) b c = refl
added_grouped Null b c = refl

zero_first : (a b : Value) → added (Num (pos 0)) (added a b) ≡ added a b
zero_first (Num a) (Num b) = ap Num (+ℤ_idl _)
zero_first (Num a) (Str t) = refl
zero_first (Num a) Null = refl
zero_first (Str t) b = refl
zero_first Null b = refl

-- nothing so far
pub sum_from_zero : (vs : List Value) → sum_of vs ≡ added (Num (pos 0)) (sum_of vs)
sum_from_zero [] = refl
sum_from_zero (v ∷ vs) = sym (zero_first v (sum_of vs))

pub zero_wrapped : Num (pos 0) ≡ wrapped (added (Num (pos 0)) (Num (pos 0)))
unfolding int_wrap
zero_wrapped = refl

-- a sum is a number or NULL
pub sum_at_end : (a b : Value) → wrapped (added a b) ≡ wrapped (added (wrapped (added a b)) (Num (pos 0)))
sum_at_end (Num a) (Num b) = ap Num (ap (int_wrap w128) (sym (+ℤ_idr _)) ∙ sym (int_wrap-add_left w128 _ (pos 0)))
sum_at_end (Num a) (Str t) = refl
sum_at_end (Num a) Null = refl
sum_at_end (Str t) b = refl
sum_at_end Null b = refl

-- one term more
pub next_sum : {X : Type 0} (f : X → Value) (xs : List X) (i : ℕ) (d x : X) (before term after : Value) → i < length xs → x ≡ get_or xs i d → term ≡ f x → after ≡ wrapped (added before term)
    → wrapped_sum (map f xs) ≡ wrapped (added before (sum_of (map f (drop i xs))))
    → (wrapped_sum (map f xs) ≡ wrapped (added after (sum_of (map f (drop (i + 1) xs))))) × (after ≡ wrapped (added after (Num (pos 0))))
next_sum f xs i d x before term after within is at_term is_after so_far = (
  so_far
      ∙ ap (λ rest. wrapped (added before (sum_of (map f rest)))) (drop-cons xs i d within)
      ∙ ap (λ v. wrapped (added before (added v (sum_of (map f (drop (suc i) xs)))))) (ap f (sym is) ∙ sym at_term)
      ∙ added_grouped before term (sum_of (map f (drop (suc i) xs)))
      ∙ ap (λ v. wrapped (added v (sum_of (map f (drop (suc i) xs))))) (sym is_after)
      ∙ ap (λ n. wrapped (added after (sum_of (map f (drop n xs))))) (let e : suc i ≡ i + 1 = omega arith in e),
  is_after ∙ sum_at_end before term ∙ ap (λ v. wrapped (added v (Num (pos 0)))) (sym is_after),
)

pub ruleset sums = (added_grouped, sum_from_zero, zero_wrapped, sum_at_end)

-- one sum, and one number with the other sign, of numbers in the range
pub ruleset wrapping = (to_z-of_z, wrapping_add_is, wrapping_neg_is)
