-- A quality whose key is no greater keeps below each upper bound, and stays the best.
use Rattle.std.proofs.Common.{◌≡◌, ℕ, ℤ, pos, Bool, true, false, nat_eq, ◌⊎◌, refl, sym, ap, ◌∙◌, inl, inr, arith}
use Rattle.std.specs.Ordering.{int_cmp, int_eq}
use Rattle.std.specs.declared.cmp.Ordering.{Ordering}
use Rattle.std.specs.declared.cmp.Ordering.TheVariants.{Less, Equal, Greater}
use Rattle.std.proofs.lemmas.Bool.{both_ways}
use Rattle.std.proofs.lemmas.Cmp.{alike_right, int_cmp_total, int_ranked}
use Rattle.std.proofs.lemmas.Int.{ints}
use Rattle.prefsql_values.specs.declared.value.CompareOp.{CompareOp}
use Rattle.prefsql_values.specs.declared.value.CompareOp.TheVariants.{Eq, Ne, Lt, Le, Gt, Ge}
use Rattle.prefsql_values.specs.declared.value.Value.{Value}
use Rattle.prefsql_values.specs.declared.value.Value.TheVariants.{Num, Str, Null}
use Rattle.prefsql_values.specs.Truth.{is_true}
use Rattle.prefsql_values.specs.Value.{admits, comparison, truth_of}
use Rattle.base_prefs.specs.Kind.{distance_of, key_of, level_of}
use Rattle.base_prefs.specs.declared.kind.Kind.{Kind}
use Rattle.base_prefs.specs.declared.kind.Kind.TheVariants.{Pos, Neg, PosPos, PosNeg, Layered, Explicit, Around, Between, Lowest, Highest}
use Rattle.conditions.specs.Meaning.{is_best, quality_of}
use Rattle.conditions.proofs.BestLaws.{least_key}
use Rattle.plan_stages.specs.Sinking.{is_upper}

-- the first key is not greater
abbrev pub IsNoGreater : ℤ → ℤ → Type 0
IsNoGreater a b = (int_cmp a b ≡ Less) ⊎ (int_cmp a b ≡ Equal)

pos_same : (m n : ℕ) → pos m ≡ pos n → m ≡ n
pos_same m n is = omega (arith, ints)

level_best : (m n : ℕ) → pos n ≡ pos m → nat_eq m 1 ≡ true → nat_eq n 1 ≡ true
level_best m n is best = ap (λ k. nat_eq k 1) (pos_same n m is) ∙ best

same_best : (kind : Kind) (v w : Value) → key_of kind w ≡ key_of kind v → is_best (level_of kind v) (distance_of kind v) ≡ true → is_best (level_of kind w) (distance_of kind w) ≡ true
same_best (Around center) v w is best = ap (λ d. int_eq d (pos 0)) is ∙ best
same_best (Between low up) v w is best = ap (λ d. int_eq d (pos 0)) is ∙ best
same_best Lowest v w is best = best
same_best Highest v w is best = best
same_best (Pos s) v w is best = level_best _ _ is best
same_best (Neg s) v w is best = level_best _ _ is best
same_best (PosPos s t) v w is best = level_best _ _ is best
same_best (PosNeg s t) v w is best = level_best _ _ is best
same_best (Layered before after) v w is best = level_best _ _ is best
same_best (Explicit g) v w is best = level_best _ _ is best

-- with a key that is no greater the best stays the best
pub best_up : (kind : Kind) (v w : Value) → IsNoGreater (key_of kind w) (key_of kind v) → is_best (level_of kind v) (distance_of kind v) ≡ true → is_best (level_of kind w) (distance_of kind w) ≡ true
best_up kind v w (inl less) best = absurd (least_key kind v w best (int_ranked (key_of kind w) (key_of kind v) Less (sym less)))
best_up kind v w (inr equal) best = same_best kind v w (int_ranked (key_of kind w) (key_of kind v) Equal (sym equal)) best

-- the value of a quality is the key, but for the kinds without one
abbrev pub number_or_null : Bool → ℤ → Value
number_or_null true n = Num n
number_or_null false n = Null

pub quality_is_key : (kind : Kind) → (b : Bool) × ((v : Value) → quality_of (level_of kind v) (distance_of kind v) ≡ number_or_null b (key_of kind v))
quality_is_key (Pos s) = (true, λ v. refl)
quality_is_key (Neg s) = (true, λ v. refl)
quality_is_key (PosPos s t) = (true, λ v. refl)
quality_is_key (PosNeg s t) = (true, λ v. refl)
quality_is_key (Layered before after) = (true, λ v. refl)
quality_is_key (Explicit g) = (true, λ v. refl)
quality_is_key (Around center) = (true, λ v. refl)
quality_is_key (Between low up) = (true, λ v. refl)
quality_is_key Lowest = (false, λ v. refl)
quality_is_key Highest = (false, λ v. refl)

pub true_test : (b : Bool) → is_true (truth_of b) ≡ b
true_test true = refl
true_test false = refl

-- a smaller number passes the same upper bound
lower_admits : (op : CompareOp) → is_upper op ≡ true → (o p : Ordering) → (o ≡ Less → p ≡ Less) → (o ≡ Equal → p ≡ Less) → admits op o ≡ true → admits op p ≡ true
lower_admits Lt upper Less p less equal h = ap (admits Lt) (less refl)
lower_admits Lt upper Equal p less equal h = absurd (both_ways false refl h)
lower_admits Lt upper Greater p less equal h = absurd (both_ways false refl h)
lower_admits Le upper Less p less equal h = ap (admits Le) (less refl)
lower_admits Le upper Equal p less equal h = ap (admits Le) (equal refl)
lower_admits Le upper Greater p less equal h = absurd (both_ways false refl h)
lower_admits Eq upper o p less equal h = absurd (both_ways false refl upper)
lower_admits Ne upper o p less equal h = absurd (both_ways false refl upper)
lower_admits Gt upper o p less equal h = absurd (both_ways false refl upper)
lower_admits Ge upper o p less equal h = absurd (both_ways false refl upper)

number_up : (op : CompareOp) → is_upper op ≡ true → (a b m : ℤ) → IsNoGreater a b → admits op (int_cmp b m) ≡ true → admits op (int_cmp a m) ≡ true
number_up op upper a b m (inr equal) h = ap (admits op) (int_cmp_total.congr a b m equal) ∙ h
number_up op upper a b m (inl less) h =
    lower_admits op upper (int_cmp b m) (int_cmp a m)
    (λ bm. int_cmp_total.trans a b m less bm)
    (λ bm. sym (alike_right int_cmp_total b m a bm) ∙ less)
    h

bound_up : (op : CompareOp) → is_upper op ≡ true → (a b : ℤ) (literal : Value) → IsNoGreater a b → is_true (comparison op (Num b) literal) ≡ true → is_true (comparison op (Num a) literal) ≡ true
bound_up op upper a b (Num m) no_greater h = true_test (admits op (int_cmp a m)) ∙ number_up op upper a b m no_greater (sym (true_test (admits op (int_cmp b m))) ∙ h)
bound_up op upper a b (Str s) no_greater h = h
bound_up op upper a b Null no_greater h = absurd (both_ways false refl h)

pub quality_up : (op : CompareOp) → is_upper op ≡ true → (has : Bool) (a b : ℤ) (literal : Value) → IsNoGreater a b → is_true (comparison op (number_or_null has b) literal) ≡ true → is_true (comparison op (number_or_null has a) literal) ≡ true
quality_up op upper true a b literal no_greater h = bound_up op upper a b literal no_greater h
quality_up op upper false a b literal no_greater h = h
