-- When it is True that two values are equal.
use Rattle.std.proofs.Common.{◌≡◌, Bool, true, false, cond, not, ◌&&◌, Option, Some, None, refl, sym, ap, ◌∙◌}
use Rattle.std.specs.Ordering.{is_eq}
use Rattle.std.specs.declared.cmp.Ordering.{Ordering}
use Rattle.std.specs.declared.cmp.Ordering.TheVariants.{Less, Equal, Greater}
use Rattle.std.proofs.lemmas.Bool.{and_parts, false≢true}
use Rattle.prefsql_values.specs.Truth.{is_true}
use Rattle.prefsql_values.specs.Value.{admits, comparison, is_null, nulls_last, truth_of, value_eq}
use Rattle.prefsql_values.specs.declared.value.CompareOp.TheVariants.{Eq}
use Rattle.prefsql_values.specs.declared.value.Value.{Value}
use Rattle.prefsql_values.specs.declared.value.Value.TheVariants.{Num, Str, Null}
use Rattle.prefsql_values.proofs.ValueEq.{value_eq-Decides}
use Rattle.prefsql_values.proofs.ValueOrder.{nulls_last_ties}
use Rattle.value_index.specs.Places.{are_equal}

told : (o : Ordering) → is_true (truth_of (admits Eq o)) ≡ is_eq o
told Less = refl
told Equal = refl
told Greater = refl

-- equal, and not NULL
pub are_equal_is : (a b : Value) → are_equal a b ≡ (not (is_null a) && value_eq a b)
are_equal_is (Num m) (Num n) = told (nulls_last (Num m) (Num n)) ∙ sym (nulls_last_ties (Num m) (Num n))
are_equal_is (Num m) (Str t) = refl
are_equal_is (Num m) Null = refl
are_equal_is (Str s) (Num n) = refl
are_equal_is (Str s) (Str t) = told (nulls_last (Str s) (Str t)) ∙ sym (nulls_last_ties (Str s) (Str t))
are_equal_is (Str s) Null = refl
are_equal_is Null (Num n) = refl
are_equal_is Null (Str t) = refl
are_equal_is Null Null = refl

-- what is equal to a value is the same value
pub equal_same : (a b : Value) → are_equal a b ≡ true → a ≡ b
equal_same a b h = (value_eq-Decides a b).0 ((and_parts (not (is_null a)) (value_eq a b) (sym (are_equal_is a b) ∙ h)).1)

-- in either order
pub equal_turned : (a b : Value) → are_equal a b ≡ true → are_equal b a ≡ true
equal_turned a b h = let e = equal_same a b h in (λ j. are_equal (sym e j) (e j)) ∙ h
