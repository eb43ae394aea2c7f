-- Which values a kind judges, from what is known of them alone.
use Rattle.std.proofs.Common.{◌≡◌, ℤ, true, refl, subst, sym, arith}
use Rattle.prefsql_values.specs.Limits.{IsShort}
use Rattle.prefsql_values.specs.declared.value.Value.{Value}
use Rattle.prefsql_values.specs.declared.value.Value.TheVariants.{Num, Null}
use Rattle.base_prefs.specs.declared.kind.Kind.{Kind}
use Rattle.base_prefs.specs.declared.kind.Kind.TheVariants.{Around, Between, Lowest, Highest}
use Rattle.base_prefs.specs.Kind.{IsJudged, IsBoundedNumber}
use Rattle.base_prefs.specs.Rankable.{ranks_numbers}

-- a number of at most eighteen digits is within the bound
pub short_bounded : (v : Value) → ((n : ℤ) × ((v ≡ Num n) × IsShort n)) → IsBoundedNumber v
short_bounded v short = subst IsBoundedNumber (sym short.1.0) (omega (arith, short.1.1))

-- a value that is not NULL, and is a number within the bound where the kind ranks numbers, is judged
pub value_judged : (kind : Kind) (v : Value) → (v ≡ Null → ⊥) → (ranks_numbers kind ≡ true → IsBoundedNumber v) → IsJudged kind v
value_judged (Around center) v no_null number = number refl
value_judged (Between low up) v no_null number = number refl
value_judged Lowest v no_null number = number refl
value_judged Highest v no_null number = number refl
value_judged kind v no_null number = no_null
