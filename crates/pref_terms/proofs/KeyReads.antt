-- How a base preference ranks values, from its levels, its distances and its view.
use Rattle.std.proofs.Common.{◌≡◌, ◌≢◌, ℕ, ℤ, pos, false, if◌then◌else◌, Option, Some, None, refl, ap}
use Rattle.std.specs.Prelude.{neg_ℤ}
use Rattle.prefsql_values.specs.declared.value.Value.{Value}
use Rattle.base_prefs.specs.declared.kind.Kind.{Kind}
use Rattle.base_prefs.specs.declared.kind.Kind.TheVariants.{Pos, Neg, PosPos, PosNeg, Layered, Explicit, Around, Between, Lowest, Highest}
use Rattle.base_prefs.specs.declared.view.BaseView.{BaseView}
use Rattle.base_prefs.specs.declared.view.BaseView.TheVariants as view
use Rattle.base_prefs.specs.Kind.{key_of, level_of, level_or_zero, distance_of, number_of}
use Rattle.base_prefs.specs.View.{IsViewOf}
use Rattle.pref_terms.specs.Ranks.{is_highest}

pub not_highest : (shown : BaseView) (kind : Kind) → IsViewOf shown kind → shown ≢ view.Highest → is_highest kind ≡ false
not_highest view.Highest Highest is other = absurd (other refl)
not_highest (view.Pos a) Highest is other = absurd is
not_highest (view.Neg a) Highest is other = absurd is
not_highest (view.PosPos a b) Highest is other = absurd is
not_highest (view.PosNeg a b) Highest is other = absurd is
not_highest (view.Layered a b) Highest is other = absurd is
not_highest (view.Explicit a) Highest is other = absurd is
not_highest (view.Around a) Highest is other = absurd is
not_highest (view.Between a b) Highest is other = absurd is
not_highest view.Lowest Highest is other = absurd is
not_highest shown (Pos s) is other = refl
not_highest shown (Neg s) is other = refl
not_highest shown (PosPos s t) is other = refl
not_highest shown (PosNeg s t) is other = refl
not_highest shown (Layered s t) is other = refl
not_highest shown (Explicit g) is other = refl
not_highest shown (Around c) is other = refl
not_highest shown (Between l u) is other = refl
not_highest shown Lowest is other = refl

abbrev the_number : Option ℤ → ℤ → ℤ
the_number (Some n) d = n
the_number None d = d

-- a level is the key
pub key_of-level : (kind : Kind) (v : Value) (n : ℕ) → level_of kind v ≡ Some n → key_of kind v ≡ pos n
key_of-level (Around center) v n is = absurd (cc)
key_of-level (Between low up) v n is = absurd (cc)
key_of-level Lowest v n is = absurd (cc)
key_of-level Highest v n is = absurd (cc)
key_of-level kind v n is = ap (λ o. pos (level_or_zero o)) is

-- a distance is the key
pub key_of-distance : (kind : Kind) (v : Value) (d : ℤ) → distance_of kind v ≡ Some d → key_of kind v ≡ d
key_of-distance (Around center) v d is = ap (λ o. the_number o d) is
key_of-distance (Between low up) v d is = ap (λ o. the_number o d) is
key_of-distance kind v d is = absurd (cc)

-- without a level and a distance it is the number, or its negation
pub key_of-number : (kind : Kind) (v : Value) → level_of kind v ≡ None → distance_of kind v ≡ None → key_of kind v ≡ (if is_highest kind then neg_ℤ (number_of v) else number_of v)
key_of-number Lowest v no_level no_distance = refl
key_of-number Highest v no_level no_distance = refl
key_of-number (Around center) v no_level no_distance = absurd (cc)
key_of-number (Between low up) v no_level no_distance = absurd (cc)
key_of-number kind v no_level no_distance = absurd (cc)

pub ruleset keys = (key_of-level, key_of-distance, key_of-number)
