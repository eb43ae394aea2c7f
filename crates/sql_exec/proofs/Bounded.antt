-- Values within the static bounds of their columns, and sums of them.
use Rattle.std.proofs.Common.{◌≡◌, ℕ, ℤ, zero, suc, pos, negsuc, ◌+◌, ◌-◌, ◌<◌, ◌≤◌, ◌^◌, max, Bool, true, false, Option, Some, None, List, [], ◌∷◌, ◌++◌, cond, refl, sym, ap, subst, arith}
use Rattle.std.specs.Prelude.{unsigned_abs, neg_ℤ, ◌+ℤ◌}
use Rattle.std.specs.Int.{w128}
use Rattle.std.proofs.lemmas.Int.{ints, fits_signed_from_abs, int_wrap_fits}
use Rattle.prefsql_values.specs.declared.value.Domain.{Domain}
use Rattle.prefsql_values.specs.declared.value.Domain.TheVariants.{Integer}
use Rattle.prefsql_values.specs.declared.value.Value.{Value}
use Rattle.prefsql_values.specs.declared.value.Value.TheVariants.{Num, Str, Null}
use Rattle.prefsql_tables.specs.declared.schema.Column.{Column}
use Rattle.prefsql_tables.specs.Valid.{IsCell}
use Rattle.sql_tree.specs.Meaning.{added, first_some, or_else, signed}
use Rattle.sql_tree.specs.Shown.{Shape, domain_shape, greatest_bound}
use Rattle.sql_exec.specs.Wrapping.{wrapped, wrapped_sign}

-- a number's size is at most the bound
abbrev pub IsWithin : ℕ → Value → Type 0
IsWithin bound (Num n) = unsigned_abs n ≤ bound
IsWithin bound (Str text) = Unit {0}
IsWithin bound Null = Unit {0}

abbrev pub IsSomeWithin : ℕ → Option Value → Type 0
IsSomeWithin bound None = Unit {0}
IsSomeWithin bound (Some v) = IsWithin bound v

pub within_more : (a b : ℕ) (v : Value) → a ≤ b → IsWithin a v → IsWithin b v
within_more a b (Num n) more within = omega (arith, more, within)
within_more a b (Str text) more within = tt
within_more a b Null more within = tt

pub some_within_more : (a b : ℕ) (v : Option Value) → a ≤ b → IsSomeWithin a v → IsSomeWithin b v
some_within_more a b None more within = tt
some_within_more a b (Some v) more within = within_more a b v more within

-- ---- nothing within the bounds is wrapped

small_fits : (n : ℕ) → n ≤ 10 ^ 36 → n < 2 ^ 127
small_fits n small = omega (arith, small)

pub wrapped_within : (bound : ℕ) (v : Value) → bound ≤ 10 ^ 36 → IsWithin bound v → wrapped v ≡ v
wrapped_within bound (Num n) small within =
    ap Num (int_wrap_fits w128 n (fits_signed_from_abs w128 n (small_fits (unsigned_abs n) (omega (arith, small, within)))))
wrapped_within bound (Str text) small within = refl
wrapped_within bound Null small within = refl

same_size : (n : ℤ) → unsigned_abs (neg_ℤ n) ≡ unsigned_abs n
same_size (pos zero) = refl
same_size (pos (suc n)) = refl
same_size (negsuc n) = refl

pub signed_within : (minus : Bool) (bound : ℕ) (v : Value) → IsWithin bound v → IsWithin bound (signed minus v)
signed_within true bound (Num n) within = subst (λ size. size ≤ bound) (sym (same_size n)) within
signed_within true bound (Str text) within = tt
signed_within true bound Null within = tt
signed_within false bound v within = within

pub sign_exact : (minus : Bool) (bound : ℕ) (v : Value) → bound ≤ 10 ^ 36 → IsWithin bound v → wrapped_sign minus v ≡ signed minus v
sign_exact true bound v small within = wrapped_within bound (signed true v) small (signed_within true bound v within)
sign_exact false bound v small within = refl

size_of_sum : (m n : ℤ) → unsigned_abs (m +ℤ n) ≤ unsigned_abs m + unsigned_abs n
size_of_sum m n = omega (arith, ints)

pub added_within : (a b : ℕ) (v w : Value) → IsWithin a v → IsWithin b w → IsWithin (a + b) (added v w)
added_within a b (Num m) (Num n) left right = let sum = size_of_sum m n in omega (arith, left, right, sum)
added_within a b (Num m) (Str text) left right = tt
added_within a b (Num m) Null left right = tt
added_within a b (Str text) w left right = tt
added_within a b Null w left right = tt

-- ---- choices

pub first_within : (a b : ℕ) (v : Option Value) (more : List (Option Value)) → IsSomeWithin a v → IsSomeWithin b (first_some more) → IsSomeWithin (max a b) (first_some (v ∷ more))
first_within a b None more first rest = some_within_more b (max a b) (first_some more) (let e : b ≤ max a b = omega arith in e) rest
first_within a b (Some v) more first rest = within_more a (max a b) v (let e : a ≤ max a b = omega arith in e) first

pub either_within : (bound : ℕ) (v : Option Value) (w : Value) → IsSomeWithin bound v → IsWithin bound w → IsWithin bound (or_else v w)
either_within bound None w first last = last
either_within bound (Some v) w first last = first

pub where_true : (b : Bool) (bound : ℕ) (v : Value) → IsWithin bound v → IsSomeWithin bound (cond b (Some v) None)
where_true true bound v within = within
where_true false bound v within = tt

none_less : (n : ℕ) → 0 ≤ n
none_less n = omega arith

max_more : (a b c : ℕ) → b ≤ c → max a b ≤ max a c
max_more a b c more = omega (arith, more)

max_last : (a b c : ℕ) → b ≤ c → b ≤ max a c
max_last a b c more = omega (arith, more)

pub greatest_front : (shapes more : List Shape) → greatest_bound shapes ≤ greatest_bound (shapes ++ more)
greatest_front [] more = none_less (greatest_bound more)
greatest_front (shape ∷ shapes) more = max_more shape.bound (greatest_bound shapes) (greatest_bound (shapes ++ more)) (greatest_front shapes more)

pub greatest_last : (shapes : List Shape) (shape : Shape) → shape.bound ≤ greatest_bound (shapes ++ shape ∷ [])
greatest_last [] shape = let e : shape.bound ≤ max shape.bound 0 = omega arith in e
greatest_last (first ∷ shapes) shape = max_last first.bound shape.bound (greatest_bound (shapes ++ shape ∷ [])) (greatest_last shapes shape)

-- ---- cells of tables

short_within : (domain : Domain) (n : ℕ) → domain ≡ Integer → n < 10 ^ 18 → n ≤ (domain_shape domain).bound
short_within domain n is short = subst (λ (d : Domain). n ≤ (domain_shape d).bound) (sym is) (let e : n ≤ 10 ^ 18 - 1 = omega (arith, short) in e)

pub cell_within : (column : Column) (v : Value) → IsCell column v → IsWithin (domain_shape column.domain).bound v
cell_within column (Num n) cell = short_within column.domain (unsigned_abs n) cell.0 cell.1
cell_within column (Str text) cell = tt
cell_within column Null cell = tt
