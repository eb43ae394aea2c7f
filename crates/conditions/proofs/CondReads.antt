-- The truth of a condition, variant by variant, and that its parts and scalars fit where it does.
use Rattle.std.proofs.Common.{◌≡◌, ℕ, Bool, List, [], ◌∷◌, ◌++◌, map, length, All, rules, ap, ◌∙◌, subst}
use Rattle.std.specs.List.{flat_map}
use Rattle.std.proofs.Math.Seq.{take-append_seam, drop-append_seam}
use Rattle.std.proofs.lemmas.List.Elements.{All-nil, All-cons, All-head, All-tail, All-take, All-drop}
use Rattle.prefsql_values.specs.declared.value.CompareOp.{CompareOp}
use Rattle.prefsql_values.specs.declared.value.Value.{Value}
use Rattle.prefsql_values.specs.Truth.{all_true, any_true, negated, negated_if}
use Rattle.prefsql_values.specs.Value.{between, comparison, is_null, one_of, truth_of}
use Rattle.prefsql_tables.specs.Sight.{Sight}
use Rattle.prefsql_tables.specs.Table.{Tables}
use Rattle.base_prefs.specs.Kind.{level_of, distance_of}
use Rattle.conditions.specs.declared.condition.Quality.{Quality}
use Rattle.conditions.specs.declared.condition.Scalar.{Scalar}
use Rattle.conditions.specs.declared.condition.Scalar.TheVariants as scalar
use Rattle.conditions.specs.declared.condition.Cond.{Cond, And, Or, Not, Compare, Between, OneOf, IsNull, Top}
use Rattle.conditions.specs.declared.condition.Cond.TheFolds.{the_lemmas}
use Rattle.conditions.specs.Fits.{CondFits, QualityFits, ScalarFits}
use Rattle.conditions.specs.Meaning.{is_best, scalar_value, scalars_of, truth}

module _ (sight : Sight) where
  abbrev value : Scalar → Value
  value = scalar_value sight

  of_And : (parts : List Cond) → truth sight (And parts) ≡ all_true (map (truth sight) parts)
  unfolding truth
  of_And parts = search (rules, the_lemmas)

  of_Or : (parts : List Cond) → truth sight (Or parts) ≡ any_true (map (truth sight) parts)
  unfolding truth
  of_Or parts = search (rules, the_lemmas)

  of_Not : (part : Cond) → truth sight (Not part) ≡ negated (truth sight part)
  unfolding truth
  of_Not part = search (rules, the_lemmas)

  of_Compare : (op : CompareOp) (a b : Scalar) → truth sight (Compare op a b) ≡ comparison op (value a) (value b)
  unfolding truth
  of_Compare op a b = search (rules, the_lemmas)

  of_Between : (negate : Bool) (a low high : Scalar) → truth sight (Between negate a low high) ≡ negated_if negate (between (value a) (value low) (value high))
  unfolding truth
  of_Between negate a low high = search (rules, the_lemmas)

  of_OneOf : (negate : Bool) (a : Scalar) (list : List Scalar) → truth sight (OneOf negate a list) ≡ negated_if negate (one_of (value a) (map value list))
  unfolding truth
  of_OneOf negate a list = search (rules, the_lemmas)

  of_IsNull : (negate : Bool) (a : Scalar) → truth sight (IsNull negate a) ≡ negated_if negate (truth_of (is_null (value a)))
  unfolding truth
  of_IsNull negate a = search (rules, the_lemmas)

  of_Top : (quality : Quality) → truth sight (Top quality) ≡ truth_of (is_best (level_of quality.base (sight quality.place)) (distance_of quality.base (sight quality.place)))
  unfolding truth
  of_Top quality = search (rules, the_lemmas)

pub truth-And : (sight : Sight) (cond : Cond) (parts : List Cond) → cond ≡ And parts → truth sight cond ≡ all_true (map (truth sight) parts)
truth-And sight cond parts is = rw is (of_And sight parts)

pub truth-Or : (sight : Sight) (cond : Cond) (parts : List Cond) → cond ≡ Or parts → truth sight cond ≡ any_true (map (truth sight) parts)
truth-Or sight cond parts is = rw is (of_Or sight parts)

pub truth-Not : (sight : Sight) (cond part : Cond) → cond ≡ Not part → truth sight cond ≡ negated (truth sight part)
truth-Not sight cond part is = rw is (of_Not sight part)

pub truth-Compare : (sight : Sight) (cond : Cond) (op : CompareOp) (a b : Scalar) → cond ≡ Compare op a b → truth sight cond ≡ comparison op (scalar_value sight a) (scalar_value sight b)
truth-Compare sight cond op a b is = rw is (of_Compare sight op a b)

pub truth-Between : (sight : Sight) (cond : Cond) (negate : Bool) (a low high : Scalar) → cond ≡ Between negate a low high → truth sight cond ≡ negated_if negate (between (scalar_value sight a) (scalar_value sight low) (scalar_value sight high))
truth-Between sight cond negate a low high is = rw is (of_Between sight negate a low high)

pub truth-OneOf : (sight : Sight) (cond : Cond) (negate : Bool) (a : Scalar) (list : List Scalar) → cond ≡ OneOf negate a list → truth sight cond ≡ negated_if negate (one_of (scalar_value sight a) (map (scalar_value sight) list))
truth-OneOf sight cond negate a list is = rw is (of_OneOf sight negate a list)

pub truth-IsNull : (sight : Sight) (cond : Cond) (negate : Bool) (a : Scalar) → cond ≡ IsNull negate a → truth sight cond ≡ negated_if negate (truth_of (is_null (scalar_value sight a)))
truth-IsNull sight cond negate a is = rw is (of_IsNull sight negate a)

pub truth-Top : (sight : Sight) (cond : Cond) (quality : Quality) → cond ≡ Top quality → truth sight cond ≡ truth_of (is_best (level_of quality.base (sight quality.place)) (distance_of quality.base (sight quality.place)))
truth-Top sight cond quality is = rw is (of_Top sight quality)

pub ruleset truth_reads = (truth-And, truth-Or, truth-Not, truth-Compare, truth-Between, truth-OneOf, truth-IsNull, truth-Top)

-- ---- which scalars there are

pub scalars_of-And : (parts : List Cond) → scalars_of (And parts) ≡ flat_map (λ scalars. scalars) (map scalars_of parts)
unfolding scalars_of
scalars_of-And parts = search (rules, the_lemmas)

pub scalars_of-Or : (parts : List Cond) → scalars_of (Or parts) ≡ flat_map (λ scalars. scalars) (map scalars_of parts)
unfolding scalars_of
scalars_of-Or parts = search (rules, the_lemmas)

pub scalars_of-Not : (part : Cond) → scalars_of (Not part) ≡ scalars_of part
unfolding scalars_of
scalars_of-Not part = search (rules, the_lemmas)

pub scalars_of-Compare : (op : CompareOp) (a b : Scalar) → scalars_of (Compare op a b) ≡ a ∷ b ∷ []
unfolding scalars_of
scalars_of-Compare op a b = search (rules, the_lemmas)

pub scalars_of-Between : (negate : Bool) (a low high : Scalar) → scalars_of (Between negate a low high) ≡ a ∷ low ∷ high ∷ []
unfolding scalars_of
scalars_of-Between negate a low high = search (rules, the_lemmas)

pub scalars_of-OneOf : (negate : Bool) (a : Scalar) (list : List Scalar) → scalars_of (OneOf negate a list) ≡ a ∷ list
unfolding scalars_of
scalars_of-OneOf negate a list = search (rules, the_lemmas)

pub scalars_of-IsNull : (negate : Bool) (a : Scalar) → scalars_of (IsNull negate a) ≡ a ∷ []
unfolding scalars_of
scalars_of-IsNull negate a = search (rules, the_lemmas)

pub scalars_of-Top : (quality : Quality) → scalars_of (Top quality) ≡ scalar.Quality quality ∷ []
unfolding scalars_of
scalars_of-Top quality = search (rules, the_lemmas)

-- ---- where a condition fits, its parts and its scalars do

module _ (tables : Tables) (from : List ℕ) (first : ℕ) (rows : List ℕ) where
  abbrev Fits : Scalar → Type 0
  Fits = ScalarFits tables from first rows

  abbrev AllFit : Cond → Type 0
  AllFit = CondFits tables from first rows

  first_fit : (xs ys : List Scalar) → All Fits (xs ++ ys) → All Fits xs
  first_fit xs ys all = subst (All Fits) (take-append_seam xs ys) (All-take Fits (length xs) (xs ++ ys) all)

  second_fit : (xs ys : List Scalar) → All Fits (xs ++ ys) → All Fits ys
  second_fit xs ys all = subst (All Fits) (drop-append_seam xs ys) (All-drop Fits (length xs) (xs ++ ys) all)

  parts_fit : (parts : List Cond) → All Fits (flat_map (λ scalars. scalars) (map scalars_of parts)) → All AllFit parts
  parts_fit [] all = All-nil AllFit
  parts_fit (part ∷ parts) all =
      All-cons AllFit part parts
      (record { each = first_fit (scalars_of part) _ all })
      (parts_fit parts (second_fit (scalars_of part) _ all))

  scalars_fit : (cond : Cond) (scalars : List Scalar) → scalars_of cond ≡ scalars → AllFit cond → All Fits scalars
  scalars_fit cond scalars is fits = subst (All Fits) is fits.each

  pub fits-And : (cond : Cond) (parts : List Cond) → cond ≡ And parts → AllFit cond → All AllFit parts
  fits-And cond parts is fits = parts_fit parts (scalars_fit cond _ (ap scalars_of is ∙ scalars_of-And parts) fits)

  pub fits-Or : (cond : Cond) (parts : List Cond) → cond ≡ Or parts → AllFit cond → All AllFit parts
  fits-Or cond parts is fits = parts_fit parts (scalars_fit cond _ (ap scalars_of is ∙ scalars_of-Or parts) fits)

  pub fits-Not : (cond part : Cond) → cond ≡ Not part → AllFit cond → AllFit part
  fits-Not cond part is fits = record { each = scalars_fit cond _ (ap scalars_of is ∙ scalars_of-Not part) fits }

  of_Compare_fit : (cond : Cond) (op : CompareOp) (a b : Scalar) → cond ≡ Compare op a b → AllFit cond → All Fits (a ∷ b ∷ [])
  of_Compare_fit cond op a b is fits = scalars_fit cond _ (ap scalars_of is ∙ scalars_of-Compare op a b) fits

  pub fits-Compare_left : (cond : Cond) (op : CompareOp) (a b : Scalar) → cond ≡ Compare op a b → AllFit cond → ScalarFits tables from first rows a
  fits-Compare_left cond op a b is fits = All-head Fits a (b ∷ []) (of_Compare_fit cond op a b is fits)

  pub fits-Compare_right : (cond : Cond) (op : CompareOp) (a b : Scalar) → cond ≡ Compare op a b → AllFit cond → ScalarFits tables from first rows b
  fits-Compare_right cond op a b is fits = All-head Fits b [] (All-tail Fits a (b ∷ []) (of_Compare_fit cond op a b is fits))

  of_Between_fit : (cond : Cond) (negate : Bool) (a low high : Scalar) → cond ≡ Between negate a low high → AllFit cond → All Fits (a ∷ low ∷ high ∷ [])
  of_Between_fit cond negate a low high is fits = scalars_fit cond _ (ap scalars_of is ∙ scalars_of-Between negate a low high) fits

  pub fits-Between_scalar : (cond : Cond) (negate : Bool) (a low high : Scalar) → cond ≡ Between negate a low high → AllFit cond → ScalarFits tables from first rows a
  fits-Between_scalar cond negate a low high is fits = All-head Fits a (low ∷ high ∷ []) (of_Between_fit cond negate a low high is fits)

  pub fits-Between_low : (cond : Cond) (negate : Bool) (a low high : Scalar) → cond ≡ Between negate a low high → AllFit cond → ScalarFits tables from first rows low
  fits-Between_low cond negate a low high is fits = All-head Fits low (high ∷ []) (All-tail Fits a (low ∷ high ∷ []) (of_Between_fit cond negate a low high is fits))

  pub fits-Between_high : (cond : Cond) (negate : Bool) (a low high : Scalar) → cond ≡ Between negate a low high → AllFit cond → ScalarFits tables from first rows high
  fits-Between_high cond negate a low high is fits = All-head Fits high [] (All-tail Fits low (high ∷ []) (All-tail Fits a (low ∷ high ∷ []) (of_Between_fit cond negate a low high is fits)))

  of_OneOf_fit : (cond : Cond) (negate : Bool) (a : Scalar) (list : List Scalar) → cond ≡ OneOf negate a list → AllFit cond → All Fits (a ∷ list)
  of_OneOf_fit cond negate a list is fits = scalars_fit cond _ (ap scalars_of is ∙ scalars_of-OneOf negate a list) fits

  pub fits-OneOf_scalar : (cond : Cond) (negate : Bool) (a : Scalar) (list : List Scalar) → cond ≡ OneOf negate a list → AllFit cond → ScalarFits tables from first rows a
  fits-OneOf_scalar cond negate a list is fits = All-head Fits a list (of_OneOf_fit cond negate a list is fits)

  pub fits-OneOf_list : (cond : Cond) (negate : Bool) (a : Scalar) (list : List Scalar) → cond ≡ OneOf negate a list → AllFit cond → All (ScalarFits tables from first rows) list
  fits-OneOf_list cond negate a list is fits = All-tail Fits a list (of_OneOf_fit cond negate a list is fits)

  pub fits-IsNull : (cond : Cond) (negate : Bool) (a : Scalar) → cond ≡ IsNull negate a → AllFit cond → ScalarFits tables from first rows a
  fits-IsNull cond negate a is fits = All-head Fits a [] (scalars_fit cond _ (ap scalars_of is ∙ scalars_of-IsNull negate a) fits)

  pub fits-Top : (cond : Cond) (quality : Quality) → cond ≡ Top quality → AllFit cond → QualityFits tables from first rows quality
  fits-Top cond quality is fits = All-head Fits (scalar.Quality quality) [] (scalars_fit cond _ (ap scalars_of is ∙ scalars_of-Top quality) fits)

pub ruleset fits_reads = (fits-And, fits-Or, fits-Not, fits-Compare_left, fits-Compare_right, fits-Between_scalar, fits-Between_low, fits-Between_high, fits-OneOf_scalar, fits-OneOf_list, fits-IsNull, fits-Top)
