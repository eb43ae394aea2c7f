-- How values that are no NULL compare, and numbers by their differences.
use Rattle.std.proofs.Common.{◌≡◌, ℤ, pos, neg_ℤ, ◌+ℤ◌, ◌-ℤ◌, ◌<ℤ◌, Bool, true, false, cond, ◌||◌, ◌&&◌, List, [], ◌∷◌, All, Decides, refl, sym, ap, ◌∙◌, arith}
use Rattle.std.specs.Prelude.{int_lt}
use Rattle.std.specs.Cmp.{int_ranks}
use Rattle.std.specs.Int.RustNames.{unsigned_abs}
use Rattle.std.specs.Ordering.{MatchOrdering, int_cmp, is_eq, is_lt}
use Rattle.std.specs.declared.cmp.Ordering.{Ordering}
use Rattle.std.specs.declared.cmp.Ordering.TheVariants.{Less, Equal, Greater}
use Rattle.std.proofs.lemmas.Bool.{false≢true}
use Rattle.std.proofs.lemmas.Int.{ints}
use Rattle.std.proofs.lemmas.List.Elements.{All-head, All-tail}
use Rattle.prefsql_values.specs.Limits.{IsLiteralValue}
use Rattle.prefsql_values.specs.declared.value.CompareOp.{CompareOp}
use Rattle.prefsql_values.specs.declared.value.CompareOp.TheVariants.{Eq, Lt, Gt}
use Rattle.prefsql_values.specs.declared.value.Value.{Value}
use Rattle.prefsql_values.specs.declared.value.Value.TheVariants.{Num, Str, Null}
use Rattle.prefsql_values.specs.Truth.{both_true, either_true, is_true}
use Rattle.prefsql_values.specs.Value.{admits, comparison, nulls_last, one_of, truth_of, value_eq}
use Rattle.prefsql_values.proofs.ValueEq.{value_eq-equivalence}
use Rattle.prefsql_values.proofs.ValueOrder.{nulls_last_ties}
use Rattle.base_prefs.specs.Values.{is_in}

-- it is no NULL
abbrev pub IsValue : Value → Type 0
IsValue v = v ≡ Null → ⊥

pub literal_is_value : (v : Value) → IsLiteralValue v → IsValue v
literal_is_value (Num n) literal e = cc
literal_is_value (Str text) literal e = cc
literal_is_value Null literal e = absurd literal

known : (op : CompareOp) (a b : Value) → IsValue a → IsValue b → comparison op a b ≡ truth_of (admits op (nulls_last a b))
known op (Num m) (Num n) p q = refl
known op (Num m) (Str t) p q = refl
known op (Num m) Null p q = absurd (q refl)
known op (Str s) (Num n) p q = refl
known op (Str s) (Str t) p q = refl
known op (Str s) Null p q = absurd (q refl)
known op Null b p q = absurd (p refl)

admits_Eq : (o : Ordering) → admits Eq o ≡ is_eq o
admits_Eq Less = refl
admits_Eq Equal = refl
admits_Eq Greater = refl

admits_Lt : (o : Ordering) → admits Lt o ≡ is_lt o
admits_Lt Less = refl
admits_Lt Equal = refl
admits_Lt Greater = refl

pub equal_values : (a b : Value) → IsValue a → IsValue b → comparison Eq a b ≡ truth_of (value_eq a b)
equal_values a b p q = known Eq a b p q ∙ ap truth_of (admits_Eq (nulls_last a b) ∙ sym (nulls_last_ties a b))

pub equal_numbers : (a b : ℤ) → comparison Eq (Num a) (Num b) ≡ truth_of (is_eq (int_cmp a b))
equal_numbers a b = ap truth_of (admits_Eq (int_cmp a b))

pub less_numbers : (a b : ℤ) → comparison Lt (Num a) (Num b) ≡ truth_of (is_lt (int_cmp a b))
less_numbers a b = ap truth_of (admits_Lt (int_cmp a b))

-- ---- greater, as less the other way round and as less of the negated numbers

abbrev Ranked : ℤ → ℤ → Ordering → Type 0
Ranked a b o = MatchOrdering o (a <ℤ b) (a ≡ b) (b <ℤ a)

greater_negated : (a b : ℤ) (o p : Ordering) → Ranked a b o → Ranked (neg_ℤ a) (neg_ℤ b) p → admits Gt o ≡ is_lt p
greater_negated a b Less Less h k = absurd (omega (arith, ints, h, k))
greater_negated a b Less Equal h k = refl
greater_negated a b Less Greater h k = refl
greater_negated a b Equal Less h k = absurd (omega (arith, ints, h, k))
greater_negated a b Equal Equal h k = refl
greater_negated a b Equal Greater h k = refl
greater_negated a b Greater Less h k = refl
greater_negated a b Greater Equal h k = absurd (omega (arith, ints, h, k))
greater_negated a b Greater Greater h k = absurd (omega (arith, ints, h, k))

equal_negated : (a b : ℤ) (o p : Ordering) → Ranked a b o → Ranked (neg_ℤ a) (neg_ℤ b) p → is_eq o ≡ is_eq p
equal_negated a b Less Less h k = refl
equal_negated a b Less Equal h k = absurd (omega (arith, ints, h, k))
equal_negated a b Less Greater h k = refl
equal_negated a b Equal Less h k = absurd (omega (arith, ints, h, k))
equal_negated a b Equal Equal h k = refl
equal_negated a b Equal Greater h k = absurd (omega (arith, ints, h, k))
equal_negated a b Greater Less h k = refl
equal_negated a b Greater Equal h k = absurd (omega (arith, ints, h, k))
equal_negated a b Greater Greater h k = refl

greater_turned : (a b : ℤ) (o p : Ordering) → Ranked a b o → Ranked b a p → admits Gt o ≡ is_lt p
greater_turned a b Less Less h k = absurd (omega (arith, ints, h, k))
greater_turned a b Less Equal h k = refl
greater_turned a b Less Greater h k = refl
greater_turned a b Equal Less h k = absurd (omega (arith, ints, h, k))
greater_turned a b Equal Equal h k = refl
greater_turned a b Equal Greater h k = refl
greater_turned a b Greater Less h k = refl
greater_turned a b Greater Equal h k = absurd (omega (arith, ints, h, k))
greater_turned a b Greater Greater h k = absurd (omega (arith, ints, h, k))

pub greater_numbers : (a b : ℤ) → comparison Gt (Num a) (Num b) ≡ truth_of (is_lt (int_cmp (neg_ℤ a) (neg_ℤ b)))
greater_numbers a b = ap truth_of (greater_negated a b (int_cmp a b) (int_cmp (neg_ℤ a) (neg_ℤ b)) (int_ranks a b) (int_ranks (neg_ℤ a) (neg_ℤ b)))

pub equal_when_negated : (a b : ℤ) → is_eq (int_cmp a b) ≡ is_eq (int_cmp (neg_ℤ a) (neg_ℤ b))
equal_when_negated a b = equal_negated a b (int_cmp a b) (int_cmp (neg_ℤ a) (neg_ℤ b)) (int_ranks a b) (int_ranks (neg_ℤ a) (neg_ℤ b))

lt_cases : (b c : Bool) → is_lt (cond b Less (cond c Greater Equal)) ≡ b
lt_cases true c = refl
lt_cases false true = refl
lt_cases false false = refl

pub less_is : (a b : ℤ) → comparison Lt (Num a) (Num b) ≡ truth_of (int_lt a b)
less_is a b = less_numbers a b ∙ ap truth_of (lt_cases (int_lt a b) (int_lt b a))

pub greater_is : (a b : ℤ) → comparison Gt (Num a) (Num b) ≡ truth_of (int_lt b a)
greater_is a b = ap truth_of (greater_turned a b (int_cmp a b) (int_cmp b a) (int_ranks a b) (int_ranks b a) ∙ lt_cases (int_lt b a) (int_lt a b))

decided_by : (a b : ℤ) (o : Ordering) → Ranked a b o → Decides (is_lt o) (a <ℤ b)
decided_by a b Less m = (λ h. m, λ h. refl)
decided_by a b Equal m = (λ h. absurd (false≢true h), λ h. absurd (omega (arith, ints, h, m)))
decided_by a b Greater m = (λ h. absurd (false≢true h), λ h. absurd (omega (arith, ints, h, m)))

pub int_lt-Decides : (a b : ℤ) → Decides (int_lt a b) (a <ℤ b)
int_lt-Decides a b =
    let d = decided_by a b (int_cmp a b) (int_ranks a b) in
    let e = lt_cases (int_lt a b) (int_lt b a) in
    (λ h. d.0 (e ∙ h), λ p. sym e ∙ d.1 p)

-- ---- truths of tests

pub is_true_of : (b : Bool) → is_true (truth_of b) ≡ b
is_true_of true = refl
is_true_of false = refl

pub either_of : (a b : Bool) → either_true (truth_of a) (truth_of b) ≡ truth_of (a || b)
either_of true b = refl
either_of false true = refl
either_of false false = refl

pub both_of : (a b : Bool) → both_true (truth_of a) (truth_of b) ≡ truth_of (a && b)
both_of true b = refl
both_of false true = refl
both_of false false = refl

-- whether a value is one of some values
pub one_of_values : (v : Value) (values : List Value) → IsValue v → All IsValue values → one_of v values ≡ truth_of (is_in values v)
one_of_values v [] p all = refl
one_of_values v (w ∷ values) p all =
    (λ j. either_true (equal_values v w p (All-head IsValue w values all) j) (one_of_values v values p (All-tail IsValue w values all) j))
    ∙ either_of (value_eq v w) (is_in values v)
    ∙ ap (λ b. truth_of (b || is_in values v)) (value_eq-equivalence.symm v w)

-- ---- distances

abs_negative : (d : ℤ) → d <ℤ pos 0 → pos (unsigned_abs d) ≡ neg_ℤ d
abs_negative (ℤ.pos n) h = absurd (omega (arith, ints, h))
abs_negative (ℤ.negsuc n) h = refl

abs_other : (d : ℤ) → (d <ℤ pos 0 → ⊥) → pos (unsigned_abs d) ≡ d
abs_other (ℤ.pos n) h = refl
abs_other (ℤ.negsuc n) h = absurd (h (omega (arith, ints)))

pub distance_below : (z n : ℤ) → n <ℤ z → z +ℤ (neg_ℤ n +ℤ pos 0) ≡ pos (unsigned_abs (n -ℤ z))
distance_below z n h =
    let sign : (n -ℤ z) <ℤ pos 0 = omega (arith, ints, h) in
    let e : z +ℤ (neg_ℤ n +ℤ pos 0) ≡ neg_ℤ (n -ℤ z) = omega (arith, ints) in
    e ∙ sym (abs_negative (n -ℤ z) sign)

pub distance_above : (z n : ℤ) → (n <ℤ z → ⊥) → n +ℤ (neg_ℤ z +ℤ pos 0) ≡ pos (unsigned_abs (n -ℤ z))
distance_above z n h =
    let e : n +ℤ (neg_ℤ z +ℤ pos 0) ≡ n -ℤ z = omega (arith, ints) in
    e ∙ sym (abs_other (n -ℤ z) (λ k. h (omega (arith, ints, k))))

pub difference_is : (a b : ℤ) → a +ℤ (neg_ℤ b +ℤ pos 0) ≡ a -ℤ b
difference_is a b = omega (arith, ints)
