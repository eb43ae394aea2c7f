-- No value is better than one of level 1 or distance 0.
use Rattle.std.proofs.Common.{◌≡◌, ℕ, ◌+◌, ◌≤◌, ℤ, pos, ◌<ℤ◌, Bool, true, false, if◌then◌else◌, nat_eq, nat_lt, length, refl, sym, arith, eqb-true}
use Rattle.std.specs.Prelude.{◌≤ℤ◌}
use Rattle.std.specs.Ordering.{int_cmp, int_eq}
use Rattle.std.specs.declared.cmp.Ordering.TheVariants.{Less}
use Rattle.std.proofs.lemmas.Bool.Decides.{Decides-int_eq}
use Rattle.std.proofs.lemmas.Cmp.{int_ranked}
use Rattle.std.proofs.lemmas.Int.{ints}
use Rattle.prefsql_values.specs.declared.value.Value.{Value}
use Rattle.base_prefs.specs.declared.kind.Kind.{Kind}
use Rattle.base_prefs.specs.declared.kind.Kind.TheVariants.{Pos, Neg, PosPos, PosNeg, Layered, Explicit, Around, Between, Lowest, Highest}
use Rattle.base_prefs.specs.Graph.{graph_height, graph_values}
use Rattle.base_prefs.specs.Kind.{IsBetter, key_of, level_of, distance_of, number_of, distance_to}
use Rattle.base_prefs.specs.KindLimits.{IsSound}
use Rattle.base_prefs.specs.RankedLaws.{lawful_of}
use Rattle.base_prefs.specs.Sets.{set_of}
use Rattle.base_prefs.specs.Values.{is_in}
use Rattle.base_prefs.proofs.KindMeaning.{better_of-Decides}
use Rattle.conditions.specs.Meaning.{is_best}

less_of : (a b : ℤ) → int_cmp a b ≡ Less → a <ℤ b
less_of a b is = int_ranked a b Less (sym is)

positive : (b : Bool) (m n : ℕ) → 1 ≤ m → 1 ≤ n → 1 ≤ (if b then m else n)
positive true m n first second = first
positive false m n first second = second

-- no level is below level 1
below_one : (m n : ℕ) → 1 ≤ m → nat_eq n 1 ≡ true → pos m <ℤ pos n → ⊥
below_one m n some best less = let one : n ≡ 1 = eqb-true n 1 best in omega (arith, ints)

-- no distance is below distance 0
below_zero : (a d : ℤ) → pos 0 ≤ℤ a → int_eq d (pos 0) ≡ true → a <ℤ d → ⊥
below_zero a d some best less = let zero : d ≡ pos 0 = (Decides-int_eq d (pos 0)).0 best in omega (arith, ints)

no_below : (low up n : ℤ) → pos 0 ≤ℤ distance_to low up n
no_below low up n = grind (arith, ints)

-- no key is smaller
pub least_key : (kind : Kind) (v w : Value) → is_best (level_of kind v) (distance_of kind v) ≡ true → key_of kind w <ℤ key_of kind v → ⊥
least_key (Pos s) v w = below_one _ _ (positive (is_in s.values w) 1 2 (omega arith) (omega arith))
least_key (Neg s) v w = below_one _ _ (positive (is_in s.values w) 2 1 (omega arith) (omega arith))
least_key (PosPos s t) v w = below_one _ _ (positive (is_in s.values w) 1 _ (omega arith) (positive (is_in t.values w) 2 3 (omega arith) (omega arith)))
least_key (PosNeg s t) v w = below_one _ _ (positive (is_in s.values w) 1 _ (omega arith) (positive (is_in t.values w) 3 2 (omega arith) (omega arith)))
least_key (Layered before after) v w =
    below_one _ _
    (positive (nat_lt (set_of before w) (length before)) (set_of before w + 1) _ (omega arith)
    (positive (nat_lt (set_of after w) (length after)) (length before + set_of after w + 2) (length before + 1) (omega arith) (omega arith)))
least_key (Explicit g) v w = below_one _ _ (positive (is_in (graph_values g.edges) w) (graph_height g.edges w + 1) _ (omega arith) (omega arith))
least_key (Around center) v w = below_zero _ _ (omega (arith, ints))
least_key (Between low up) v w = below_zero _ _ (no_below low up (number_of w))
least_key Lowest v w = λ best. absurd (cc)
least_key Highest v w = λ best. absurd (cc)

pub none_better : (kind : Kind) → IsSound kind → (v w : Value) → is_best (level_of kind v) (distance_of kind v) ≡ true → IsBetter kind w v → ⊥
none_better kind sound v w best better =
    least_key kind v w best
    (less_of (key_of kind w) (key_of kind v) ((lawful_of kind true (λ explicit. refl)).better_key w v ((better_of-Decides kind sound w v).1 better)))
