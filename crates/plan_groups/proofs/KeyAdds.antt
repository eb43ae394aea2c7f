-- The keys of a term, or of the term turned round, part by part.
use Rattle.std.proofs.Common.{◌≡◌, ◌^◌, ◌<ℤ◌, ℤ, pos, neg_ℤ, Bool, true, false, not, List, [], ◌∷◌, ◌++◌, length, map, refl, ap, ◌∙◌, inl, inr, arith}
use Rattle.std.specs.Prelude.{int_lt}
use Rattle.std.proofs.lemmas.Bool.{cases_Bool}
use Rattle.std.proofs.lemmas.Int.{ints}
use Rattle.std.proofs.lemmas.List.{length-map, map-append}
use Rattle.prefsql_values.specs.declared.value.Value.{Value}
use Rattle.prefsql_values.specs.declared.value.Value.TheVariants.{Num, Str, Null}
use Rattle.prefsql_tables.specs.Sight.{Sight}
use Rattle.base_prefs.specs.declared.kind.Kind.{Kind}
use Rattle.base_prefs.specs.declared.kind.Kind.TheVariants.{Pos, Neg, PosPos, PosNeg, Layered, Explicit, Around, Between, Lowest, Highest}
use Rattle.base_prefs.specs.Kind.{IsJudged, distance_to, key_of}
use Rattle.pref_terms.specs.Terms.{keys_of}
use Rattle.pref_terms.specs.declared.term.Leaf.{Leaf}
use Rattle.pref_terms.specs.declared.term.Term.{Term, Pareto, Prior, Dual}
use Rattle.pref_terms.specs.declared.term.Term as term
use Rattle.plan_groups.specs.Outcomes.{turned_key}
use Rattle.plan_groups.specs.Ranks.{turned_keys}
use Rattle.plan_groups.proofs.JumpLaws.{keys_of-Leaf, keys_of-Pareto, keys_of-Prior, keys_of-Dual}

neg-neg : (k : ℤ) → neg_ℤ (neg_ℤ k) ≡ k
neg-neg k = omega (arith, ints)

negs-negs : (ks : List ℤ) → map neg_ℤ (map neg_ℤ ks) ≡ ks
negs-negs [] = refl
negs-negs (k ∷ ks) = λ j. neg-neg k j ∷ negs-negs ks j

pub turned_keys-one : (turned : Bool) (k : ℤ) → turned_keys turned (k ∷ []) ≡ turned_key turned k ∷ []
turned_keys-one true k = refl
turned_keys-one false k = refl

pub turned_keys-append : (turned : Bool) (ks ls : List ℤ) → turned_keys turned (ks ++ ls) ≡ turned_keys turned ks ++ turned_keys turned ls
turned_keys-append true ks ls = map-append neg_ℤ ks ls
turned_keys-append false ks ls = refl

pub length-turned_keys : (turned : Bool) (ks : List ℤ) → length (turned_keys turned ks) ≡ length ks
length-turned_keys true ks = length-map ks neg_ℤ
length-turned_keys false ks = refl

-- keys that are turned twice
pub turned_keys-not : (turned : Bool) (ks : List ℤ) → turned_keys turned (map neg_ℤ ks) ≡ turned_keys (not turned) ks
turned_keys-not true ks = negs-negs ks
turned_keys-not false ks = refl

-- the keys of a term, variant by variant
pub turned-Leaf : (turned : Bool) (t : Term) (leaf : Leaf) → t ≡ term.Leaf leaf → (x : Sight)
    → turned_keys turned (keys_of t x) ≡ turned_key turned (key_of leaf.base (x leaf.place)) ∷ []
turned-Leaf turned t leaf is x = ap (turned_keys turned) (keys_of-Leaf t leaf is x) ∙ turned_keys-one turned (key_of leaf.base (x leaf.place))

pub turned-Pareto : (turned : Bool) (t p q : Term) → t ≡ Pareto p q → (x : Sight)
    → turned_keys turned (keys_of t x) ≡ turned_keys turned (keys_of p x) ++ turned_keys turned (keys_of q x)
turned-Pareto turned t p q is x = ap (turned_keys turned) (keys_of-Pareto t p q is x) ∙ turned_keys-append turned (keys_of p x) (keys_of q x)

pub turned-Prior : (turned : Bool) (t p q : Term) → t ≡ Prior p q → (x : Sight)
    → turned_keys turned (keys_of t x) ≡ turned_keys turned (keys_of p x) ++ turned_keys turned (keys_of q x)
turned-Prior turned t p q is x = ap (turned_keys turned) (keys_of-Prior t p q is x) ∙ turned_keys-append turned (keys_of p x) (keys_of q x)

pub turned-Dual : (turned : Bool) (t p : Term) → t ≡ Dual p → (x : Sight)
    → turned_keys turned (keys_of t x) ≡ turned_keys (not turned) (keys_of p x)
turned-Dual turned t p is x = ap (turned_keys turned) (keys_of-Dual t p is x) ∙ turned_keys-not turned (keys_of p x)

pub ruleset key_adds = (turned-Leaf, turned-Pareto, turned-Prior, turned-Dual)

-- a distance from two bounds is not negative
between_low : (low up n : ℤ) → neg_ℤ (pos (2 ^ 127)) <ℤ distance_to low up n
between_low low up n = elim (cases_Bool (int_lt n low)) [
  | inl h ↦ rw h (grind (arith, h))
  | inr h ↦ rw h (elim (cases_Bool (int_lt up n)) [ inl k ↦ rw k (grind (arith, k)) | inr k ↦ rw k (omega (arith, ints)) ])
]

-- the key of a judged value can be turned in 128 bits
pub key_low : (kind : Kind) (v : Value) → IsJudged kind v → neg_ℤ (pos (2 ^ 127)) <ℤ key_of kind v
key_low (Around c) (Num n) judged = omega (arith, ints)
key_low (Around c) (Str t) judged = absurd judged
key_low (Around c) Null judged = absurd judged
key_low (Between l u) (Num n) judged = between_low l u n
key_low (Between l u) (Str t) judged = absurd judged
key_low (Between l u) Null judged = absurd judged
key_low Lowest (Num n) judged = omega (arith, ints, judged)
key_low Lowest (Str t) judged = absurd judged
key_low Lowest Null judged = absurd judged
key_low Highest (Num n) judged = omega (arith, ints, judged)
key_low Highest (Str t) judged = absurd judged
key_low Highest Null judged = absurd judged
key_low (Pos s) v judged = omega (arith, ints)
key_low (Neg s) v judged = omega (arith, ints)
key_low (PosPos s t) v judged = omega (arith, ints)
key_low (PosNeg s t) v judged = omega (arith, ints)
key_low (Layered s t) v judged = omega (arith, ints)
key_low (Explicit g) v judged = omega (arith, ints)
