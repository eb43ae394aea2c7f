-- The ten kinds of base preferences: levels, distances, keys, and which value is better than which
-- (Kießling, Foundations of Preferences in Database Systems, VLDB 2002; LAYERED and the levels are
-- this project's own).
use Rattle.std.specs.Prelude.{◌≡◌, ℕ, ◌+◌, ◌<◌, ◌≤◌, ◌^◌, ℤ, pos, int_lt, ◌-ℤ◌, ◌<ℤ◌, neg_ℤ, Bool}
use Rattle.std.specs.Prelude.{true, false, ◌⊎◌, if◌then◌else◌, Option, Some, None, List, [], length}
use Rattle.std.specs.Prelude.{nat_lt, Contains}
use Rattle.std.specs.Ordering.{is_lt, is_eq, int_cmp, on}
use Rattle.std.specs.declared.cmp.Ordering.{Ordering}
use Rattle.std.specs.Int.RustNames.{unsigned_abs}
use Rattle.prefsql_values.specs.declared.value.Value.{Value}
use Rattle.prefsql_values.specs.declared.value.Value.TheVariants.{Num, Str, Null}
use Rattle.prefsql_values.specs.Value.{value_eq}
use Rattle.base_prefs.specs.declared.edge.Edge.{Edge}
use Rattle.base_prefs.specs.declared.edge.ValueSet.{ValueSet}
use Rattle.base_prefs.specs.declared.kind.Kind.{Kind}
use Rattle.base_prefs.specs.declared.kind.Kind.TheVariants.{Pos, Neg, PosPos, PosNeg, Layered}
use Rattle.base_prefs.specs.declared.kind.Kind.TheVariants.{Explicit, Around, Between, Lowest}
use Rattle.base_prefs.specs.declared.kind.Kind.TheVariants.{Highest}
use Rattle.base_prefs.specs.Graph.{IsAbove, graph_values, graph_level, explicit_better}
use Rattle.base_prefs.specs.Sets.{set_of}
use Rattle.base_prefs.specs.Values.{is_in}

-- 1 in the first set, 2 in the second, else 3
abbrev pub pos_pos_level : ValueSet → ValueSet → Value → ℕ
pos_pos_level first second v = if is_in first.values v then 1
    else (if is_in second.values v then 2 else 3)

-- 1 in the good set, 3 in the bad one, else 2
abbrev pub pos_neg_level : ValueSet → ValueSet → Value → ℕ
pos_neg_level good bad v = if is_in good.values v then 1 else (if is_in bad.values v then 3 else 2)

-- the number of the layer, from 1: OTHERS, where each value of no set belongs, stands between the
-- sets before it and those after it
abbrev pub layer_of : List ValueSet → List ValueSet → Value → ℕ
layer_of before after v =
    let first = set_of before v in
    let last = set_of after v in
    if nat_lt first (length before) then first + 1
    else (if nat_lt last (length after) then length before + last + 2 else length before + 1)

-- the level of a value, for the kinds that have one
abbrev pub level_of : Kind → Value → Option ℕ
level_of (Pos s) v = Some (if is_in s.values v then 1 else 2)
level_of (Neg s) v = Some (if is_in s.values v then 2 else 1)
level_of (PosPos first second) v = Some (pos_pos_level first second v)
level_of (PosNeg good bad) v = Some (pos_neg_level good bad v)
level_of (Layered before after) v = Some (layer_of before after v)
level_of (Explicit g) v = Some (graph_level g.edges v)
level_of (Around center) v = None
level_of (Between low up) v = None
level_of Lowest v = None
level_of Highest v = None

-- the number that a value is
abbrev pub number_of : Value → ℤ
number_of (Num n) = n
number_of (Str s) = pos 0
number_of Null = pos 0

-- how far a number is from the center
abbrev pub distance_from : ℤ → ℤ → ℤ
distance_from center n = pos (unsigned_abs (n -ℤ center))

-- how far a number is from those between low and up
abbrev pub distance_to : ℤ → ℤ → ℤ → ℤ
distance_to low up n = if int_lt n low then low -ℤ n else (if int_lt up n then n -ℤ up else pos 0)

-- the distance of a value, for the kinds that have one
abbrev pub distance_of : Kind → Value → Option ℤ
distance_of (Around center) v = Some (distance_from center (number_of v))
distance_of (Between low up) v = Some (distance_to low up (number_of v))
distance_of kind v = None

-- the kinds with levels, and those with distances
abbrev pub has_level : Kind → Bool
has_level (Around center) = false
has_level (Between low up) = false
has_level Lowest = false
has_level Highest = false
has_level kind = true

abbrev pub has_distance : Kind → Bool
has_distance (Around center) = true
has_distance (Between low up) = true
has_distance kind = false

-- the level, or 0 where there is none
abbrev pub level_or_zero : Option ℕ → ℕ
level_or_zero None = 0
level_or_zero (Some n) = n

-- the key of a value: its level, its distance, the number for LOWEST or the negated number for
-- HIGHEST
abbrev pub key_of : Kind → Value → ℤ
key_of (Around center) v = distance_from center (number_of v)
key_of (Between low up) v = distance_to low up (number_of v)
key_of Lowest v = number_of v
key_of Highest v = neg_ℤ (number_of v)
key_of kind v = pos (level_or_zero (level_of kind v))

-- what makes the value y better than the value x
abbrev pub IsBetter : Kind → Value → Value → Type 0
IsBetter (Pos s) y x = Contains s.values y × ¬ Contains s.values x
IsBetter (Neg s) y x = Contains s.values x × ¬ Contains s.values y
IsBetter (PosPos first second) y x = pos_pos_level first second y < pos_pos_level first second x
IsBetter (PosNeg good bad) y x =
    (Contains bad.values x × ¬ Contains bad.values y)
    ⊎ (¬ Contains bad.values x × ¬ Contains good.values x × Contains good.values y)
IsBetter (Layered before after) y x = layer_of before after y < layer_of before after x
IsBetter (Explicit g) y x = IsAbove g.edges y x
    ⊎ (Contains (graph_values g.edges) y × ¬ Contains (graph_values g.edges) x)
IsBetter (Around center) y x =
    distance_from center (number_of y) <ℤ distance_from center (number_of x)
IsBetter (Between low up) y x = distance_to low up (number_of y) <ℤ distance_to low up (number_of x)
IsBetter Lowest y x = number_of y <ℤ number_of x
IsBetter Highest y x = number_of x <ℤ number_of y

-- what makes two values the same: with TRIVIAL that they are equal, else that their keys are (this
-- project's own)
abbrev pub IsSame : Kind → Bool → Value → Value → Type 0
IsSame kind true x y = x ≡ y
IsSame kind false x y = key_of kind x ≡ key_of kind y

-- The tests that decide these, for all values.

-- whether y is better than x: by the graph, or else by the smaller key
abbrev pub better_of : Kind → Value → Value → Bool
better_of (Explicit g) y x = explicit_better g.edges y x
better_of kind y x = is_lt (int_cmp (key_of kind y) (key_of kind x))

-- whether the kind is EXPLICIT
abbrev pub is_explicit : Kind → Bool
is_explicit (Explicit g) = true
is_explicit kind = false

-- the edges of an EXPLICIT preference
abbrev pub edges_of : Kind → List Edge
edges_of (Explicit g) = g.edges
edges_of kind = []

-- whether the values are the same: with TRIVIAL where they are equal, else where their keys are
abbrev pub same_of : Kind → Bool → Value → Value → Bool
same_of kind trivial x y = if trivial then value_eq x y
    else is_eq (int_cmp (key_of kind x) (key_of kind y))

-- how the keys of two values compare
abbrev pub key_order : Kind → Value → Value → Ordering
key_order kind = on (key_of kind) int_cmp

-- the bound of a number that AROUND, BETWEEN, LOWEST and HIGHEST judge
abbrev pub IsWithinBound : ℤ → Type 0
IsWithinBound n = unsigned_abs n ≤ 10 ^ 36

abbrev pub IsBoundedNumber : Value → Type 0
IsBoundedNumber (Num n) = IsWithinBound n
IsBoundedNumber (Str s) = ⊥
IsBoundedNumber Null = ⊥

-- which values a kind judges
abbrev pub IsJudged : Kind → Value → Type 0
IsJudged (Around center) v = IsBoundedNumber v
IsJudged (Between low up) v = IsBoundedNumber v
IsJudged Lowest v = IsBoundedNumber v
IsJudged Highest v = IsBoundedNumber v
IsJudged kind v = v ≡ Null → ⊥
