-- What the tests of sets say, and what is kept of sets.
use Rattle.std.proofs.Common.{◌≡◌, ℕ, ◌+◌, ◌<◌, ◌≤◌, Bool, true, false, ◌||◌, List, [], ◌∷◌, ◌++◌, length, map, All, Any, Decides, Option, Some, None, IfSome, IfNone, is_some, nat_le, refl, sym, ap, ◌∙◌, inl, inr, subst, arith, length-append}
use Rattle.std.proofs.lemmas.Bool.{or_left, or_right}
use Rattle.std.proofs.lemmas.Bool.Decides.{Decides-or, nat_tests}
use Rattle.std.proofs.lemmas.List.Elements.{All-cons, All-head, All-tail}
use Rattle.std.proofs.lemmas.List.Folds.{list_any-append}
use Rattle.std.proofs.Math.Bool.{or-false}
use Rattle.std.proofs.lemmas.List.{length-map}
use Rattle.std.specs.List.{list_any}
use Rattle.order_laws.proofs.Members.{Among, among_from_Contains, Contains_from_among, any_from, any_found}
use Rattle.base_prefs.specs.declared.edge.ValueSet.{ValueSet}
use Rattle.base_prefs.specs.declared.kind.Kind.{Kind}
use Rattle.base_prefs.specs.declared.kind.Kind.TheVariants.{Layered}
use Rattle.base_prefs.specs.KindLimits.{IsSound, AreKeptLayers}
use Rattle.base_prefs.specs.Sets.{once, written, Share, HasOverlap, IsGivenSet, IsKeptSet, AreKeptSets}
use Rattle.base_prefs.specs.Table.{share, shares_any, overlaps}
use Rattle.base_prefs.specs.Values.{is_in}
use Rattle.prefsql_values.specs.Limits.{IsLiteralValue}
use Rattle.base_prefs.proofs.Firsts.{among_from_firsts, firsts_shorter, firsts_some, All-firsts, AllPairs-firsts}
use Rattle.base_prefs.proofs.KindMeaning.{is_in-Decides, along}

any-Decides : {X : Type 0} (p : X → Bool) (P : X → Type 0) → ((x : X) → Decides (p x) (P x)) → (xs : List X) → Decides (list_any p xs) (Any P xs)
any-Decides p P decides xs = (
  λ h. let found = any_found p xs h in
      let there = Contains_from_among xs found.0 found.1 in
      (there.0, found.0, there.1, there.2, (decides found.0).0 found.2),
  λ a. any_from p xs a.1 (among_from_Contains xs a.1 (a.0, a.2, a.3)) ((decides a.1).1 a.4),
)

pub share-Decides : (s t : ValueSet) → Decides (share s t) (Share s t)
share-Decides s t = (
  λ h. let found = any_found (is_in t.values) s.values h in
      (found.0, Contains_from_among s.values found.0 found.1, (is_in-Decides t.values found.0).0 found.2),
  λ both. any_from (is_in t.values) s.values both.0 (among_from_Contains s.values both.0 both.1) ((is_in-Decides t.values both.0).1 both.2),
)

shares_any-Decides : (s : ValueSet) (sets : List ValueSet) → Decides (shares_any s sets) (Any (Share s) sets)
shares_any-Decides s sets = any-Decides (share s) (Share s) (share-Decides s) sets

overlaps_alone : (sets : List ValueSet) → Decides (overlaps sets []) (HasOverlap sets)
overlaps_alone [] = (λ h. absurd (cc), λ h. absurd h)
overlaps_alone (s ∷ sets) =
    along (ap (λ b. b || overlaps sets []) (or-false (shares_any s sets)))
    (Decides-or _ _ (shares_any-Decides s sets) (overlaps_alone sets))

or_turned : (a b c d : Bool) → (((a || b) || c) || d) ≡ ((a || b) || (c || d))
or_turned true b c d = refl
or_turned false true c d = refl
or_turned false false c d = refl

pub overlaps-Decides : (before after : List ValueSet) → Decides (overlaps before after || overlaps after []) (HasOverlap (before ++ after))
overlaps-Decides [] after = overlaps_alone after
overlaps-Decides (s ∷ sets) after =
    along (or_turned (shares_any s sets) (shares_any s after) (overlaps sets after) (overlaps after [])
    ∙ ap (λ b. b || (overlaps sets after || overlaps after [])) (sym (list_any-append (share s) sets after)))
    (Decides-or _ _ (shares_any-Decides s (sets ++ after)) (overlaps-Decides sets after))

or_thrice : (b : Bool) → b ≡ (((b || false) || false) || false)
or_thrice true = refl
or_thrice false = refl

-- of two sets one shares a value with a later one where it does with the other
pub share_two : (s t : ValueSet) → Decides (share s t) (HasOverlap (s ∷ t ∷ []))
share_two s t = along {P = HasOverlap (s ∷ t ∷ [])} (or_thrice (share s t)) (overlaps_alone (s ∷ t ∷ []))

Share-once : (s t : ValueSet) → Share (once s) (once t) → Share s t
Share-once s t both =
    let here = among_from_firsts s.values both.0 (among_from_Contains (once s).values both.0 both.1) in
    let there = among_from_firsts t.values both.0 (among_from_Contains (once t).values both.0 both.2) in
    (both.0, Contains_from_among s.values both.0 here, Contains_from_among t.values both.0 there)

any_once : (s : ValueSet) (sets : List ValueSet) (t : ValueSet) → Among (map once sets) t → Share (once s) t → shares_any s sets ≡ true
any_once s [] t a both = absurd a
any_once s (u ∷ sets) t (inl e) both =
    any_from (share s) (u ∷ sets) u (inl refl) ((share-Decides s u).1 (Share-once s u (subst (Share (once s)) (sym e) both)))
any_once s (u ∷ sets) t (inr a) both = or_right (share s u) (shares_any s sets) (any_once s sets t a both)

pub overlap_once : (sets : List ValueSet) → HasOverlap (map once sets) → HasOverlap sets
overlap_once [] h = h
overlap_once (s ∷ sets) (inl a) = inl ((shares_any-Decides s sets).0 (any_once s sets a.1 (among_from_Contains (map once sets) a.1 (a.0, a.2, a.3)) a.4))
overlap_once (s ∷ sets) (inr h) = inr (overlap_once sets h)

pub written_once : (sets : List ValueSet) → length (written (map once sets)) ≤ length (written sets)
written_once [] = omega arith
written_once (s ∷ sets) =
    omega (arith, length-append (once s).values (written (map once sets)), length-append s.values (written sets), firsts_shorter s.values, written_once sets)

kept_once : (s : ValueSet) → IsGivenSet s → IsKeptSet (once s)
kept_once s given = record {
  given = record { some = firsts_some s.values given.some; literal = All-firsts IsLiteralValue s.values given.literal };
  different = AllPairs-firsts s.values;
}

all_kept_once : (sets : List ValueSet) → All IsGivenSet sets → All IsKeptSet (map once sets)
all_kept_once [] given = λ k d h. absurd (omega arith)
all_kept_once (s ∷ sets) given =
    All-cons IsKeptSet (once s) (map once sets) (kept_once s (All-head IsGivenSet s sets given)) (all_kept_once sets (All-tail IsGivenSet s sets given))

-- what is kept of sets that are few enough and apart
pub sets_kept : (sets : List ValueSet) → All IsGivenSet sets → length (written sets) ≤ 256 → (HasOverlap sets → ⊥) → AreKeptSets (map once sets)
sets_kept sets given few apart = record {
  each = all_kept_once sets given;
  few = omega (arith, few, written_once sets);
  apart = λ h. apart (overlap_once sets h);
}

-- sets that are not empty are no more than their values
pub sets_few : (sets : List ValueSet) → All IsKeptSet sets → length sets ≤ length (written sets)
sets_few [] kept = omega arith
sets_few (s ∷ sets) kept =
    omega (arith, length-append s.values (written sets), (All-head IsKeptSet s sets kept).given.some, sets_few sets (All-tail IsKeptSet s sets kept))

-- so many layers are there at most
pub layers_few : (kind : Kind) → IsSound kind → (before after : List ValueSet) → kind ≡ Layered before after → length before + length after ≤ 256
layers_few kind sound before after e =
    let kept : AreKeptLayers before after = subst IsSound e sound in
    omega (arith, length-append before after, sets_few (before ++ after) kept.sets.each, kept.sets.few)

no_sets : All IsGivenSet []
no_sets = λ k d h. absurd (omega arith)

alone_apart : (s : ValueSet) → HasOverlap (s ∷ []) → ⊥
alone_apart s (inl a) = absurd (omega (arith, a.2))
alone_apart s (inr h) = h

pub one_kept : (s : ValueSet) → IsGivenSet s → length s.values ≤ 256 → AreKeptSets (once s ∷ [])
one_kept s given few =
    sets_kept (s ∷ []) (All-cons IsGivenSet s [] given no_sets) (omega (arith, length-append s.values [], few)) (alone_apart s)

pub two_kept : (s t : ValueSet) → IsGivenSet s → IsGivenSet t → length (written (s ∷ t ∷ [])) ≤ 256 → (HasOverlap (s ∷ t ∷ []) → ⊥) → AreKeptSets (once s ∷ once t ∷ [])
two_kept s t first second few apart =
    sets_kept (s ∷ t ∷ []) (All-cons IsGivenSet s (t ∷ []) first (All-cons IsGivenSet t [] second no_sets)) few apart

pub written-append : (before after : List ValueSet) → length (written (before ++ after)) ≡ length (written before) + length (written after)
written-append [] after = omega arith
written-append (s ∷ sets) after =
    omega (arith, length-append s.values (written (sets ++ after)), length-append s.values (written sets), written-append sets after)

map_once-append : (before after : List ValueSet) → map once (before ++ after) ≡ map once before ++ map once after
map_once-append [] after = refl
map_once-append (s ∷ sets) after = ap (λ kept. once s ∷ kept) (map_once-append sets after)

pub layers_kept : (before after : List ValueSet) → 0 < length (before ++ after) → All IsGivenSet (before ++ after) → length (written (before ++ after)) ≤ 256
    → (HasOverlap (before ++ after) → ⊥) → AreKeptLayers (map once before) (map once after)
layers_kept before after some given few apart = record {
  some = omega (arith, length-append before after, length-append (map once before) (map once after), length-map before once, length-map after once, some);
  sets = subst AreKeptSets (map_once-append before after) (sets_kept (before ++ after) given few apart);
}

-- what there is room for, after all sets
pub all_fit_by : (room : ℕ) (left : Option ℕ) (before after : List ValueSet) → room + length (written before) ≡ 256
    → IfSome left (λ n. n + length (written after) ≡ room) → IfNone left (room < length (written after)) → is_some left ≡ nat_le (length (written (before ++ after))) 256
all_fit_by room (Some n) before after e some none = let sum = written-append before after in grind (arith, nat_tests)
all_fit_by room None before after e some none = let sum = written-append before after in grind (arith, nat_tests)

pub none_fit : (before after : List ValueSet) → 256 < length (written before) → false ≡ nat_le (length (written (before ++ after))) 256
none_fit before after many = let sum = written-append before after in grind (arith, nat_tests)

pub early_overlap : (before after : List ValueSet) → overlaps before after ≡ true → HasOverlap (before ++ after)
early_overlap before after h = (overlaps-Decides before after).0 (or_left (overlaps before after) (overlaps after []) h)

pub late_overlap : (before after : List ValueSet) → overlaps before after ≡ false → Decides (overlaps after []) (HasOverlap (before ++ after))
late_overlap before after h = along {P = HasOverlap (before ++ after)} (sym (ap (λ b. b || overlaps after []) h)) (overlaps-Decides before after)
