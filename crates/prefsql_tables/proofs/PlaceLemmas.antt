-- The position of a name.
use Rattle.std.proofs.Common.{◌≡◌, ◌↔◌, ℕ, suc, ◌+◌, ◌<◌, List, [], ◌∷◌, map, length, slice_get, Bool, true, false, not, cond, ◌||◌, Decides, None, Some, IfSome, IsNone, Contains, position, nat_lt, refl, sym, ap, arith}
use Rattle.std.proofs.lemmas.Bool.{false≢true}
use Rattle.std.proofs.lemmas.Cmp.{nat_list_eq_equiv}
use Rattle.std.proofs.lemmas.Map.Views.{Contains-from_any, list_any-from_Contains}
use Rattle.std.proofs.lemmas.Slice.Eq.{bytes_eq-Decides}
use Rattle.std.specs.List.{list_any, position_or_len}
use Rattle.std.specs.Str.{bytes_eq}
use Rattle.prefsql_tables.specs.Names.{IsPlaceAmong}

-- a test finds a name exactly where it is among the names
pub name_found : (names : List (List ℕ)) (name : List ℕ) → Decides (list_any (bytes_eq name) names) (Contains names name)
name_found names name = (Contains-from_any (λ a b. (bytes_eq-Decides a b).0) name names, list_any-from_Contains nat_list_eq_equiv name names)

module _ {X : Type 0} (name_of : X → List ℕ) (name : List ℕ) where
  abbrev is_it : X → Bool
  is_it x = bytes_eq name (name_of x)

  -- a first place within the list is that of an item that passes
  within_first : (b : Bool) (n m : ℕ) (more : Bool) → nat_lt n m ≡ more → nat_lt (cond (not b) (1 + n) 0) (suc m) ≡ (b || more)
  within_first true n m more h = grind arith
  within_first false n m more h = grind (arith, h)

  some_passes : (xs : List X) → nat_lt (position_or_len is_it xs) (length xs) ≡ list_any (bytes_eq name) (map name_of xs)
  some_passes [] = refl
  some_passes (x ∷ xs) = within_first (is_it x) _ _ _ (some_passes xs)

  first_passes : (b : Bool) (x : X) (xs : List X) → is_it x ≡ b → (position_or_len is_it xs < length xs → slice_get (map name_of xs) (position_or_len is_it xs) ≡ Some name)
      → cond (not b) (1 + position_or_len is_it xs) 0 < suc (length xs) → slice_get (map name_of (x ∷ xs)) (cond (not b) (1 + position_or_len is_it xs) 0) ≡ Some name
  first_passes true x xs passes rest small = ap Some (sym ((bytes_eq-Decides name (name_of x)).0 passes))
  first_passes false x xs passes rest small = grind (arith, rest)

  named_there : (xs : List X) → position_or_len is_it xs < length xs → slice_get (map name_of xs) (position_or_len is_it xs) ≡ Some name
  named_there [] small = absurd (omega arith)
  named_there (x ∷ xs) small = first_passes (is_it x) x xs refl (named_there xs) small

  found_by : (b : Bool) (xs : List X) → nat_lt (position_or_len is_it xs) (length xs) ≡ b → IfSome (cond b (Some (position_or_len is_it xs)) None) (λ place. slice_get (map name_of xs) place ≡ Some name)
  found_by true xs e = named_there xs (grind (arith, e))
  found_by false xs e = tt

  none_by : (b : Bool) (place : ℕ) (P : Type 0) → Decides b P → IsNone (cond b (Some place) None) ↔ (P → ⊥)
  none_by true place P d = (λ e. absurd (cc), λ no. absurd (no (d.0 refl)))
  none_by false place P d = (λ e p. false≢true (d.1 p), λ no. refl)

  pub position_is_place : (xs : List X) → IsPlaceAmong (map name_of xs) name (position is_it xs)
  position_is_place xs = record {
    found = found_by _ xs refl;
    none = none_by (nat_lt (position_or_len is_it xs) (length xs)) _ _ (rw (some_passes xs) (name_found (map name_of xs) name));
  }
