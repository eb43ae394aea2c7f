-- What a preference is: a strict partial order of its items (Kießling, VLDB 2002) with an
-- equivalence that it respects (substitutable values), and with keys that are smaller where an item
-- is better, which is this project's own.
use Rattle.std.specs.Prelude.{◌≡◌, Bool, true, false}
use Rattle.std.specs.Cmp.{IsTotalOrder, IsEquivalence}
use Rattle.std.specs.Ordering.{on}
use Rattle.std.specs.declared.cmp.Ordering.{Ordering}
use Rattle.std.specs.declared.cmp.Ordering.TheVariants.{Less, Equal}

-- the laws of a preference, of all items of a type
pub record IsLawful {X : Type 0} (better same : X → X → Bool) (key_cmp : X → X → Ordering)
    : Type 0 where
  pub irreflexive : (x : X) → better x x ≡ false
  pub transitive : (x y z : X) → better x y ≡ true → better y z ≡ true → better x z ≡ true
  pub equivalence : IsEquivalence same
  -- better respects the same on both sides, and excludes it
  pub same_better : (x y z : X) → same x y ≡ true → better y z ≡ true → better x z ≡ true
  pub better_same : (x y z : X) → better x y ≡ true → same y z ≡ true → better x z ≡ true
  pub apart : (x y : X) → better x y ≡ true → same x y ≡ false
  -- a better item has a smaller key, the same items have equal keys, and keys are a total preorder
  pub better_key : (x y : X) → better x y ≡ true → key_cmp x y ≡ Less
  pub same_key : (x y : X) → same x y ≡ true → key_cmp x y ≡ Equal
  pub keys : IsTotalOrder key_cmp

-- an item that is valid
abbrev pub Valid : {X : Type 0} → (X → Type 0) → Type 0
Valid {X} valid = (x : X) × valid x

-- the item itself
abbrev pub item : {X : Type 0} {valid : X → Type 0} → Valid valid → X
item v = v.0

-- the laws hold of the items that are valid
pub record IsLawfulWhere {X : Type 0} (valid : X → Type 0) (better same : X → X → Bool)
    (key_cmp : X → X → Ordering) : Type 0 where
  pub among_valid : IsLawful
      (on (item {X = X} {valid = valid}) better)
      (on (item {X = X} {valid = valid}) same)
      (on (item {X = X} {valid = valid}) key_cmp)
