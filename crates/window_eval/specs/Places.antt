-- Items of a list by their places. All of this is this project's own.
use Rattle.std.specs.Prelude.{ℕ, cond, length, Option, Some, None, List, [], ◌∷◌, map}
use Rattle.std.specs.List.{slice_get}
use Rattle.std.specs.Option.{option_and_then}
use Rattle.std.specs.Ordering.{is_lt}
use Rattle.std.specs.declared.cmp.Ordering.{Ordering}
use Rattle.std.specs.declared.cmp.Ordering.TheVariants.{Less, Equal, Greater}

-- how two items compare, where there may be none, which stands last
abbrev pub option_cmp : {X : Type 0} → (X → X → Ordering) → Option X → Option X → Ordering
option_cmp cmp (Some x) (Some y) = cmp x y
option_cmp cmp (Some x) None = Less
option_cmp cmp None (Some y) = Greater
option_cmp cmp None None = Equal

-- how the items at two places compare
abbrev pub place_cmp : {X : Type 0} → (X → X → Ordering) → List X → ℕ → ℕ → Ordering
place_cmp cmp xs a b = option_cmp cmp (slice_get xs a) (slice_get xs b)

abbrev pub somes : {X : Type 0} → List (Option X) → List X
somes [] = []
somes (Some x ∷ os) = x ∷ somes os
somes (None ∷ os) = somes os

-- the items at the places, in their order
abbrev pub items_at : {X : Type 0} → List X → List ℕ → List X
items_at xs places = somes (map (slice_get xs) places)

-- how many there are where the item has a smaller key than x, and else as many as before
abbrev pub smaller_or : {X : Type 0} → (X → X → Ordering) → Option X → X → ℕ → ℕ → ℕ
smaller_or key_cmp (Some first) x all before = cond (is_lt (key_cmp first x)) all before
smaller_or key_cmp None x all before = before

-- how many of the kept places have items of a smaller key than x, where that is known of the
-- first `before`
abbrev pub smaller_kept :
    {X : Type 0} → (X → X → Ordering) → List X → X → List ℕ → ℕ → ℕ
smaller_kept key_cmp xs x kept before =
    let first = option_and_then (slice_get xs) (slice_get kept before) in
    smaller_or key_cmp first x (length kept) before
