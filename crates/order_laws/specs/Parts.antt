-- Lists in parts, and lists that hold the best items of another (best matches only: Kießling, VLDB
-- 2002).
use Rattle.std.specs.Prelude.{◌≡◌, Bool, List, filter, All, Contains}
use Rattle.std.specs.List.{flat_map}
use Rattle.order_laws.specs.Best.{best, is_unbettered}

-- the parts, one after the other
abbrev pub end_to_end : {X : Type 0} → List (List X) → List X
end_to_end = flat_map (λ part. part)

-- the best items of each part, one after the other
abbrev pub bests_of_parts : {X : Type 0} → (X → X → Bool) → List (List X) → List X
bests_of_parts better = flat_map (best better)

-- of the items of the list it holds some, and of the best ones all: each as often, in their order
pub record HoldsBest {X : Type 0} (better : X → X → Bool) (xs held : List X) : Type 0 where
  pub some : All (Contains xs) held
  pub all_best : filter (is_unbettered better xs) held ≡ best better xs
