-- Preferences that go by their keys: weak orders (Kießling, VLDB 2002) among the items of a list.
use Rattle.std.specs.Prelude.{◌≡◌, Bool, true, List, Contains}
use Rattle.std.specs.declared.cmp.Ordering.{Ordering}
use Rattle.std.specs.declared.cmp.Ordering.TheVariants.{Less}

-- for any two items of the list, a smaller key means better
abbrev pub SmallerKeyIsBetterAmong :
    {X : Type 0} → List X → (X → X → Ordering) → (X → X → Bool) → Type 0
SmallerKeyIsBetterAmong {X} xs key_cmp better =
    (x y : X) → Contains xs x → Contains xs y → key_cmp x y ≡ Less → better x y ≡ true
