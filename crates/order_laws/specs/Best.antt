-- The best items of a list (best matches only: Kießling, VLDB 2002), and the premises of the laws
-- about them, which are this project's own.
use Rattle.std.specs.Prelude.{◌≡◌, Bool, true, not, ◌||◌, List, filter, Contains}
use Rattle.std.specs.List.{list_any}

-- whether none of the rivals is better than the item
abbrev pub is_unbettered : {X : Type 0} → (X → X → Bool) → List X → X → Bool
is_unbettered better rivals x = not (list_any (λ y. better y x) rivals)

-- the items of the list that no item of the list is better than, in their order
abbrev pub best : {X : Type 0} → (X → X → Bool) → List X → List X
best better xs = filter (is_unbettered better xs) xs

-- what is better by the one is better by the other
abbrev pub IsNarrowerAmong : {X : Type 0} → List X → (X → X → Bool) → (X → X → Bool) → Type 0
IsNarrowerAmong {X} xs narrow wide =
    (x y : X) → Contains xs x → Contains xs y → narrow x y ≡ true → wide x y ≡ true

-- what is better than a kept item is kept
abbrev pub IsKeptUpwardsAmong : {X : Type 0} → List X → (X → X → Bool) → (X → Bool) → Type 0
IsKeptUpwardsAmong {X} xs better keeps =
    (x y : X) → Contains xs x → Contains xs y → better y x ≡ true → keeps x ≡ true → keeps y ≡ true

-- each best item is kept
abbrev pub KeepsBestAmong : {X : Type 0} → List X → (X → X → Bool) → (X → Bool) → Type 0
KeepsBestAmong {X} xs better keeps =
    (x : X) → Contains xs x → is_unbettered better xs x ≡ true → keeps x ≡ true

-- whether one item is better, the other is, or they are the same
abbrev pub ranks : {X : Type 0} → (X → X → Bool) → (X → X → Bool) → X → X → Bool
ranks better same x y = better x y || better y x || same x y

-- the first order ranks what the second tells apart
abbrev pub RanksWhatIsBetterAmong :
    {X : Type 0} → List X → (X → X → Bool) → (X → X → Bool) → (X → X → Bool) → Type 0
RanksWhatIsBetterAmong {X} xs better same second =
    (x y : X) → Contains xs x → Contains xs y → second x y ≡ true → ranks better same x y ≡ true
