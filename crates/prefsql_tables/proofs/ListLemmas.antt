-- Lists through functions that agree at each of their items.
use Rattle.std.proofs.Common.{◌≡◌, Bool, true, false, cond, ◌&&◌, ◌||◌, List, [], ◌∷◌, ◌++◌, map, filter, All, refl, ap, ◌∙◌}
use Rattle.std.specs.List.{flat_map, list_all, list_any}
use Rattle.std.proofs.lemmas.List.Elements.{All-head, All-tail}

module _ {X Y : Type 0} where
  pub map_on : (f g : X → Y) (xs : List X) → All (λ x. f x ≡ g x) xs → map f xs ≡ map g xs
  map_on f g [] all = refl
  map_on f g (x ∷ xs) all = λ j. All-head (λ y. f y ≡ g y) x xs all j ∷ map_on f g xs (All-tail (λ y. f y ≡ g y) x xs all) j

  pub flat_map_on : (f g : X → List Y) (xs : List X) → All (λ x. f x ≡ g x) xs → flat_map f xs ≡ flat_map g xs
  flat_map_on f g [] all = refl
  flat_map_on f g (x ∷ xs) all = λ j. All-head (λ y. f y ≡ g y) x xs all j ++ flat_map_on f g xs (All-tail (λ y. f y ≡ g y) x xs all) j

  pub filter-map : (K : Y → Bool) (f : X → Y) (xs : List X) → filter K (map f xs) ≡ map f (filter (λ x. K (f x)) xs)
  filter-map K f [] = refl
  filter-map K f (x ∷ xs) = ap (λ more. cond (K (f x)) (f x ∷ more) more) (filter-map K f xs) ∙ go (K (f x)) (filter (λ y. K (f y)) xs)
    where
      go : (b : Bool) (more : List X) → cond b (f x ∷ map f more) (map f more) ≡ map f (cond b (x ∷ more) more)
      go true more = refl
      go false more = refl

  pub list_any-map : (K : Y → Bool) (f : X → Y) (xs : List X) → list_any K (map f xs) ≡ list_any (λ x. K (f x)) xs
  list_any-map K f [] = refl
  list_any-map K f (x ∷ xs) = ap (λ b. K (f x) || b) (list_any-map K f xs)

module _ {X : Type 0} where
  pub filter_on : (K L : X → Bool) (xs : List X) → All (λ x. K x ≡ L x) xs → filter K xs ≡ filter L xs
  filter_on K L [] all = refl
  filter_on K L (x ∷ xs) all = λ j. cond (All-head (λ y. K y ≡ L y) x xs all j) (x ∷ filter_on K L xs (All-tail (λ y. K y ≡ L y) x xs all) j) (filter_on K L xs (All-tail (λ y. K y ≡ L y) x xs all) j)

  pub any_on : (K L : X → Bool) (xs : List X) → All (λ x. K x ≡ L x) xs → list_any K xs ≡ list_any L xs
  any_on K L [] all = refl
  any_on K L (x ∷ xs) all = λ j. All-head (λ y. K y ≡ L y) x xs all j || any_on K L xs (All-tail (λ y. K y ≡ L y) x xs all) j

  pub all_on : (K L : X → Bool) (xs : List X) → All (λ x. K x ≡ L x) xs → list_all K xs ≡ list_all L xs
  all_on K L [] all = refl
  all_on K L (x ∷ xs) all = λ j. All-head (λ y. K y ≡ L y) x xs all j && all_on K L xs (All-tail (λ y. K y ≡ L y) x xs all) j
