-- Products of lists.
use Rattle.std.proofs.Common.{◌≡◌, ℕ, zero, suc, ◌+◌, ◌<◌, ◌≤◌, List, [], ◌∷◌, ◌++◌, length, get_or, map, arith, refl, sym, ap, ◌∙◌, append_assoc, append-nil, length-append}
use Rattle.std.specs.List.{flat_map, range_with_len}
use Rattle.std.proofs.Math.Seq.{get_or-append_seam}
use Rattle.std.proofs.lemmas.Grind.{flat_map-append}
use Rattle.std.proofs.lemmas.List.{map-append}
use Rattle.std.proofs.lemmas.List.Concat.{flat_map_single}
use Rattle.std.proofs.lemmas.List.Folds.{flat_map-map}
use Rattle.std.proofs.lemmas.Simd.{map-map}
use Rattle.prefsql_tables.specs.Product.{product}
use Rattle.prefsql_tables.specs.Combos.{combos_of, picked}

-- what a function gives of each element, read by its place behind a front
flat_map_behind : {X Y : Type 0} (f : X → List Y) (d : X) (xs front : List X) → flat_map f xs ≡ flat_map (λ i. f (get_or (front ++ xs) i d)) (range_with_len (length front) (length xs))
flat_map_behind f d [] front = refl
flat_map_behind f d (x ∷ xs) front =
    let here : get_or (front ++ x ∷ xs) (length front) d ≡ x = get_or-append_seam front x xs d in
    let joins : (front ++ x ∷ []) ++ xs ≡ front ++ x ∷ xs = append_assoc front (x ∷ []) xs in
    let longer : length (front ++ x ∷ []) ≡ length front + 1 = omega (arith, length-append front (x ∷ [])) in
    ap (λ y. f y ++ flat_map f xs) (sym here)
    ∙ ap (λ more. f (get_or (front ++ x ∷ xs) (length front) d) ++ more)
    (flat_map_behind f d xs (front ++ x ∷ [])
    ∙ ap (λ whole. flat_map (λ i. f (get_or whole i d)) (range_with_len (length (front ++ x ∷ [])) (length xs))) joins
    ∙ ap (λ n. flat_map (λ i. f (get_or (front ++ x ∷ xs) i d)) (range_with_len n (length xs))) longer)

pub flat_map_by_place : {X Y : Type 0} (f : X → List Y) (d : X) (xs : List X) → flat_map f xs ≡ flat_map (λ i. f (get_or xs i d)) (range_with_len 0 (length xs))
flat_map_by_place f d xs = flat_map_behind f d xs []

pub map-flat_map : {X Y Z : Type 0} (g : Y → Z) (f : X → List Y) (xs : List X) → map g (flat_map f xs) ≡ flat_map (λ x. map g (f x)) xs
map-flat_map g f [] = refl
map-flat_map g f (x ∷ xs) = map-append g (f x) (flat_map f xs) ∙ ap (λ more. map g (f x) ++ more) (map-flat_map g f xs)

pub flat_map-flat_map : {X Y Z : Type 0} (f : Y → List Z) (g : X → List Y) (xs : List X) → flat_map f (flat_map g xs) ≡ flat_map (λ x. flat_map f (g x)) xs
flat_map-flat_map f g [] = refl
flat_map-flat_map f g (x ∷ xs) = flat_map-append f (g x) (flat_map g xs) ∙ ap (λ more. flat_map f (g x) ++ more) (flat_map-flat_map f g xs)

-- one list more at the end
pub product-more : {X : Type 0} (xss : List (List X)) (ys : List X) → product (xss ++ ys ∷ []) ≡ flat_map (λ front. map (λ y. front ++ y ∷ []) ys) (product xss)
product-more [] ys = flat_map_single (λ y. y ∷ []) ys ∙ sym (append-nil (map (λ y. y ∷ []) ys))
product-more {X} (xs ∷ xss) ys =
    let behind : List X → List (List X) = λ front. map (λ y. front ++ y ∷ []) ys in
    let fronts : X → List (List X) = λ x. map (λ rest. x ∷ rest) (product xss) in
    (λ j. flat_map (λ x. map (λ rest. x ∷ rest) (product-more xss ys j)) xs)
    ∙ (λ j. flat_map (λ x. (map-flat_map (λ rest. x ∷ rest) behind (product xss)
    ∙ (λ i. flat_map (λ front. map-map (λ rest. x ∷ rest) (λ y. front ++ y ∷ []) ys i) (product xss))
    ∙ sym (flat_map-map behind (λ rest. x ∷ rest) (product xss))) j) xs)
    ∙ sym (flat_map-flat_map behind fronts xs)

-- the product of one list
pub product_of_one : {X : Type 0} (xs : List X) → product (xs ∷ []) ≡ map (λ x. x ∷ []) xs
product_of_one [] = refl
product_of_one (x ∷ xs) = ap (λ more. (x ∷ []) ∷ more) (product_of_one xs)

-- a product is what the combinations of its places name
pub product_by_places : {X : Type 0} (d : X) (xss : List (List X)) → product xss ≡ map (picked d xss) (combos_of (map length xss))
product_by_places d [] = refl
product_by_places d (xs ∷ xss) =
    let rest = combos_of (map length xss) in
    let at = λ (n : ℕ). get_or xs n d in
    flat_map_by_place (λ x. map (λ more. x ∷ more) (product xss)) d xs
    ∙ (λ j. flat_map (λ n. map (λ more. at n ∷ more) (product_by_places d xss j)) (range_with_len 0 (length xs)))
    ∙ (λ j. flat_map (λ n. (map-map (λ more. at n ∷ more) (picked d xss) rest ∙ sym (map-map (picked d (xs ∷ xss)) (λ more. n ∷ more) rest)) j) (range_with_len 0 (length xs)))
    ∙ sym (map-flat_map (picked d (xs ∷ xss)) (λ n. map (λ more. n ∷ more) rest) (range_with_len 0 (length xs)))

-- what a combination names of one list
pub get_or-picked : {X : Type 0} (d : X) (xss : List (List X)) (ns : List ℕ) (i : ℕ) → i < length xss → i < length ns → get_or (picked d xss ns) i d ≡ get_or (get_or xss i []) (get_or ns i 0) d
get_or-picked d [] ns i h k = absurd (omega arith)
get_or-picked d (xs ∷ xss) [] i h k = absurd (omega arith)
get_or-picked d (xs ∷ xss) (n ∷ ns) zero h k = refl
get_or-picked d (xs ∷ xss) (n ∷ ns) (suc i) h k = get_or-picked d xss ns i (omega arith) (omega arith)

pub picked_past_lists : {X : Type 0} (d : X) (xss : List (List X)) (ns : List ℕ) (i : ℕ) → length xss ≤ i → get_or (picked d xss ns) i d ≡ d
picked_past_lists d [] ns i h = refl
picked_past_lists d (xs ∷ xss) [] i h = refl
picked_past_lists d (xs ∷ xss) (n ∷ ns) zero h = absurd (omega arith)
picked_past_lists d (xs ∷ xss) (n ∷ ns) (suc i) h = picked_past_lists d xss ns i (omega arith)

pub picked_past_numbers : {X : Type 0} (d : X) (xss : List (List X)) (ns : List ℕ) (i : ℕ) → length ns ≤ i → get_or (picked d xss ns) i d ≡ d
picked_past_numbers d [] ns i h = refl
picked_past_numbers d (xs ∷ xss) [] i h = refl
picked_past_numbers d (xs ∷ xss) (n ∷ ns) zero h = absurd (omega arith)
picked_past_numbers d (xs ∷ xss) (n ∷ ns) (suc i) h = picked_past_numbers d xss ns i (omega arith)
