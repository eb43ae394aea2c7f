-- The cells of a column.
use Rattle.std.proofs.Common.{◌≡◌, ℕ, List, [], ◌∷◌, ◌++◌, map, take, sym, ap, ◌∙◌}
use Rattle.std.proofs.lemmas.List.{map-append, take-map}

-- an item put behind the first ones, and what it stands for
pub map-put : {X Y : Type 0} (f : X → Y) (n : ℕ) (xs ys : List X) (x : X) (y : Y) → f x ≡ y → ys ≡ take n xs ++ x ∷ [] → map f ys ≡ take n (map f xs) ++ y ∷ []
map-put f n xs ys x y stands is = ap (map f) is ∙ map-append f (take n xs) (x ∷ []) ∙ ap (λ zs. zs ++ f x ∷ []) (sym (take-map f n xs)) ∙ ap (λ z. take n (map f xs) ++ z ∷ []) stands

pub map-cut : {X Y : Type 0} (f : X → Y) (n : ℕ) (xs ys : List X) → ys ≡ take n xs → map f ys ≡ take n (map f xs)
map-cut f n xs ys is = ap (map f) is ∙ sym (take-map f n xs)
