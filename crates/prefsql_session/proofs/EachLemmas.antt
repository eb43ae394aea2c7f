-- What each item of a list gives, one more at a time.
use Rattle.std.proofs.Common.{◌≡◌, ℕ, zero, suc, map, ◌+◌, ◌<◌, List, [], ◌∷◌, ◌++◌, length, take, drop, get_or, Option, None, Some, refl, ap, sym, ◌∙◌, arith}
use Rattle.std.specs.Option.{option_map, option_and_then}
use Rattle.std.specs.Prelude.{All}
use Rattle.std.proofs.lemmas.List.{take_more, take-append-drop, map-append}
use Rattle.std.proofs.Math.Seq.{drop-cons}
use Rattle.prefsql_session.specs.CommandLine.{each}

split_first : {Y : Type 0} (first : Option Y) (rest : Option (List Y)) (ys : List Y)
    → option_and_then (λ y. option_map (λ more. y ∷ more) rest) first ≡ Some ys
    → (y : Y) × (more : List Y) × (first ≡ Some y) × (rest ≡ Some more) × (y ∷ more ≡ ys)
split_first (Some y) (Some more) ys is = (y, more, refl, refl, cc)
split_first (Some y) None ys is = absurd (cc)
split_first None rest ys is = absurd (cc)

pub each-push : {X Y : Type 0} (give : X → Option Y) (xs : List X) (x : X) (ys : List Y) (y : Y) → each give xs ≡ Some ys → give x ≡ Some y
    → each give (xs ++ x ∷ []) ≡ Some (ys ++ y ∷ [])
each-push give [] x ys y is here = let none : [] ≡ ys = cc in rw (here, ← none) refl
each-push give (a ∷ xs) x ys y is here =
    let parts = split_first (give a) (each give xs) ys is in
    cons_push give (xs ++ x ∷ []) a parts.0 (parts.1 ++ y ∷ []) parts.2 (each-push give xs x parts.1 y parts.3 here) ∙ ap (λ zs. Some (zs ++ y ∷ [])) parts.4 where
      cons_push : {X Y : Type 0} (give : X → Option Y) (xs : List X) (a : X) (z : Y) (zs : List Y) → give a ≡ Some z → each give xs ≡ Some zs → each give (a ∷ xs) ≡ Some (z ∷ zs)
      cons_push give xs a z zs e f = rw (e, f) refl

pub each-fails : {X Y : Type 0} (give : X → Option Y) (xs : List X) (x : X) (more : List X) → give x ≡ None → each give (xs ++ x ∷ more) ≡ None
each-fails give [] x more here = rw here refl
each-fails give (a ∷ xs) x more here = cons_fails (give a) (each give (xs ++ x ∷ more)) (each-fails give xs x more here) where
  cons_fails : {Y : Type 0} (first : Option Y) (rest : Option (List Y)) → rest ≡ None → option_and_then (λ y. option_map (λ zs. y ∷ zs) rest) first ≡ None
  cons_fails (Some y) rest e = rw e refl
  cons_fails None rest e = refl

-- one more item that gives something, of a list that is read through references
pub each-more : {R X Y : Type 0} (give : X → Option Y) (view : R → X) (rs : List R) (i : ℕ) (d : R) (ys : List Y) (y : Y) → i < length rs
    → each give (map view (take i rs)) ≡ Some ys → give (view (get_or rs i d)) ≡ Some y → each give (map view (take (i + 1) rs)) ≡ Some (ys ++ y ∷ [])
each-more give view rs i d ys y lt is here =
    rw (take_more rs i d lt, map-append view (take i rs) (get_or rs i d ∷ [])) (each-push give (map view (take i rs)) (view (get_or rs i d)) ys y is here)

-- an item that gives nothing
pub each-stops : {R X Y : Type 0} (give : X → Option Y) (view : R → X) (rs : List R) (i : ℕ) (d : R) → i < length rs
    → give (view (get_or rs i d)) ≡ None → each give (map view rs) ≡ None
each-stops give view rs i d lt here =
    let parts : rs ≡ take i rs ++ (get_or rs i d ∷ drop (suc i) rs) = sym (take-append-drop i rs) ∙ ap (λ more. take i rs ++ more) (drop-cons rs i d lt) in
    ap (λ all. each give (map view all)) parts
    ∙ (rw (map-append view (take i rs) (get_or rs i d ∷ drop (suc i) rs)) (each-fails give (map view (take i rs)) (view (get_or rs i d)) (map view (drop (suc i) rs)) here))

-- as many as there are items
pub length-each : {X Y : Type 0} (give : X → Option Y) (xs : List X) (ys : List Y) → each give xs ≡ Some ys → length ys ≡ length xs
length-each give [] ys is = let none : [] ≡ ys = cc in rw (← none) refl
length-each give (x ∷ xs) ys is =
    let parts = split_first (give x) (each give xs) ys is in
    let more : length parts.1 ≡ length xs = length-each give xs parts.1 parts.3 in
    sym (ap length parts.4) ∙ ap suc more

pub all-cons : {Y : Type 0} (P : Y → Type 0) (y : Y) (ys : List Y) → P y → All P ys → All P (y ∷ ys)
all-cons P y ys here rest zero d lt = here
all-cons P y ys here rest (suc k) d lt = rest k d (omega arith)

-- what holds of each thing that an item gives
pub each-all : {X Y : Type 0} (give : X → Option Y) (P : Y → Type 0) → ((x : X) (y : Y) → give x ≡ Some y → P y)
    → (xs : List X) (ys : List Y) → each give xs ≡ Some ys → All P ys
each-all give P holds [] ys is = let none : [] ≡ ys = cc in rw (← none) (λ k d lt. absurd (omega arith))
each-all give P holds (x ∷ xs) ys is =
    let parts = split_first (give x) (each give xs) ys is in
    rw (← parts.4) (all-cons P parts.0 parts.1 (holds x parts.0 parts.2) (each-all give P holds xs parts.1 parts.3))
