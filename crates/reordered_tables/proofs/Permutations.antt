-- What lists of the same items in another order have in common: what is made of each item, what is kept by a test, choices of one
-- item of each, and their arrangement.
use Rattle.std.proofs.Common.{◌≡◌, ℕ, zero, suc, ◌<◌, ◌⊎◌, ⊎_elim, inl, inr, Bool, true, false, not, cond, List, [], ◌∷◌, ◌++◌, length, get_or, set, map, filter, refl, sym, ap, ◌∙◌, subst, arith, append_assoc}
use Rattle.std.specs.List.{flat_map, swap}
use Rattle.std.specs.List.Sorted.{IsPermutation}
use Rattle.std.proofs.lemmas.List.Edits.{swap_is}
use Rattle.std.proofs.lemmas.List.Sorted.{IsPermutation-refl, IsPermutation-sym, IsPermutation-trans, IsPermutation-map, IsPermutation-append, IsPermutation-append_left, IsPermutation-append_right, IsPermutation-append_comm, IsPermutation-keeps, Contains-permutation, list_any-IsPermutation}
use Rattle.prefsql_tables.specs.Product.{product}
use Rattle.prefsql_tables.specs.Arranged.{IsArranged}
use Rattle.prefsql_tables.specs.Arrangement.{arranged}
use Rattle.prefsql_tables.specs.declared.place.SortKey.{SortKey}
use Rattle.prefsql_tables.specs.declared.table.AnswerRow.{AnswerRow}
use Rattle.prefsql_tables.proofs.ArrangementLemmas.{arranged_is, arranged_only}
use Rattle.order_laws.specs.Best.{best, is_unbettered}

-- ---- two items change places

-- where two items of a list stand, and the list in which they have changed places
record HasSwapped {X : Type 0} (l changed : List X) : Type 0 where
  before : List X
  x : X
  between : List X
  y : X
  behind : List X
  is : l ≡ before ++ x ∷ (between ++ y ∷ behind)
  changed_is : changed ≡ before ++ y ∷ (between ++ x ∷ behind)

record StandsAt {X : Type 0} (l : List X) (j : ℕ) (d v : X) : Type 0 where
  before : List X
  behind : List X
  is : l ≡ before ++ get_or l j d ∷ behind
  changed_is : set l j v ≡ before ++ v ∷ behind

module _ {X : Type 0} (d : X) where
  stands : (l : List X) (j : ℕ) (v : X) → j < length l → StandsAt l j d v
  stands [] j v small = absurd (omega (arith, small))
  stands (a ∷ l) zero v small = record { before = []; behind = l; is = refl; changed_is = refl }
  stands (a ∷ l) (suc j) v small =
      let rest = stands l j v (omega (arith, small)) in
      record { before = a ∷ rest.before; behind = rest.behind; is = ap (λ more. a ∷ more) rest.is; changed_is = ap (λ more. a ∷ more) rest.changed_is }

  -- the first of the two stands before the second
  forward : (l : List X) (i j : ℕ) → i < j → j < length l → HasSwapped l (set (set l i (get_or l j d)) j (get_or l i d))
  forward [] i j first small = absurd (omega (arith, small))
  forward (a ∷ l) i zero first small = absurd (omega (arith, first))
  forward (a ∷ l) zero (suc j) first small =
      let at = stands l j a (omega (arith, small)) in
      record { before = []; x = a; between = at.before; y = get_or l j d; behind = at.behind; is = ap (λ more. a ∷ more) at.is; changed_is = ap (λ more. get_or l j d ∷ more) at.changed_is }
  forward (a ∷ l) (suc i) (suc j) first small =
      let rest = forward l i j (omega (arith, first)) (omega (arith, small)) in
      record { before = a ∷ rest.before; x = rest.x; between = rest.between; y = rest.y; behind = rest.behind; is = ap (λ more. a ∷ more) rest.is; changed_is = ap (λ more. a ∷ more) rest.changed_is }

  -- and behind it
  backward : (l : List X) (i j : ℕ) → j < i → i < length l → HasSwapped l (set (set l i (get_or l j d)) j (get_or l i d))
  backward [] i j first small = absurd (omega (arith, small))
  backward (a ∷ l) zero j first small = absurd (omega (arith, first))
  backward (a ∷ l) (suc i) zero first small =
      let at = stands l i a (omega (arith, small)) in
      record { before = []; x = a; between = at.before; y = get_or l i d; behind = at.behind; is = ap (λ more. a ∷ more) at.is; changed_is = ap (λ more. get_or l i d ∷ more) at.changed_is }
  backward (a ∷ l) (suc i) (suc j) first small =
      let rest = backward l i j (omega (arith, first)) (omega (arith, small)) in
      record { before = a ∷ rest.before; x = rest.x; between = rest.between; y = rest.y; behind = rest.behind; is = ap (λ more. a ∷ more) rest.is; changed_is = ap (λ more. a ∷ more) rest.changed_is }

  -- or it is the same
  unmoved : (l : List X) (i : ℕ) → set (set l i (get_or l i d)) i (get_or l i d) ≡ l
  unmoved [] i = refl
  unmoved (a ∷ l) zero = refl
  unmoved (a ∷ l) (suc i) = ap (λ more. a ∷ more) (unmoved l i)

-- ---- lists end to end

module _ {X : Type 0} where
  -- two lists in front of a third change places
  pub front_moved : (u v w : List X) → IsPermutation (u ++ (v ++ w)) (v ++ (u ++ w))
  front_moved u v w =
      subst (λ l. IsPermutation (u ++ (v ++ w)) l) (append_assoc v u w)
      (subst (λ l. IsPermutation l ((v ++ u) ++ w)) (append_assoc u v w) (IsPermutation-append_left w (u ++ v) (v ++ u) (IsPermutation-append_comm u v)))

  ends_moved : (u b v w : List X) → IsPermutation (u ++ (b ++ (v ++ w))) (v ++ (b ++ (u ++ w)))
  ends_moved u b v w =
      IsPermutation-trans (u ++ (b ++ (v ++ w))) (u ++ (v ++ (b ++ w))) (v ++ (b ++ (u ++ w)))
      (IsPermutation-append_right u (b ++ (v ++ w)) (v ++ (b ++ w)) (front_moved b v w))
      (IsPermutation-trans (u ++ (v ++ (b ++ w))) (v ++ (u ++ (b ++ w))) (v ++ (b ++ (u ++ w)))
      (front_moved u v (b ++ w))
      (IsPermutation-append_right v (u ++ (b ++ w)) (b ++ (u ++ w)) (front_moved u b w)))

module _ {X Y : Type 0} (f : X → List Y) where
  flat-append : (xs ys : List X) → flat_map f (xs ++ ys) ≡ flat_map f xs ++ flat_map f ys
  flat-append [] ys = refl
  flat-append (x ∷ xs) ys = ap (λ more. f x ++ more) (flat-append xs ys) ∙ sym (append_assoc (f x) (flat_map f xs) (flat_map f ys))

  parts_flat : (a : List X) (x : X) (b : List X) (y : X) (c : List X) → flat_map f (a ++ x ∷ (b ++ y ∷ c)) ≡ flat_map f a ++ (f x ++ (flat_map f b ++ (f y ++ flat_map f c)))
  parts_flat a x b y c = flat-append a (x ∷ (b ++ y ∷ c)) ∙ ap (λ more. flat_map f a ++ (f x ++ more)) (flat-append b (y ∷ c))

  swapped_flat : (l changed : List X) → HasSwapped l changed → IsPermutation (flat_map f l) (flat_map f changed)
  swapped_flat l changed s =
      let fa = flat_map f s.before in
      let fb = flat_map f s.between in
      let fc = flat_map f s.behind in
      subst (λ m. IsPermutation (flat_map f l) m) (sym (ap (flat_map f) s.changed_is ∙ parts_flat s.before s.y s.between s.x s.behind))
      (subst (λ m. IsPermutation m (fa ++ (f s.y ++ (fb ++ (f s.x ++ fc))))) (sym (ap (flat_map f) s.is ∙ parts_flat s.before s.x s.between s.y s.behind))
      (IsPermutation-append_right fa (f s.x ++ (fb ++ (f s.y ++ fc))) (f s.y ++ (fb ++ (f s.x ++ fc))) (ends_moved (f s.x) fb (f s.y) fc)))

  swap_flat : (l : List X) (i j : ℕ) (d : X) → i < length l → j < length l → IsPermutation (flat_map f l) (flat_map f (set (set l i (get_or l j d)) j (get_or l i d)))
  swap_flat l i j d small within = by (cases i j)
    where
      cases : (i j : ℕ) → (i ≡ j) ⊎ ((i < j) ⊎ (j < i))
      cases zero zero = inl refl
      cases zero (suc j) = inr (inl (omega arith))
      cases (suc i) zero = inr (inr (omega arith))
      cases (suc i) (suc j) = ⊎_elim (λ e. inl (ap suc e)) (λ o. ⊎_elim (λ e. inr (inl (omega (arith, e)))) (λ e. inr (inr (omega (arith, e)))) o) (cases i j)

      by : (i ≡ j) ⊎ ((i < j) ⊎ (j < i)) → IsPermutation (flat_map f l) (flat_map f (set (set l i (get_or l j d)) j (get_or l i d)))
      by (inl e) =
          subst (λ k. IsPermutation (flat_map f l) (flat_map f (set (set l i (get_or l k d)) k (get_or l i d)))) e
          (subst (λ m. IsPermutation (flat_map f l) (flat_map f m)) (sym (unmoved d l i)) (IsPermutation-refl (flat_map f l)))
      by (inr (inl e)) = swapped_flat l _ (forward d l i j e within)
      by (inr (inr e)) = swapped_flat l _ (backward d l i j e small)

  -- what is made of the items of both lists
  pub flat_moved : (xs ys : List X) → IsPermutation xs ys → IsPermutation (flat_map f xs) (flat_map f ys)
  flat_moved xs ys moved =
      IsPermutation-keeps xs (λ l. IsPermutation (flat_map f xs) (flat_map f l)) (IsPermutation-refl (flat_map f xs))
      (λ l i j small within so_far. step l i j small within so_far) ys moved
    where
      step : (l : List X) (i j : ℕ) → i < length l → j < length l → IsPermutation (flat_map f xs) (flat_map f l) → IsPermutation (flat_map f xs) (flat_map f (swap l i j))
      step [] i j small within so_far = so_far
      step (d ∷ l) i j small within so_far =
          IsPermutation-trans (flat_map f xs) (flat_map f (d ∷ l)) (flat_map f (swap (d ∷ l) i j)) so_far
          (subst (λ m. IsPermutation (flat_map f (d ∷ l)) (flat_map f m)) (swap_is (d ∷ l) i j d small within) (swap_flat (d ∷ l) i j d small within))

  -- and each item is made into something that has the same items
  pub flat_each_moved : (g : X → List Y) → ((x : X) → IsPermutation (f x) (g x)) → (xs : List X) → IsPermutation (flat_map f xs) (flat_map g xs)
  flat_each_moved g each [] = IsPermutation-refl []
  flat_each_moved g each (x ∷ xs) = IsPermutation-append (f x) (g x) (flat_map f xs) (flat_map g xs) (each x) (flat_each_moved g each xs)

-- ---- what is kept

module _ {X : Type 0} (keeps : X → Bool) where
  abbrev if_kept : X → List X
  if_kept x = cond (keeps x) (x ∷ []) []

  filter_is : (xs : List X) → filter keeps xs ≡ flat_map if_kept xs
  filter_is [] = refl
  filter_is (x ∷ xs) = by (keeps x) (filter_is xs)
    where
      by : (b : Bool) → filter keeps xs ≡ flat_map if_kept xs → cond b (x ∷ filter keeps xs) (filter keeps xs) ≡ cond b (x ∷ []) [] ++ flat_map if_kept xs
      by true same = ap (λ more. x ∷ more) same
      by false same = same

  pub filter_moved : (xs ys : List X) → IsPermutation xs ys → IsPermutation (filter keeps xs) (filter keeps ys)
  filter_moved xs ys moved =
      subst (λ l. IsPermutation l (filter keeps ys)) (sym (filter_is xs))
      (subst (λ l. IsPermutation (flat_map if_kept xs) l) (sym (filter_is ys)) (flat_moved if_kept xs ys moved))

-- what is kept by a test that may ask the whole list, but not in which order it stands
pub chosen_moved : {X : Type 0} (test : List X → X → Bool) → ((xs ys : List X) → IsPermutation xs ys → test xs ≡ test ys) → (xs ys : List X) → IsPermutation xs ys → IsPermutation (filter (test xs) xs) (filter (test ys) ys)
chosen_moved test blind xs ys moved = subst (λ keeps. IsPermutation (filter (test xs) xs) (filter keeps ys)) (blind xs ys moved) (filter_moved (test xs) xs ys moved)

-- the best of both lists are the same items
pub best_moved : {X : Type 0} (better : X → X → Bool) (xs ys : List X) → IsPermutation xs ys → IsPermutation (best better xs) (best better ys)
best_moved better = chosen_moved (is_unbettered better) (λ xs ys moved. (λ j x. not (list_any-IsPermutation (λ y. better y x) xs ys moved j)))

-- ---- choices of one item of each list

module _ {X : Type 0} where
  -- the lists have the same items, one after the other
  abbrev pub EachMoved : List (List X) → List (List X) → Type 0
  EachMoved [] [] = Unit {0}
  EachMoved [] (ys ∷ yss) = ⊥
  EachMoved (xs ∷ xss) [] = ⊥
  EachMoved (xs ∷ xss) (ys ∷ yss) = IsPermutation xs ys × EachMoved xss yss

  pub product_moved : (xss yss : List (List X)) → EachMoved xss yss → IsPermutation (product xss) (product yss)
  product_moved [] [] moved = IsPermutation-refl ([] ∷ [])
  product_moved [] (ys ∷ yss) moved = absurd moved
  product_moved (xs ∷ xss) [] moved = absurd moved
  product_moved (xs ∷ xss) (ys ∷ yss) moved =
      let rest = product_moved xss yss moved.1 in
      IsPermutation-trans (product (xs ∷ xss)) (flat_map (λ x. map (λ more. x ∷ more) (product yss)) xs) (product (ys ∷ yss))
      (flat_each_moved (λ x. map (λ more. x ∷ more) (product xss)) (λ x. map (λ more. x ∷ more) (product yss)) (λ x. IsPermutation-map (λ more. x ∷ more) (product xss) (product yss) rest) xs)
      (flat_moved (λ x. map (λ more. x ∷ more) (product yss)) xs ys moved.0)

-- ---- arrangements

-- rows in another order are arranged the same
pub arranged_moved : (distinct : Bool) (keys : List SortKey) (xs ys : List AnswerRow) → IsPermutation xs ys → arranged distinct keys xs ≡ arranged distinct keys ys
arranged_moved distinct keys xs ys moved = arranged_only distinct keys ys (arranged distinct keys xs) (by distinct (arranged distinct keys xs) (arranged_is distinct keys xs))
  where
    by : (b : Bool) (rows : List AnswerRow) → IsArranged b keys xs rows → IsArranged b keys ys rows
    by false rows is = record { kept = IsPermutation-trans ys xs rows (IsPermutation-sym xs ys moved) is.kept; sorted = is.sorted }
    by true rows is = record {
      kept = record {
        members = λ row. (
          (λ c. (is.kept.members row).0 (Contains-permutation ys xs row (IsPermutation-sym xs ys moved) c)),
          (λ c. Contains-permutation xs ys row moved ((is.kept.members row).1 c)),
        );
        differ = is.kept.differ;
      };
      sorted = is.sorted;
    }
