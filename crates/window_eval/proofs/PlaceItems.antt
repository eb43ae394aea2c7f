-- The items at places.
use Rattle.std.proofs.Common.{◌≡◌, ℕ, zero, suc, ◌+◌, ◌<◌, ◌≤◌, Bool, true, false, ◌||◌, List, [], ◌∷◌, ◌++◌, length, take, drop, get_or, map, All, Option, Some, None, refl, sym, ap, ◌∙◌, inl, inr, subst, arith, take-append-drop}
use Rattle.std.specs.List.{slice_get, list_any}
use Rattle.std.proofs.lemmas.Bool.{both_ways, or_from}
use Rattle.std.proofs.lemmas.List.Folds.{list_any-append}
use Rattle.std.proofs.lemmas.List.{take_more, length-take, map-append}
use Rattle.std.proofs.lemmas.List.Elements.{All-head, All-tail, All-contains, Contains-get_or, All-take}
use Rattle.order_laws.proofs.Members.{Among, among_from_Contains, among_front, Contains_from_among, none_at}
use Rattle.window_eval.specs.Places.{somes, items_at}

module _ {X : Type 0} where
  somes-append : (os ps : List (Option X)) → somes (os ++ ps) ≡ somes os ++ somes ps
  somes-append [] ps = refl
  somes-append (Some x ∷ os) ps = ap (λ xs. x ∷ xs) (somes-append os ps)
  somes-append (None ∷ os) ps = somes-append os ps

  -- what indexing returned, as `get` has it
  pub slice_get_read : (xs : List X) (k : ℕ) (x : X) → k < length xs → x ≡ get_or xs k x → slice_get xs k ≡ Some x
  slice_get_read [] k x h e = absurd (omega arith)
  slice_get_read (y ∷ ys) zero x h e = ap (λ z. Some z) (sym e)
  slice_get_read (y ∷ ys) (suc k) x h e = slice_get_read ys k x (omega arith) e

  pub slice_get_within : (xs : List X) (k : ℕ) → k < length xs → (x : X) × (slice_get xs k ≡ Some x)
  slice_get_within [] k h = absurd (omega arith)
  slice_get_within (y ∷ ys) zero h = (y, refl)
  slice_get_within (y ∷ ys) (suc k) h = slice_get_within ys k (omega arith)

module _ {X : Type 0} (xs : List X) where
  pub items_at-append : (ps qs : List ℕ) → items_at xs (ps ++ qs) ≡ items_at xs ps ++ items_at xs qs
  items_at-append ps qs = ap somes (map-append (slice_get xs) ps qs) ∙ somes-append (map (slice_get xs) ps) (map (slice_get xs) qs)

  pub items_at_one : (p : ℕ) (x : X) → slice_get xs p ≡ Some x → items_at xs (p ∷ []) ≡ x ∷ []
  items_at_one p x h = ap (λ (o : Option X). somes (o ∷ [])) h

  -- one place more
  pub items_at_push : (ps : List ℕ) (p : ℕ) (x : X) → slice_get xs p ≡ Some x → items_at xs (ps ++ p ∷ []) ≡ items_at xs ps ++ x ∷ []
  items_at_push ps p x h = items_at-append ps (p ∷ []) ∙ ap (λ ys. items_at xs ps ++ ys) (items_at_one p x h)

  pub items_at_more : (ps : List ℕ) (i : ℕ) (x : X) → i < length ps → slice_get xs (get_or ps i 0) ≡ Some x
      → items_at xs (take (i + 1) ps) ≡ items_at xs (take i ps) ++ x ∷ []
  items_at_more ps i x within h = ap (items_at xs) (take_more ps i 0 within) ∙ items_at_push (take i ps) (get_or ps i 0) x h

  somes_cons : (o : Option X) (x : X) (os : List (Option X)) → o ≡ Some x → somes (o ∷ os) ≡ x ∷ somes os
  somes_cons (Some y) x os h = cc
  somes_cons None x os h = cc

  pub items_at_cons : (p : ℕ) (x : X) (ps : List ℕ) → slice_get xs p ≡ Some x → items_at xs (p ∷ ps) ≡ x ∷ items_at xs ps
  items_at_cons p x ps h = somes_cons (slice_get xs p) x (map (slice_get xs) ps) h

  pub length_items_at : (ps : List ℕ) → All (λ k. k < length xs) ps → length (items_at xs ps) ≡ length ps
  length_items_at [] all = refl
  length_items_at (p ∷ ps) all =
      let here = slice_get_within xs p (All-head (λ k. k < length xs) p ps all) in
      ap length (items_at_cons p here.0 ps here.1) ∙ ap suc (length_items_at ps (All-tail (λ k. k < length xs) p ps all))

  pub among_items_at : (ps : List ℕ) (p : ℕ) (x : X) → All (λ k. k < length xs) ps → Among ps p → slice_get xs p ≡ Some x → Among (items_at xs ps) x
  among_items_at [] p x all a h = absurd a
  among_items_at (q ∷ qs) p x all (inl e) h =
      let here : slice_get xs q ≡ Some x = ap (slice_get xs) e ∙ h in
      subst (λ ys. Among ys x) (sym (items_at_cons q x qs here)) (inl refl)
  among_items_at (q ∷ qs) p x all (inr a) h =
      let here = slice_get_within xs q (All-head (λ k. k < length xs) q qs all) in
      subst (λ ys. Among ys x) (sym (items_at_cons q here.0 qs here.1)) (inr (among_items_at qs p x (All-tail (λ k. k < length xs) q qs all) a h))

  among_take : (ps : List ℕ) (i : ℕ) (x : X) → Among (items_at xs (take i ps)) x → Among (items_at xs ps) x
  among_take ps i x a =
      subst (λ ys. Among ys x) (sym (items_at-append (take i ps) (drop i ps)) ∙ ap (items_at xs) (take-append-drop i ps)) (among_front (items_at xs (take i ps)) (items_at xs (drop i ps)) x a)

  empty_or : (test : X → Bool) (ys zs : List X) → ((x : X) → Among ys x → Among zs x) → All (λ x. test x ≡ true) zs → list_any test ys ≡ false → length ys ≤ 0
  empty_or test [] zs inside all none = omega arith
  empty_or test (y ∷ ys) zs inside all none =
      absurd (both_ways (test y) (none_at test (y ∷ ys) y none (inl refl)) (All-contains (λ x. test x ≡ true) zs y all (Contains_from_among zs y (inside y (inl refl)))))

  -- where each would pass, none came before
  pub none_before : (test : X → Bool) (ps : List ℕ) (i : ℕ) → i ≤ length ps → All (λ k. k < length xs) ps → All (λ x. test x ≡ true) (items_at xs ps)
      → list_any test (items_at xs (take i ps)) ≡ false → i ≤ 0
  none_before test ps i within range all none =
      let empty = empty_or test (items_at xs (take i ps)) (items_at xs ps) (among_take ps i) all none in
      omega (arith, empty, within, length_items_at (take i ps) (All-take (λ k. k < length xs) i ps range), length-take i ps)

  pub among_place : (ps : List ℕ) (i : ℕ) (x : X) → i < length ps → All (λ k. k < length xs) ps → slice_get xs (get_or ps i 0) ≡ Some x → Among (items_at xs ps) x
  among_place ps i x within range h =
      among_items_at ps (get_or ps i 0) x range (among_from_Contains ps (get_or ps i 0) (Contains-get_or ps i 0 within)) h

  -- one rival more is not better
  pub none_more : (test : X → Bool) (ps : List ℕ) (i : ℕ) (x : X) → i < length ps → slice_get xs (get_or ps i 0) ≡ Some x
      → list_any test (items_at xs (take i ps)) ≡ false → test x ≡ false → list_any test (items_at xs (take (i + 1) ps)) ≡ false
  none_more test ps i x within h none fails =
      ap (list_any test) (items_at_more ps i x within h) ∙ list_any-append test (items_at xs (take i ps)) (x ∷ [])
      ∙ or_from (list_any test (items_at xs (take i ps))) (test x || false) none (or_from (test x) false fails refl)
