-- How the number of kept items of smaller key advances.
use Rattle.std.proofs.Common.{◌≡◌, ℕ, zero, suc, ◌<◌, ◌≤◌, Bool, true, false, cond, List, [], ◌∷◌, ◌++◌, length, take, drop, All, Option, Some, None, refl, sym, ap, ◌∙◌, inl, inr, subst, arith, take-append-drop, length-drop, drop-cons}
use Rattle.std.specs.List.{slice_get}
use Rattle.std.specs.Option.{option_and_then}
use Rattle.std.specs.Ordering.{is_lt}
use Rattle.std.specs.declared.cmp.Ordering.{Ordering}
use Rattle.std.specs.declared.cmp.Ordering.TheVariants.{Less, Equal, Greater}
use Rattle.std.proofs.Math.Seq.{take-length, drop-length}
use Rattle.std.proofs.lemmas.Bool.{cases_Bool}
use Rattle.std.proofs.lemmas.Option.{slice_get_past, slice_get-get_or}
use Rattle.std.proofs.lemmas.List.Elements.{All-head, All-drop}
use Rattle.order_laws.specs.Lawful.{IsLawfulWhere}
use Rattle.order_laws.specs.Best.{is_unbettered}
use Rattle.order_laws.proofs.Members.{Among, among_back, among_kept}
use Rattle.window_eval.specs.Places.{items_at, smaller_or, smaller_kept}
use Rattle.window_eval.proofs.PlaceItems.{items_at-append, items_at_cons, slice_get_within}
use Rattle.window_eval.proofs.Passing.{among_found}
use Rattle.window_eval.proofs.Keeping.{IsWindow, window_rises, level_ties}

lt_less : (o : Ordering) → is_lt o ≡ true → o ≡ Less
lt_less Less h = refl
lt_less Equal h = absurd (cc)
lt_less Greater h = absurd (cc)

module _ {X : Type 0} (key_cmp : X → X → Ordering) (xs : List X) (x : X) (kept : List ℕ) (before : ℕ) where
  pub smaller_none : slice_get kept before ≡ None → smaller_kept key_cmp xs x kept before ≡ before
  smaller_none h = ap (λ (o : Option ℕ). smaller_or key_cmp (option_and_then (slice_get xs) o) x (length kept) before) h

  pub smaller_some : (p : ℕ) (first : X) → slice_get kept before ≡ Some p → slice_get xs p ≡ Some first
      → smaller_kept key_cmp xs x kept before ≡ cond (is_lt (key_cmp first x)) (length kept) before
  smaller_some p first h read =
      ap (λ (o : Option ℕ). smaller_or key_cmp (option_and_then (slice_get xs) o) x (length kept) before) h
      ∙ ap (λ (o : Option X). smaller_or key_cmp o x (length kept) before) read

first_of : (ps : List ℕ) (n p : ℕ) (rest : List ℕ) → drop n ps ≡ p ∷ rest → slice_get ps n ≡ Some p
first_of ps n p rest h =
    let lengths : length (drop n ps) ≡ suc (length rest) = ap length h in
    let within : n < length ps = omega (arith, lengths, length-drop n ps) in
    let cons = drop-cons ps n 0 within in
    let read = slice_get-get_or ps n 0 within in
    cc

module _ {X : Type 0} (xs : List X) where
  slice_get_among : (ys : List X) (k : ℕ) (x : X) → slice_get ys k ≡ Some x → Among ys x
  slice_get_among [] k x h = absurd (cc)
  slice_get_among (y ∷ ys) zero x h = inl (cc)
  slice_get_among (y ∷ ys) (suc k) x h = inr (slice_get_among ys k x h)

  -- an item at places is an item of the list
  pub items_inside : (ps : List ℕ) (y : X) → All (λ p. p < length xs) ps → Among (items_at xs ps) y → Among xs y
  items_inside ps y within a =
      let found = among_found xs ps y within a in
      slice_get_among xs found.0 y found.2

-- of the kept ones the first r have a smaller key than x, and the others the key of x
pub record IsAdvanced {X : Type 0} (best_one : X → Bool) (key_cmp : X → X → Ordering) (xs done rest : List X) (x : X) (kept : List ℕ) (r : ℕ) : Type 0 where
  pub bounded : r ≤ length kept
  pub window : IsWindow best_one key_cmp done (x ∷ rest) (items_at xs (take r kept)) (items_at xs (drop r kept))
  pub ties : (y : X) → Among (items_at xs (drop r kept)) y → key_cmp y x ≡ Equal

module _ {X : Type 0} {valid : X → Type 0} {better same : X → X → Bool} {key_cmp : X → X → Ordering} (laws : IsLawfulWhere valid better same key_cmp) (xs : List X) (all : All valid xs) where
  abbrev W : List X → List X → List X → List X → Type 0
  W = IsWindow (is_unbettered better xs) key_cmp

  module _ (done rest : List X) (x : X) (kept : List ℕ) (s : ℕ) (known : s ≤ length kept) (within : All (λ p. p < length xs) kept)
      (w : W done (x ∷ rest) (items_at xs (take s kept)) (items_at xs (drop s kept)))
      (rest_in : (z : X) → Among (x ∷ rest) z → Among xs z) (done_in : (z : X) → Among done z → Among xs z)
      (rising : (z : X) → Among (x ∷ rest) z → is_lt (key_cmp z x) ≡ false)
      (before : (y : X) → Among done y → is_lt (key_cmp x y) ≡ false) where
    abbrev A : ℕ → Type 0
    A = IsAdvanced (is_unbettered better xs) key_cmp xs done rest x kept

    split : items_at xs (take s kept) ++ items_at xs (drop s kept) ≡ items_at xs kept
    split = sym (items_at-append xs (take s kept) (drop s kept)) ∙ ap (items_at xs) (take-append-drop s kept)

    level_done : (y : X) → Among (items_at xs (drop s kept)) y → Among done y
    level_done y a =
        (among_kept (is_unbettered better xs) done y
        (subst (λ ys. Among ys y) w.kept (among_back (items_at xs (take s kept)) (items_at xs (drop s kept)) y a))).0

    advance_none : drop s kept ≡ [] → A s
    advance_none h = record {
      bounded = known;
      window = w;
      ties = λ y a. absurd (subst (λ ps. Among (items_at xs ps) y) h a);
    }

    module _ (p : ℕ) (ps : List ℕ) (f : X) (h : drop s kept ≡ p ∷ ps) (read : slice_get xs p ≡ Some f) where
      level_is : items_at xs (drop s kept) ≡ f ∷ items_at xs ps
      level_is = ap (items_at xs) h ∙ items_at_cons xs p f ps read

      level_window : W done (x ∷ rest) (items_at xs (take s kept)) (f ∷ items_at xs ps)
      level_window = subst (λ ys. W done (x ∷ rest) (items_at xs (take s kept)) ys) level_is w

      level_in : (y : X) → Among (f ∷ items_at xs ps) y → Among xs y
      level_in y a = done_in y (level_done y (subst (λ ys. Among ys y) (sym level_is) a))

      advance_rises : is_lt (key_cmp f x) ≡ true → A (length kept)
      advance_rises less =
          let rose = window_rises laws xs all done rest (items_at xs (take s kept)) (items_at xs ps) x f level_window level_in rest_in rising (lt_less (key_cmp f x) less) in
          let whole : items_at xs (take s kept) ++ f ∷ items_at xs ps ≡ items_at xs (take (length kept) kept) =
          ap (λ ys. items_at xs (take s kept) ++ ys) (sym level_is) ∙ split ∙ ap (items_at xs) (sym (take-length kept))
          in
          let none : [] ≡ items_at xs (drop (length kept) kept) = ap (items_at xs) (sym (drop-length kept)) in
          record {
            bounded = omega arith;
            window = subst (λ ys. W done (x ∷ rest) (items_at xs (take (length kept) kept)) ys) none (subst (λ ys. W done (x ∷ rest) ys []) whole rose);
            ties = λ y a. absurd (subst (λ ys. Among ys y) (sym none) a);
          }

      advance_stays : is_lt (key_cmp f x) ≡ false → A s
      advance_stays not_less = record {
        bounded = known;
        window = w;
        ties = λ y a.
            level_ties laws xs all done rest (items_at xs (take s kept)) (items_at xs ps) x f level_window level_in (rest_in x (inl refl))
            (before f (level_done f (subst (λ ys. Among ys f) (sym level_is) (inl refl)))) not_less y (subst (λ ys. Among ys y) level_is a);
      }

      advance_some : (r : ℕ) → r ≡ cond (is_lt (key_cmp f x)) (length kept) s → A r
      advance_some r e =
          elim (cases_Bool (is_lt (key_cmp f x))) [
            | inl less ↦ subst A (sym (e ∙ ap (λ b. cond b (length kept) s) less)) (advance_rises less)
            | inr not_less ↦ subst A (sym (e ∙ ap (λ b. cond b (length kept) s) not_less)) (advance_stays not_less)
          ]

    advance_at : (back : List ℕ) → drop s kept ≡ back → (r : ℕ) → r ≡ smaller_kept key_cmp xs x kept s → A r
    advance_at [] h r e =
        let lengths : length (drop s kept) ≡ 0 = ap length h in
        let past : slice_get kept s ≡ None = slice_get_past kept s (omega (arith, lengths, length-drop s kept)) in
        subst A (sym (e ∙ smaller_none key_cmp xs x kept s past)) (advance_none h)
    advance_at (p ∷ ps) h r e =
        let place_in : p < length xs =
        All-head (λ q. q < length xs) p ps (subst (All (λ q. q < length xs)) h (All-drop (λ q. q < length xs) s kept within))
        in
        let first = slice_get_within xs p place_in in
        advance_some p ps first.0 h first.1 r (e ∙ smaller_some key_cmp xs x kept s p first.0 (first_of kept s p ps h) first.1)

    pub advance : (r : ℕ) → r ≡ smaller_kept key_cmp xs x kept s → A r
    advance r e = advance_at (drop s kept) refl r e
