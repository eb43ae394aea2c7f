-- One pass over items in the order of their keys keeps exactly the best ones.
use Rattle.std.proofs.Common.{◌≡◌, Bool, true, false, cond, ◌⊎◌, List, [], ◌∷◌, ◌++◌, filter, All, refl, sym, ap, ◌∙◌, inl, inr, ⊎_elim, subst, append_assoc, append-nil}
use Rattle.std.specs.Ordering.{is_lt, ordering_reverse}
use Rattle.std.specs.declared.cmp.Ordering.{Ordering}
use Rattle.std.specs.declared.cmp.Ordering.TheVariants.{Less, Equal, Greater}
use Rattle.std.proofs.lemmas.Bool.{both_ways, false≢true}
use Rattle.std.proofs.lemmas.Cmp.{tied_itself, alike_right}
use Rattle.std.proofs.lemmas.List.Elements.{All-contains, filter-append}
use Rattle.order_laws.specs.Lawful.{IsLawfulWhere, Valid}
use Rattle.order_laws.specs.Best.{is_unbettered}
use Rattle.order_laws.proofs.Members.{Among, Contains_from_among, among_back, among_either, among_filter, among_front, among_kept}
use Rattle.order_laws.proofs.BestLaws.{same_tests, unbettered_from, unbettered_at, best_among, order_from_lawful, dominated}

-- what the pass keeps: of the items done the best ones, those of a smaller key than all to come, and those of one key
pub record IsWindow {X : Type 0} (best_one : X → Bool) (key_cmp : X → X → Ordering) (done rest earlier level : List X) : Type 0 where
  pub kept : earlier ++ level ≡ filter best_one done
  pub earlier_less : (y z : X) → Among earlier y → Among rest z → key_cmp y z ≡ Less
  pub level_equal : (y z : X) → Among level y → Among level z → key_cmp y z ≡ Equal

pub one : {X : Type 0} {x : X} (y : X) → Among (x ∷ []) y → x ≡ y
one y (inl e) = e
one y (inr a) = absurd a

not_less : (o p : Ordering) → is_lt p ≡ false → o ≡ ordering_reverse p → (o ≡ Less) ⊎ (o ≡ Equal)
not_less o Less h e = absurd (false≢true (sym h))
not_less o Equal h e = inr e
not_less o Greater h e = inl e

module _ {X : Type 0} {valid : X → Type 0} {better same : X → X → Bool} {key_cmp : X → X → Ordering} (laws : IsLawfulWhere valid better same key_cmp) (xs : List X) (all : All valid xs) where
  abbrev best_one : X → Bool
  best_one = is_unbettered better xs

  abbrev valid_item : (x : X) → Among xs x → Valid valid
  valid_item x a = (x, All-contains valid xs x all (Contains_from_among xs x a))

  abbrev W : List X → List X → List X → List X → Type 0
  W = IsWindow best_one key_cmp

  pub at_most : (y z : X) → Among xs y → Among xs z → is_lt (key_cmp z y) ≡ false → (key_cmp y z ≡ Less) ⊎ (key_cmp y z ≡ Equal)
  at_most y z a b h = not_less (key_cmp y z) (key_cmp z y) h (laws.among_valid.keys.antisymm (valid_item y a) (valid_item z b))

  pub tied : (x : X) → Among xs x → key_cmp x x ≡ Equal
  tied x a = tied_itself laws.among_valid.keys (valid_item x a)

  less_then : (x y z : X) → Among xs x → Among xs y → Among xs z → key_cmp x y ≡ Less → is_lt (key_cmp z y) ≡ false → key_cmp x z ≡ Less
  less_then x y z a b c xy zy =
      ⊎_elim (λ yz. laws.among_valid.keys.trans (valid_item x a) (valid_item y b) (valid_item z c) xy yz)
      (λ yz. sym (alike_right laws.among_valid.keys (valid_item y b) (valid_item z c) (valid_item x a) yz) ∙ xy)
      (at_most y z b c zy)

  -- the level goes to the earlier ones where its first has a smaller key than the item at hand
  pub window_rises : (done rest earlier level : List X) (x f : X) → W done (x ∷ rest) earlier (f ∷ level)
      → ((y : X) → Among (f ∷ level) y → Among xs y) → ((z : X) → Among (x ∷ rest) z → Among xs z)
      → ((z : X) → Among (x ∷ rest) z → is_lt (key_cmp z x) ≡ false) → key_cmp f x ≡ Less
      → W done (x ∷ rest) (earlier ++ f ∷ level) []
  window_rises done rest earlier level x f w level_in rest_in rising less = record {
    kept = append-nil (earlier ++ f ∷ level) ∙ w.kept;
    earlier_less = λ y z a b.
        ⊎_elim (λ in_earlier. w.earlier_less y z in_earlier b)
        (λ in_level.
        laws.among_valid.keys.congr (valid_item y (level_in y in_level)) (valid_item f (level_in f (inl refl))) (valid_item z (rest_in z b)) (w.level_equal y f in_level (inl refl))
        ∙ less_then f x z (level_in f (inl refl)) (rest_in x (inl refl)) (rest_in z b) less (rising z b))
        (among_either earlier (f ∷ level) y a);
    level_equal = λ y z a b. absurd a;
  }

  -- where its first has no smaller key, the level has the key of the item at hand
  pub level_ties : (done rest earlier level : List X) (x f : X) → W done (x ∷ rest) earlier (f ∷ level)
      → ((y : X) → Among (f ∷ level) y → Among xs y) → Among xs x
      → is_lt (key_cmp x f) ≡ false → is_lt (key_cmp f x) ≡ false → (y : X) → Among (f ∷ level) y → key_cmp y x ≡ Equal
  level_ties done rest earlier level x f w level_in x_in rising not_smaller y a =
      let f_in = level_in f (inl refl) in
      laws.among_valid.keys.congr (valid_item y (level_in y a)) (valid_item f f_in) (valid_item x x_in) (w.level_equal y f a (inl refl))
      ∙ ⊎_elim (λ less. absurd (both_ways (is_lt (key_cmp f x)) not_smaller (ap is_lt less))) (λ equal. equal) (at_most f x f_in x_in rising)

  -- the item at hand is best exactly where no earlier one is better
  pub window_decides : (done rest earlier level : List X) (x : X) → W done (x ∷ rest) earlier level
      → ((z : X) → Among xs z → Among (done ++ x ∷ rest) z) → ((z : X) → Among (done ++ x ∷ rest) z → Among xs z)
      → ((z : X) → Among (x ∷ rest) z → is_lt (key_cmp z x) ≡ false) → ((y : X) → Among level y → key_cmp y x ≡ Equal)
      → is_unbettered better earlier x ≡ is_unbettered better xs x
  window_decides done rest earlier level x w onto inside rising ties =
      let x_in = inside x (among_back done (x ∷ rest) x (inl refl)) in
      let earlier_in : (y : X) → Among earlier y → Among xs y =
      λ y a. inside y (among_front done (x ∷ rest) y ((among_kept best_one done y (subst (λ ys. Among ys y) w.kept (among_front earlier level y a))).0))
      in
      same_tests (is_unbettered better earlier x) (is_unbettered better xs x)
      (λ h. ⊎_elim (λ unbettered. unbettered)
      (λ z.
      let z_best = best_among better xs z.0 z.1 in
      let less = laws.among_valid.better_key (valid_item z.0 z_best.0) (valid_item x x_in) z.2 in
      absurd (⊎_elim
      (λ in_done.
      ⊎_elim (λ in_earlier. unbettered_at better earlier x h z.0 in_earlier z.2)
      (λ in_level. let equal = ties z.0 in_level in cc)
      (among_either earlier level z.0 (subst (λ ys. Among ys z.0) (sym w.kept) (among_filter best_one done z.0 in_done z_best.1))))
      (λ in_rest. both_ways (is_lt (key_cmp z.0 x)) (rising z.0 in_rest) (ap is_lt less))
      (among_either done (x ∷ rest) z.0 (onto z.0 z_best.0))))
      (dominated (order_from_lawful laws xs all) x x_in))
      (λ h. unbettered_from better earlier x (λ y a yx. unbettered_at better xs x h y (earlier_in y a) yx))

  pub window_keeps : (done rest earlier level : List X) (x : X) → W done (x ∷ rest) earlier level → Among xs x → ((y : X) → Among level y → Among xs y)
      → ((y : X) → Among level y → key_cmp y x ≡ Equal) → best_one x ≡ true → W (done ++ x ∷ []) rest earlier (level ++ x ∷ [])
  window_keeps done rest earlier level x w x_in level_in ties is_best = record {
    kept = sym (append_assoc earlier level (x ∷ [])) ∙ ap (λ ys. ys ++ x ∷ []) w.kept
        ∙ ap (λ b. filter best_one done ++ cond b (x ∷ []) []) (sym is_best) ∙ sym (filter-append best_one done (x ∷ []));
    earlier_less = λ y z a b. w.earlier_less y z a (inr b);
    level_equal = λ y z a b.
        ⊎_elim
        (λ y_level. ⊎_elim (λ z_level. w.level_equal y z y_level z_level) (λ z_last. subst (λ u. key_cmp y u ≡ Equal) (one z z_last) (ties y y_level)) (among_either level (x ∷ []) z b))
        (λ y_last.
        subst (λ u. key_cmp u z ≡ Equal) (one y y_last)
        (⊎_elim (λ z_level. laws.among_valid.keys.antisymm (valid_item x x_in) (valid_item z (level_in z z_level)) ∙ ap ordering_reverse (ties z z_level))
        (λ z_last. subst (λ u. key_cmp x u ≡ Equal) (one z z_last) (tied x x_in)) (among_either level (x ∷ []) z b)))
        (among_either level (x ∷ []) y a);
  }

  pub window_drops : (done rest earlier level : List X) (x : X) → W done (x ∷ rest) earlier level → best_one x ≡ false → W (done ++ x ∷ []) rest earlier level
  window_drops done rest earlier level x w is_worse = record {
    kept = w.kept ∙ sym (append-nil (filter best_one done)) ∙ ap (λ b. filter best_one done ++ cond b (x ∷ []) []) (sym is_worse) ∙ sym (filter-append best_one done (x ∷ []));
    earlier_less = λ y z a b. w.earlier_less y z a (inr b);
    level_equal = w.level_equal;
  }
