-- The best items of a list that is cut into parts are those of its parts' best items.
use Rattle.std.proofs.Common.{◌≡◌, Bool, true, ◌&&◌, List, [], ◌∷◌, ◌++◌, filter, Contains, refl, sym, ap, subst, ◌∙◌, ⊎_elim, append-nil}
use Rattle.std.specs.List.{flat_map}
use Rattle.std.proofs.lemmas.Bool.{and_parts, and_from}
use Rattle.std.proofs.lemmas.List.Elements.{All-contains, filter-append}
use Rattle.order_laws.specs.Best.{best, is_unbettered}
use Rattle.order_laws.specs.Parts.{HoldsBest, bests_of_parts, end_to_end}
use Rattle.order_laws.proofs.Members.{Among, Contains_from_among, among_back, among_either, among_front, among_from_Contains, among_kept, filter_filter, filter_same}
use Rattle.order_laws.proofs.BestLaws.{IsOrderAmong, among_best, best_among, dominated, same_tests, unbettered_at, unbettered_from}

-- ---- what passes a test of a whole is found in what passes it of each part

module _ {X : Type 0} (test : List X → X → Bool) (loosens : (part whole : List X) → ((y : X) → Among part y → Among whole y) → (x : X) → test whole x ≡ true → test part x ≡ true) where
  -- the items of a list that pass its test
  abbrev pub passed : List X → List X
  passed xs = filter (test xs) xs

  module _ (whole : List X) where
    pub part_passed : (part : List X) → ((y : X) → Among part y → Among whole y) → filter (test whole) (passed part) ≡ filter (test whole) part
    part_passed part within =
        filter_filter (test whole) (test part) part
        ∙ filter_same (λ x. test part x && test whole x) (test whole) part
        (λ x a. same_tests _ _ (λ h. (and_parts _ _ h).1) (λ h. and_from _ _ (loosens part whole within x h) h))

    pub parts_passed : (parts : List (List X)) → ((y : X) → Among (end_to_end parts) y → Among whole y) → filter (test whole) (flat_map passed parts) ≡ filter (test whole) (end_to_end parts)
    parts_passed [] within = refl
    parts_passed (part ∷ parts) within =
        filter-append (test whole) (passed part) (flat_map passed parts)
        ∙ (λ j. part_passed part (λ y a. within y (among_front part (end_to_end parts) y a)) j ++ parts_passed parts (λ y a. within y (among_back part (end_to_end parts) y a)) j)
        ∙ sym (filter-append (test whole) part (end_to_end parts))

  -- what passes the test of its part is there
  pub passed_there : (parts : List (List X)) (y : X) → Among (flat_map passed parts) y → Among (end_to_end parts) y
  passed_there [] y a = absurd a
  passed_there (part ∷ parts) y a =
      ⊎_elim (λ b. among_front part (end_to_end parts) y ((among_kept (test part) part y b).0))
      (λ b. among_back part (end_to_end parts) y (passed_there parts y b)) (among_either (passed part) (flat_map passed parts) y a)

-- ---- lists that hold the best items of another

module _ {X : Type 0} (better : X → X → Bool) (xs held : List X) (order : IsOrderAmong better xs) (some : (y : X) → Among held y → Among xs y) (best_held : (y : X) → Among (best better xs) y → Among held y) where
  -- the best of the items that are held are those that are best among all
  pub best_held_is : best better held ≡ filter (is_unbettered better xs) held
  best_held_is =
      filter_same (is_unbettered better held) (is_unbettered better xs) held
      (λ x a. same_tests _ _
      (λ h. unbettered_from better xs x (λ y b yx.
      ⊎_elim
      (λ unbettered. unbettered_at better held x h y (best_held y (among_best better xs y b unbettered)) yx)
      (λ z.
      unbettered_at better held x h z.0 (best_held z.0 z.1)
      (order.transitive z.0 y x ((best_among better xs z.0 z.1).0) b (some x a) z.2 yx))
      (dominated order y b)))
      (λ h. unbettered_from better held x (λ y b yx. unbettered_at better xs x h y (some y b) yx)))

module _ {X : Type 0} (better : X → X → Bool) where
  pub best_of_held : (xs held : List X) → IsOrderAmong better xs → HoldsBest better xs held → best better held ≡ best better xs
  best_of_held xs held order holds =
      best_held_is better xs held order
      (λ y a. among_from_Contains xs y (All-contains (Contains xs) held y holds.some (Contains_from_among held y a)))
      (λ y a. (among_kept (is_unbettered better xs) held y (subst (λ ys. Among ys y) (sym holds.all_best) a)).0)
      ∙ holds.all_best

  -- what is best in a whole is best in a part
  pub unbettered_in_part : (part whole : List X) → ((y : X) → Among part y → Among whole y) → (x : X) → is_unbettered better whole x ≡ true → is_unbettered better part x ≡ true
  unbettered_in_part part whole within x h = unbettered_from better part x (λ y a yx. unbettered_at better whole x h y (within y a) yx)

  -- the best of the parts' best are the best of the whole
  pub best_of_parts : (parts : List (List X)) → IsOrderAmong better (end_to_end parts) → best better (bests_of_parts better parts) ≡ best better (end_to_end parts)
  best_of_parts parts order =
      let whole = end_to_end parts in
      let held = bests_of_parts better parts in
      let all_best : filter (is_unbettered better whole) held ≡ best better whole = parts_passed (is_unbettered better) unbettered_in_part whole parts (λ y a. a) in
      best_held_is better whole held order (passed_there (is_unbettered better) unbettered_in_part parts)
      (λ y a. (among_kept (is_unbettered better whole) held y (subst (λ ys. Among ys y) (sym all_best) a)).0)
      ∙ all_best

  pub best_of_two : (front back : List X) → IsOrderAmong better (front ++ back) → best better (best better front ++ best better back) ≡ best better (front ++ back)
  best_of_two front back order =
      let whole : end_to_end (front ∷ back ∷ []) ≡ front ++ back = ap (λ more. front ++ more) (append-nil back) in
      ap (λ more. best better (best better front ++ more)) (sym (append-nil (best better back)))
      ∙ best_of_parts (front ∷ back ∷ []) (subst (IsOrderAmong better) (sym whole) order)
      ∙ ap (best better) whole
