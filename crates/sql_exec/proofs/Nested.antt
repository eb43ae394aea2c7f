-- A walk that leaves a front as soon as its test fails comes to the elements of the product that pass
-- every test, in the order of the product.
use Rattle.std.proofs.Common.{◌≡◌, Bool, true, false, ◌&&◌, List, [], ◌∷◌, ◌++◌, map, map-id, cond, refl, sym, ap, ◌∙◌, append-nil, append_assoc}
use Rattle.std.specs.List.{filter, flat_map}
use Rattle.std.proofs.lemmas.List.{map-append}
use Rattle.std.proofs.lemmas.List.Elements.{filter-append}
use Rattle.prefsql_tables.specs.Product.{product}
use Rattle.sql_exec.specs.Walks.{Step, walk}

-- whether an element that was put behind a front passes
abbrev pub Test : Type 0 → Type 0
Test X = List X → X → Bool

module _ {Y : Type 0} where
  filter_none : (ys : List Y) → filter (λ _. false) ys ≡ []
  filter_none [] = refl
  filter_none (y ∷ ys) = filter_none ys

  pub where_passed : (b : Bool) (P : Y → Bool) (ys : List Y) → filter (λ y. b && P y) ys ≡ cond b (filter P ys) []
  where_passed true P ys = refl
  where_passed false P ys = filter_none ys

module _ {X : Type 0} where
  -- whether elements that are put behind a front one after the other pass
  abbrev pub passes : List (Test X) → List X → List X → Bool
  passes [] front rest = true
  passes (test ∷ tests) front [] = true
  passes (test ∷ tests) front (x ∷ rest) = test front x && passes tests (front ++ x ∷ []) rest

  -- a step of the walk goes through those elements that pass
  abbrev pub IsStep : Step X → List X → Test X → Type 0
  IsStep step xs test =
      (front : List X) (behind : X → List (List X)) → flat_map (λ x. cond (step.1 (front ++ x ∷ [])) (behind x) []) (step.0 front) ≡ flat_map (λ x. cond (test front x) (behind x) []) xs

  abbrev pub AreSteps : List (Step X) → List (List X) → List (Test X) → Type 0
  AreSteps [] [] [] = Unit {0}
  AreSteps (step ∷ steps) (xs ∷ lists) (test ∷ tests) = IsStep step xs test × AreSteps steps lists tests
  AreSteps _ _ _ = ⊥

  mapped : (x : X) (P : List X → Bool) (rs : List (List X)) → filter P (map (λ r. x ∷ r) rs) ≡ map (λ r. x ∷ r) (filter (λ r. P (x ∷ r)) rs)
  mapped x P [] = refl
  mapped x P (r ∷ rs) = go (mapped x P rs) (P (x ∷ r))
    where
      go : filter P (map (λ r. x ∷ r) rs) ≡ map (λ r. x ∷ r) (filter (λ r. P (x ∷ r)) rs) → (b : Bool) → cond b ((x ∷ r) ∷ filter P (map (λ r. x ∷ r) rs)) (filter P (map (λ r. x ∷ r) rs)) ≡ map (λ r. x ∷ r) (cond b (r ∷ filter (λ r. P (x ∷ r)) rs) (filter (λ r. P (x ∷ r)) rs))
      go rest true = ap (λ all. (x ∷ r) ∷ all) rest
      go rest false = rest

  in_front : (front : List X) (x : X) (rs : List (List X)) → map (λ r. front ++ r) (map (λ r. x ∷ r) rs) ≡ map (λ r. (front ++ x ∷ []) ++ r) rs
  in_front front x [] = refl
  in_front front x (r ∷ rs) = (λ j. sym (append_assoc front (x ∷ []) r) j ∷ in_front front x rs j)

  none_in_front : (front : List X) (b : Bool) (x : X) (rs : List (List X)) → map (λ r. front ++ r) (map (λ r. x ∷ r) (cond b rs [])) ≡ cond b (map (λ r. (front ++ x ∷ []) ++ r) rs) []
  none_in_front front true x rs = in_front front x rs
  none_in_front front false x rs = refl

  module _ (test : Test X) (tests : List (Test X)) (front : List X) (more : List (List X)) where
    abbrev kept_behind : X → List (List X)
    kept_behind x = map (λ r. (front ++ x ∷ []) ++ r) (filter (passes tests (front ++ x ∷ [])) more)

    one : (x : X) → map (λ r. front ++ r) (filter (passes (test ∷ tests) front) (map (λ r. x ∷ r) more)) ≡ cond (test front x) (kept_behind x) []
    one x =
        ap (map (λ r. front ++ r)) (mapped x (passes (test ∷ tests) front) more ∙ ap (map (λ r. x ∷ r)) (where_passed (test front x) (passes tests (front ++ x ∷ [])) more))
        ∙ none_in_front front (test front x) x (filter (passes tests (front ++ x ∷ [])) more)

    all_of : (xs : List X) → map (λ r. front ++ r) (filter (passes (test ∷ tests) front) (flat_map (λ x. map (λ r. x ∷ r) more) xs)) ≡ flat_map (λ x. cond (test front x) (kept_behind x) []) xs
    all_of [] = refl
    all_of (x ∷ xs) =
        ap (map (λ r. front ++ r)) (filter-append (passes (test ∷ tests) front) (map (λ r. x ∷ r) more) (flat_map (λ x. map (λ r. x ∷ r) more) xs))
        ∙ map-append (λ r. front ++ r) (filter (passes (test ∷ tests) front) (map (λ r. x ∷ r) more)) (filter (passes (test ∷ tests) front) (flat_map (λ x. map (λ r. x ∷ r) more) xs))
        ∙ (λ j. one x j ++ all_of xs j)

  pub walked : (steps : List (Step X)) (lists : List (List X)) (tests : List (Test X)) → AreSteps steps lists tests → (front : List X) → walk steps front ≡ map (λ r. front ++ r) (filter (passes tests front) (product lists))
  walked [] [] [] are front = ap (λ f. f ∷ []) (sym (append-nil front))
  walked [] [] (test ∷ tests) are front = absurd are
  walked [] (xs ∷ lists) [] are front = absurd are
  walked [] (xs ∷ lists) (test ∷ tests) are front = absurd are
  walked (step ∷ steps) [] [] are front = absurd are
  walked (step ∷ steps) [] (test ∷ tests) are front = absurd are
  walked (step ∷ steps) (xs ∷ lists) [] are front = absurd are
  walked (step ∷ steps) (xs ∷ lists) (test ∷ tests) are front =
      are.0 front (λ x. walk steps (front ++ x ∷ []))
      ∙ (λ j. flat_map (λ x. cond (test front x) (walked steps lists tests are.1 (front ++ x ∷ []) j) []) xs)
      ∙ sym (all_of test tests front (product lists) xs)

  -- from the empty front on
  pub walked_all : (steps : List (Step X)) (lists : List (List X)) (tests : List (Test X)) → AreSteps steps lists tests → walk steps [] ≡ filter (passes tests []) (product lists)
  walked_all steps lists tests are = walked steps lists tests are [] ∙ map-id (filter (passes tests []) (product lists))
