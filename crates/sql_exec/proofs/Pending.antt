-- What is still to come of a walk, as it chooses one element after the other.
use Rattle.std.proofs.Common.{◌≡◌, ℕ, suc, ◌<◌, ◌≤◌, List, [], ◌∷◌, ◌++◌, length, get_or, take, drop, arith, refl, sym, ap, ◌∙◌, append-nil, append_assoc}
use Rattle.std.specs.List.{flat_map}
use Rattle.std.proofs.Math.Seq.{drop-cons}
use Rattle.sql_exec.specs.Walks.{Step, Yield, found, no_step, pending, tried, tries, walk, yield_at}

module _ {X : Type 0} (f : Yield X) where
  -- what comes of a front with each of these elements behind it
  abbrev pub each : Step X → List (Step X) → List X → List X → List (List X)
  each step more front xs = flat_map (λ x. f step more (front ++ x ∷ [])) xs

  pub none_left : (steps : List (Step X)) (front row : List X) → pending f steps front row [] ≡ []
  none_left [] front row = refl
  none_left (step ∷ more) front row = refl

  -- elements behind the last step that the walk came to do not count
  pub pending_taken : (steps : List (Step X)) (front row : List X) (left : List (List X)) (xs : List X) → length left ≤ length row
      → pending f steps front (take (length left) row) (left ++ xs ∷ []) ≡ pending f steps front row (left ++ xs ∷ [])
  pending_taken [] front row left xs within = refl
  pending_taken (step ∷ more) front [] [] xs within = refl
  pending_taken (step ∷ more) front (y ∷ row) [] xs within = ap (λ first. first ++ each step more front xs) (sym (none_left more (front ++ y ∷ []) row))
  pending_taken (step ∷ more) front [] (ys ∷ left) xs within = absurd (omega (arith, within))
  pending_taken (step ∷ more) front (y ∷ row) (ys ∷ left) xs within =
      ap (λ first. first ++ each step more front ys) (pending_taken more (front ++ y ∷ []) row left xs (omega (arith, within)))

  -- a step of which nothing is left
  pub pending_none : (steps : List (Step X)) (front row : List X) (left : List (List X)) → length left ≤ length row
      → pending f steps front row (left ++ [] ∷ []) ≡ pending f steps front row left
  pending_none [] front row left within = refl
  pending_none (step ∷ more) front [] [] within = refl
  pending_none (step ∷ more) front (y ∷ row) [] within = ap (λ first. first ++ []) (none_left more (front ++ y ∷ []) row)
  pending_none (step ∷ more) front [] (ys ∷ left) within = absurd (omega (arith, within))
  pending_none (step ∷ more) front (y ∷ row) (ys ∷ left) within =
      ap (λ first. first ++ each step more front ys) (pending_none more (front ++ y ∷ []) row left (omega (arith, within)))

  -- one of those that are left is chosen
  pub pending_chosen : (steps : List (Step X)) (front row : List X) (left : List (List X)) (x : X) (xs : List X) → length row ≡ length left → length left < length steps
      → pending f steps front row (left ++ (x ∷ xs) ∷ [])
      ≡ yield_at f steps (length left) (front ++ row ++ x ∷ []) ++ pending f steps front (row ++ x ∷ []) (left ++ xs ∷ [])
  pending_chosen [] front row left x xs same within = absurd (omega (arith, within))
  pending_chosen (step ∷ more) front [] [] x xs same within =
      ap (λ (whole : List X). f step more (whole ++ x ∷ []) ++ each step more front xs) (sym (append-nil front))
      ∙ ap (λ first. f step more ((front ++ []) ++ x ∷ []) ++ (first ++ each step more front xs)) (sym (none_left more (front ++ x ∷ []) []))
  pending_chosen (step ∷ more) front (y ∷ row) [] x xs same within = absurd (omega (arith, same))
  pending_chosen (step ∷ more) front [] (ys ∷ left) x xs same within = absurd (omega (arith, same))
  pending_chosen (step ∷ more) front (y ∷ row) (ys ∷ left) x xs same within =
      ap (λ first. first ++ each step more front ys) (pending_chosen more (front ++ y ∷ []) row left x xs (omega (arith, same)) (omega (arith, within)))
      ∙ append_assoc (yield_at f more (length left) ((front ++ y ∷ []) ++ row ++ x ∷ [])) (pending f more (front ++ y ∷ []) (row ++ x ∷ []) (left ++ xs ∷ [])) (each step more front ys)
      ∙ ap (λ (whole : List X). yield_at f more (length left) (whole ++ x ∷ []) ++ (pending f more (front ++ y ∷ []) (row ++ x ∷ []) (left ++ xs ∷ []) ++ each step more front ys)) (append_assoc front (y ∷ []) row)

  -- the walk comes to a step
  pub pending_come : (steps : List (Step X)) (front row : List X) (left : List (List X)) (xs : List X) → length row ≡ length left → length left < length steps
      → pending f steps front row (left ++ xs ∷ []) ≡ each (get_or steps (length left) no_step) (drop (suc (length left)) steps) (front ++ row) xs ++ pending f steps front row left
  pending_come [] front row left xs same within = absurd (omega (arith, within))
  pending_come (step ∷ more) front [] [] xs same within =
      ap (λ (whole : List X). each step more whole xs) (sym (append-nil front)) ∙ sym (append-nil (each step more (front ++ []) xs))
  pending_come (step ∷ more) front (y ∷ row) [] xs same within = absurd (omega (arith, same))
  pending_come (step ∷ more) front [] (ys ∷ left) xs same within = absurd (omega (arith, same))
  pending_come (step ∷ more) front (y ∷ row) (ys ∷ left) xs same within =
      ap (λ first. first ++ each step more front ys) (pending_come more (front ++ y ∷ []) row left xs (omega (arith, same)) (omega (arith, within)))
      ∙ append_assoc (each (get_or more (length left) no_step) (drop (suc (length left)) more) ((front ++ y ∷ []) ++ row) xs) (pending f more (front ++ y ∷ []) row left) (each step more front ys)
      ∙ ap (λ (whole : List X). each (get_or more (length left) no_step) (drop (suc (length left)) more) whole xs ++ (pending f more (front ++ y ∷ []) row left ++ each step more front ys)) (append_assoc front (y ∷ []) row)

module _ {X : Type 0} where
  -- the walk from a step on, and what it tries
  pub walk_from : (steps : List (Step X)) (k : ℕ) (front : List X) → k < length steps
      → walk (drop k steps) front ≡ each found (get_or steps k no_step) (drop (suc k) steps) front ((get_or steps k no_step).0 front)
  walk_from steps k front within = ap (λ (rest : List (Step X)). walk rest front) (drop-cons steps k no_step within)

  pub tried_from : (steps : List (Step X)) (k : ℕ) (front : List X) → k < length steps
      → tried (drop k steps) front ≡ each tries (get_or steps k no_step) (drop (suc k) steps) front ((get_or steps k no_step).0 front)
  tried_from steps k front within = ap (λ (rest : List (Step X)). tried rest front) (drop-cons steps k no_step within)
