-- A walk goes on from a front that was chosen: it leaves it, or is at its end, or comes to the next step.
use Rattle.std.proofs.Common.{◌≡◌, ℕ, suc, ◌+◌, ◌-◌, ◌<◌, true, false, List, [], ◌∷◌, ◌++◌, length, get_or, drop, cond, arith, sym, ap, ◌∙◌}
use Rattle.std.proofs.lemmas.List.{drop_all, length-append}
use Rattle.sql_exec.specs.Walks.{Step, found, no_step, pending, tried, tries, walk, yield_at}
use Rattle.sql_exec.proofs.Pending.{each, pending_come, tried_from, walk_from}

module _ {X : Type 0} (steps : List (Step X)) (row : List X) (left : List (List X)) (next_row : List X) (next_left : List (List X)) (some : 0 < length next_row) where
  abbrev last : ℕ
  last = length next_row - 1

  step_last : Step X
  step_last = get_or steps last no_step

  next_place : suc last ≡ length next_row
  next_place = omega (arith, some)

  module _ (leads : pending found steps [] row left ≡ yield_at found steps last next_row ++ pending found steps [] next_row next_left) where
    pub refused : (get_or steps last no_step).1 next_row ≡ false → pending found steps [] row left ≡ pending found steps [] next_row next_left
    refused fails = leads ∙ ap (λ b. cond b (walk (drop (suc last) steps) next_row) [] ++ pending found steps [] next_row next_left) fails

    passed : (get_or steps last no_step).1 next_row ≡ true → pending found steps [] row left ≡ walk (drop (length next_row) steps) next_row ++ pending found steps [] next_row next_left
    passed passes =
        leads ∙ ap (λ b. cond b (walk (drop (suc last) steps) next_row) [] ++ pending found steps [] next_row next_left) passes
        ∙ ap (λ (k : ℕ). walk (drop k steps) next_row ++ pending found steps [] next_row next_left) next_place

    pub complete : (get_or steps last no_step).1 next_row ≡ true → length steps ≡ length next_row → pending found steps [] row left ≡ next_row ∷ pending found steps [] next_row next_left
    complete passes all = passed passes ∙ ap (λ (rest : List (Step X)). walk rest next_row ++ pending found steps [] next_row next_left) (drop_all (length next_row) steps (omega (arith, all)))

    pub deeper : (xs : List X) → (get_or steps last no_step).1 next_row ≡ true → length next_row < length steps → length next_row ≡ length next_left → xs ≡ (get_or steps (length next_row) no_step).0 next_row
        → pending found steps [] row left ≡ pending found steps [] next_row (next_left ++ xs ∷ [])
    deeper xs passes more same are =
        passed passes
        ∙ ap (λ whole. whole ++ pending found steps [] next_row next_left) (walk_from steps (length next_row) next_row more)
        ∙ ap (λ (k : ℕ). behind k ((get_or steps k no_step).0 next_row) ++ pending found steps [] next_row next_left) same
        ∙ ap (λ (ys : List X). behind (length next_left) ys ++ pending found steps [] next_row next_left) (ap (λ (k : ℕ). (get_or steps k no_step).0 next_row) (sym same) ∙ sym are)
        ∙ sym (pending_come found steps [] next_row next_left xs same (omega (arith, same, more)))
      where
        behind : ℕ → List X → List (List X)
        behind k ys = each found (get_or steps k no_step) (drop (suc k) steps) next_row ys

  module _ (leads : pending tries steps [] row left ≡ yield_at tries steps last next_row ++ pending tries steps [] next_row next_left) where
    whole : length (pending tries steps [] row left) ≡ suc (length (tried (drop (length next_row) steps) next_row) + length (pending tries steps [] next_row next_left))
    whole =
        ap length leads
        ∙ ap suc (length-append (tried (drop (suc last) steps) next_row) (pending tries steps [] next_row next_left))
        ∙ ap (λ (k : ℕ). suc (length (tried (drop k steps) next_row) + length (pending tries steps [] next_row next_left))) next_place

    pub fewer_left : length (pending tries steps [] next_row next_left) < length (pending tries steps [] row left)
    fewer_left = omega (arith, whole)

    pub fewer_deeper : (xs : List X) → length next_row < length steps → length next_row ≡ length next_left → xs ≡ (get_or steps (length next_row) no_step).0 next_row
        → length (pending tries steps [] next_row (next_left ++ xs ∷ [])) < length (pending tries steps [] row left)
    fewer_deeper xs more same are =
        let front = each tries (get_or steps (length next_left) no_step) (drop (suc (length next_left)) steps) next_row xs in
        let both = ap length (pending_come tries steps [] next_row next_left xs same (omega (arith, same, more))) ∙ length-append front (pending tries steps [] next_row next_left) in
        let first : length (tried (drop (length next_row) steps) next_row) ≡ length front =
        ap length (tried_from steps (length next_row) next_row more)
        ∙ ap (λ (ys : List X). length (each tries (get_or steps (length next_row) no_step) (drop (suc (length next_row)) steps) next_row ys)) (sym are)
        ∙ ap (λ (k : ℕ). length (each tries (get_or steps k no_step) (drop (suc k) steps) next_row xs)) same in
        omega (arith, whole, both, first)
