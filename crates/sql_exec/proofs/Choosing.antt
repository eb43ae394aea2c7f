-- The next element of a walk is chosen.
use Rattle.std.proofs.Common.{◌≡◌, ℕ, ◌+◌, ◌-◌, ◌≤◌, List, [], ◌∷◌, ◌++◌, length, take, arith, sym, ap, ◌∙◌}
use Rattle.std.proofs.lemmas.List.{length-append, length-take}
use Rattle.sql_exec.specs.Walks.{Step, Yield, pending, yield_at}
use Rattle.sql_exec.proofs.Pending.{none_left, pending_chosen, pending_none, pending_taken}

module _ {X : Type 0} (f : Yield X) (row : List X) (left : List (List X)) (row_then : List X) (left_then : List (List X))
    (before : (steps : List (Step X)) → pending f steps [] row left ≡ pending f steps [] row_then left_then)
    (rest : List (List X)) (xs : List X) (row_now : List X) (popped : left_then ≡ rest ++ xs ∷ []) (cut : row_now ≡ take (length rest) row_then)
    (near : length left_then ≤ length row_then + 1) where
  pub one_less : length left_then ≡ length rest + 1
  one_less = ap length popped ∙ length-append rest (xs ∷ [])

  long : length rest ≤ length row_then
  long = omega (arith, near, one_less)

  pub as_long : length row_now ≡ length rest
  as_long = ap length cut ∙ (let known = length-take (length rest) row_then in omega (arith, known, long))

  now : (steps : List (Step X)) → pending f steps [] row left ≡ pending f steps [] row_now (rest ++ xs ∷ [])
  now steps =
      before steps ∙ ap (pending f steps [] row_then) popped ∙ sym (pending_taken f steps [] row_then rest xs long)
      ∙ ap (λ (some : List X). pending f steps [] some (rest ++ xs ∷ [])) (sym cut)

  -- a step of which nothing is left
  pub emptied : xs ≡ [] → (steps : List (Step X)) → pending f steps [] row left ≡ pending f steps [] row_now rest
  emptied none steps =
      now steps ∙ ap (λ (last : List X). pending f steps [] row_now (rest ++ last ∷ [])) none
      ∙ pending_none f steps [] row_now rest (omega (arith, as_long))

  -- one of those that are left is chosen
  pub one_chosen : (x : X) (more row_next : List X) (left_next : List (List X)) → xs ≡ x ∷ more → row_next ≡ row_now ++ x ∷ [] → left_next ≡ rest ++ more ∷ [] → length left_then ≤ length left
      → (steps : List (Step X)) → length left ≤ length steps → pending f steps [] row left ≡ yield_at f steps (length row_next - 1) row_next ++ pending f steps [] row_next left_next
  one_chosen x more row_next left_next first to_row to_left no_more steps within =
      let place : length rest ≡ length row_next - 1 = (let known = ap length to_row ∙ length-append row_now (x ∷ []) in omega (arith, known, as_long)) in
      now steps ∙ ap (λ (last : List X). pending f steps [] row_now (rest ++ last ∷ [])) first
      ∙ pending_chosen f steps [] row_now rest x more as_long (omega (arith, one_less, no_more, within))
      ∙ ap (λ (k : ℕ). yield_at f steps k (row_now ++ x ∷ []) ++ pending f steps [] (row_now ++ x ∷ []) (rest ++ more ∷ [])) place
      ∙ (λ j. yield_at f steps (length row_next - 1) (sym to_row j) ++ pending f steps [] (sym to_row j) (sym to_left j))

-- where nothing is left of any step, nothing is to come
pub nothing_left : {X : Type 0} (f : Yield X) (row : List X) (left : List (List X)) (row_then : List X) (left_then : List (List X))
    → ((steps : List (Step X)) → pending f steps [] row left ≡ pending f steps [] row_then left_then) → left_then ≡ [] → (steps : List (Step X)) → pending f steps [] row left ≡ []
nothing_left f row left row_then left_then before none steps = before steps ∙ ap (pending f steps [] row_then) none ∙ none_left f steps [] row_then
