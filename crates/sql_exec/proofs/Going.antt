-- A walk over the FROM items of a search goes on.
use Rattle.std.proofs.Common.{◌≡◌, ◌≢◌, ℕ, zero, suc, ◌-◌, ◌<◌, ◌≤◌, Bool, true, false, Some, None, slice_get, List, [], ◌∷◌, ◌++◌, length, get_or, cond, arith, refl, sym, ap, ◌∙◌, subst}
use Rattle.std.proofs.lemmas.List.{length-append, length-map}
use Rattle.prefsql_tables.specs.declared.table.AnswerRow.{AnswerRow}
use Rattle.sql_tree.specs.Meaning.{Scope, Scopes}
use Rattle.sql_exec.specs.declared.ready.ReadySearch.{ReadySearch, out-ReadySearch}
use Rattle.sql_exec.specs.declared.ready.ReadyStep.{ReadyStep}
use Rattle.sql_exec.specs.declared.walk.Walk.{Walk}
use Rattle.sql_exec.specs.Ready.{all_keep, kept, step_at, steps_at}
use Rattle.sql_exec.specs.Steps.{IsChosen, IsWalk, left_of, row_of}
use Rattle.sql_exec.specs.Walks.{Step, found, no_step, pending, tries, walk}
use Rattle.sql_exec.proofs.Advance.{complete, deeper, fewer_deeper, refused}
use Rattle.sql_exec.proofs.ReadyReads.{kept_is, step_is}

pub step_there : (ss : List ReadyStep) (scopes : Scopes) (k : ℕ) (d : ReadyStep) → k < length ss → get_or (steps_at ss scopes) k no_step ≡ step_at (get_or ss k d) scopes
step_there [] scopes k d within = absurd (omega (arith, within))
step_there (s ∷ ss) scopes zero d within = refl
step_there (s ∷ ss) scopes (suc k) d within = step_there ss scopes k d (omega (arith, within))

module _ (ss : List ReadyStep) (scopes : Scopes) where
  abbrev steps : List (Step AnswerRow)
  steps = steps_at ss scopes

  as_many_steps : length steps ≡ length ss
  as_many_steps = length-map ss (λ step. step_at step scopes)

  at_step : (k : ℕ) (step : ReadyStep) → k < length ss → step ≡ get_or ss k step → get_or steps k no_step ≡ step_at step scopes
  at_step k step within is = step_there ss scopes k step within ∙ ap (λ (s : ReadyStep). step_at s scopes) (sym is)

  tested : (k : ℕ) (step : ReadyStep) (b : Bool) (front : Scope) → k < length ss → step ≡ get_or ss k step → b ≡ all_keep step.tests (front ∷ scopes) → (get_or steps k no_step).1 front ≡ b
  tested k step b front within is told = ap (λ (s : Step AnswerRow). s.1 front) (at_step k step within is ∙ step_is step scopes) ∙ sym told

  rows_there : (k : ℕ) (step : ReadyStep) (rows : List AnswerRow) (front : Scope) → k < length ss → step ≡ get_or ss k step → rows ≡ (step_at step scopes).0 front → rows ≡ (get_or steps k no_step).0 front
  rows_there k step rows front within is are = are ∙ ap (λ (s : Step AnswerRow). s.0 front) (sym (at_step k step within is))

  module _ (before new : Walk) (walks : IsWalk (length ss) before) (chosen : IsChosen (row_of before) (left_of before) (row_of new) (left_of new)) where
    pub kept_walk : IsWalk (length ss) new
    kept_walk = record { near = (let same = chosen.as_many in omega (arith, same)); within = (let less = chosen.within in let all = walks.within in omega (arith, less, all)) }

    enough : length (left_of before) ≤ length steps
    enough = (let all = walks.within in omega (arith, all, as_many_steps))

    place : length (row_of new) - 1 < length ss
    place = (let same = chosen.as_many in let some = chosen.some in let less = chosen.within in let all = walks.within in omega (arith, same, some, less, all))

    module _ (k : ℕ) (step : ReadyStep) (b : Bool) (count : k ≡ length (row_of new)) (is : step ≡ get_or ss (k - 1) step) (told : b ≡ all_keep step.tests (row_of new ∷ scopes)) where
      test : (get_or steps (length (row_of new) - 1) no_step).1 (row_of new) ≡ b
      test = tested (length (row_of new) - 1) step b (row_of new) place (is ∙ ap (λ (n : ℕ). get_or ss (n - 1) step) count) told

      pub not_kept : b ≡ false → pending found steps [] (row_of before) (left_of before) ≡ pending found steps [] (row_of new) (left_of new)
      not_kept fails = refused steps (row_of before) (left_of before) (row_of new) (left_of new) chosen.some (chosen.found steps enough) (test ∙ fails)

      pub at_end : b ≡ true → k ≡ length ss → pending found steps [] (row_of before) (left_of before) ≡ row_of new ∷ pending found steps [] (row_of new) (left_of new)
      at_end passes all = complete steps (row_of before) (left_of before) (row_of new) (left_of new) chosen.some (chosen.found steps enough) (test ∙ passes) (omega (arith, count, all, as_many_steps))

      module _ (next : ReadyStep) (rows : List AnswerRow) (come : Walk) (passes : b ≡ true) (more : k ≢ length ss) (is_next : next ≡ get_or ss k next) (are : rows ≡ (step_at next scopes).0 (row_of new))
          (same_row : row_of come ≡ row_of new) (come_to : left_of come ≡ left_of new ++ rows ∷ []) where
        room : length (row_of new) < length ss
        room = (let p = place in omega (arith, p, count, more))

        there : rows ≡ (get_or steps (length (row_of new)) no_step).0 (row_of new)
        there = rows_there (length (row_of new)) next rows (row_of new) room (is_next ∙ ap (λ (n : ℕ). get_or ss n next) count) are

        pub further : pending found steps [] (row_of before) (left_of before) ≡ pending found steps [] (row_of come) (left_of come)
        further =
            deeper steps (row_of before) (left_of before) (row_of new) (left_of new) chosen.some (chosen.found steps enough) rows (test ∙ passes) (omega (arith, room, as_many_steps)) chosen.as_many there
            ∙ sym (λ j. pending found steps [] (same_row j) (come_to j))

        pub fewer : length (pending tries steps [] (row_of come) (left_of come)) < length (pending tries steps [] (row_of before) (left_of before))
        fewer =
            subst (λ (n : ℕ). n < length (pending tries steps [] (row_of before) (left_of before))) (sym (λ j. length (pending tries steps [] (same_row j) (come_to j))))
            (fewer_deeper steps (row_of before) (left_of before) (row_of new) (left_of new) chosen.some (chosen.tries steps enough) rows (omega (arith, room, as_many_steps)) chosen.as_many there)

        pub come_walk : IsWalk (length ss) come
        come_walk = record {
          near = (let same = chosen.as_many in let e = ap length come_to ∙ length-append (left_of new) (rows ∷ []) in let f = ap length same_row in omega (arith, same, e, f));
          within = (let same = chosen.as_many in let e = ap length come_to ∙ length-append (left_of new) (rows ∷ []) in let r = room in omega (arith, same, e, r));
        }

-- the first scope
pub none_kept : (made : ReadySearch) (scopes : Scopes) → false ≡ all_keep (out-ReadySearch made).before ([] ∷ scopes) → [] ≡ kept made scopes
none_kept made scopes fails = sym (kept_is made scopes ∙ ap (λ b. cond b (walk (steps_at (out-ReadySearch made).steps scopes) []) []) (sym fails))

pub all_walked : (made : ReadySearch) (scopes : Scopes) → true ≡ all_keep (out-ReadySearch made).before ([] ∷ scopes) → walk (steps_at (out-ReadySearch made).steps scopes) [] ≡ kept made scopes
all_walked made scopes passes = sym (kept_is made scopes ∙ ap (λ b. cond b (walk (steps_at (out-ReadySearch made).steps scopes) []) []) (sym passes))

-- a walk that has come to the first step
pub begun : (ss : List ReadyStep) (scopes : Scopes) (step : ReadyStep) (rows : List AnswerRow) (begin : Walk) → 0 < length ss → step ≡ get_or ss 0 step → rows ≡ (step_at step scopes).0 [] → row_of begin ≡ [] → left_of begin ≡ rows ∷ []
    → pending found (steps_at ss scopes) [] (row_of begin) (left_of begin) ≡ walk (steps_at ss scopes) []
begun [] scopes step rows begin some is are no_row come = absurd (omega (arith, some))
begun (s ∷ ss) scopes step rows begin some is are no_row come =
    (λ j. pending found (steps_at (s ∷ ss) scopes) [] (no_row j) (come j))
    ∙ ap (λ (xs : List AnswerRow). pending found (steps_at (s ∷ ss) scopes) [] [] (xs ∷ [])) (are ∙ ap (λ (t : ReadyStep). (step_at t scopes).0 []) is)

pub first_there : {X : Type 0} (xs : List X) (x : X) → Some x ≡ slice_get xs 0 → (0 < length xs) × (x ≡ get_or xs 0 x)
first_there [] x is = absurd (cc is)
first_there (y ∷ xs) x is = (omega arith, cc is)

pub none_there : {X : Type 0} (xs : List X) → None ≡ slice_get xs 0 → xs ≡ []
none_there [] is = refl
none_there (x ∷ xs) is = absurd (cc is)

-- where there is no step, the one scope has no rows
pub no_steps : (ss : List ReadyStep) (scopes : Scopes) (begin : Walk) → ss ≡ [] → row_of begin ≡ [] → row_of begin ∷ pending found (steps_at ss scopes) [] (row_of begin) (left_of begin) ≡ walk (steps_at ss scopes) []
no_steps ss scopes begin none no_row =
    ap (λ (some : List ReadyStep). row_of begin ∷ pending found (steps_at some scopes) [] (row_of begin) (left_of begin)) none
    ∙ ap (λ (row : Scope). row ∷ []) no_row ∙ sym (ap (λ (some : List ReadyStep). walk (steps_at some scopes) []) none)
