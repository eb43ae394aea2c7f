use Rattle.std.proofs.Common.{◌≡◌, ℕ, ◌-◌, Bool, Bor, List, [], ◌∷◌, ◌++◌, IfOk, length, get_or, slice_get, map, arith, sym, ap, ◌∙◌, subst}
use Rattle.std.proofs.lemmas.List.{length-map}
use Rattle.prefsql_tables.specs.declared.table.AnswerRow.{AnswerRow}
use Rattle.prefsql_values.specs.Value.{value_of}
use Rattle.sql_tree.specs.Meaning.{Scope, first_some, or_else}
use Rattle.sql_exec.specs.declared.ready.ReadyCond.{ReadyCond}
use Rattle.sql_exec.specs.declared.ready.ReadyRows.{ReadyRows}
use Rattle.sql_exec.specs.declared.ready.ReadySearch.{out-ReadySearch}
use Rattle.sql_exec.specs.declared.ready.ReadyStep.{ReadyStep}
use Rattle.sql_exec.specs.declared.walk.Walk.{Walk}
use Rattle.sql_exec.specs.Ready.{all_keep, row_choice, step_at, steps_at, value, when_value}
use Rattle.sql_exec.specs.RowKeys.{rows_found}
use Rattle.sql_exec.specs.Seen.{found_value, outer_seen, rows_seen, scopes_seen}
use Rattle.sql_exec.specs.Steps.{row_of, to_come}
use Rattle.sql_exec.specs.Walks.{Step}
use Rattle.sql_exec.proofs.Going.{all_walked, at_end, begun, come_walk, fewer, first_there, further, kept_walk, no_steps, none_kept, none_there, not_kept}
use Rattle.sql_exec.proofs.ReadyReads.{rows-All, rows-Equal, step_is}
use Rattle.sql_exec.proofs.Searches.{chosen}
use Rattle.sql_exec.proofs.Sums.{next_sum}
use Rattle.sql_exec.proofs.evaluation.+evaluation.Goals as goal

counted : (walk : Walk) (n : ℕ) → n ≡ walk.rows.len → n ≡ length (row_of walk)
counted walk n is = let ok = walk.rows.ok in let same = length-map walk.rows.items (λ (row : Bor AnswerRow). row.now) in omega (arith, is, ok, same)

pub sum-loop-term-preserved : goal.sum-loop-term-preserved
sum-loop-term-preserved t c =
    next_sum (λ term. value term (scopes_seen c.args.own.now c.args.outer.now)) c.args.terms.now c.loop-term.term-index c.term-item.result c.term-item.result
    (value_of c.loop-term.sum) (value_of c.in_ok-term.term) (value_of c.added-sum.result)
    c.loop-term-test.true c.term-item.is c.in_ok-term.ensures c.added-sum.ensures c.loop-term.invariant.0

pub first_scope-returns-then-not-branch-clause-kept : goal.first_scope-returns-then-not-branch-clause-kept
first_scope-returns-then-not-branch-clause-kept t c =
    let seen : List ReadyCond → Scope → Bool = λ conds row. all_keep conds (row ∷ outer_seen c.args.outer.now) in
    let no_rows = ap rows_seen c.as_slice-2.ensures.value ∙ c.new-walk.ensures.row in
    let told = c.in_ok-all_keep.ensures ∙ (λ j. seen (c.as_slice.ensures j) (no_rows j)) in
    none_kept c.args.search.now (outer_seen c.args.outer.now) (sym c.if-not-branch.true ∙ told)

pub first_scope-returns-in_ok-come_to-in-Some-clause-kept : goal.first_scope-returns-in_ok-come_to-in-Some-clause-kept
first_scope-returns-in_ok-come_to-in-Some-clause-kept t c =
    let scopes = outer_seen c.args.outer.now in
    let ss = (out-ReadySearch c.args.search.now).steps in
    let seen : List ReadyCond → Scope → Bool = λ conds row. all_keep conds (row ∷ scopes) in
    let no_rows = ap rows_seen c.as_slice-2.ensures.value ∙ c.new-walk.ensures.row in
    let told = c.in_ok-all_keep.ensures ∙ (λ j. seen (c.as_slice.ensures j) (no_rows j)) in
    let all = all_walked c.args.search.now scopes (sym c.if-not-branch.false ∙ told) in
    let none_yet = ap rows_seen c.as_slice-in-Some.ensures.value ∙ c.new-walk.ensures.row in
    let rows = c.in_ok-rows-in-Some.ensures ∙ ap (λ (row : Scope). (step_at c.in-Some.step.now scopes).0 row) none_yet in
    let first = first_there ss c.in-Some.step.now (c.in-Some.ensures.value ∙ ap (λ (all : List ReadyStep). slice_get all 0) c.as_slice-3.ensures) in
    let begin = begun ss scopes c.in-Some.step.now c.in_ok-rows-in-Some.rows.now c.come_to.new.self first.0 first.1 rows
    (c.in_ok-come_to-in-Some.ensures.row ∙ c.new-walk.ensures.row)
    (c.in_ok-come_to-in-Some.ensures.left ∙ ap (λ (left : List (List AnswerRow)). left ++ c.in_ok-rows-in-Some.rows.now ∷ []) c.new-walk.ensures.left) in
    subst (λ (scopes_due : List Scope). IfOk c.next_scope.result (λ next. to_come (steps_at ss scopes) next ≡ scopes_due)) (begin ∙ all) c.next_scope.ensures.come

pub first_scope-returns-in-None-clause-kept : goal.first_scope-returns-in-None-clause-kept
first_scope-returns-in-None-clause-kept t c =
    let scopes = outer_seen c.args.outer.now in
    let ss = (out-ReadySearch c.args.search.now).steps in
    let seen : List ReadyCond → Scope → Bool = λ conds row. all_keep conds (row ∷ scopes) in
    let no_rows = ap rows_seen c.as_slice-2.ensures.value ∙ c.new-walk.ensures.row in
    let told = c.in_ok-all_keep.ensures ∙ (λ j. seen (c.as_slice.ensures j) (no_rows j)) in
    let all = all_walked c.args.search.now scopes (sym c.if-not-branch.false ∙ told) in
    let none = none_there ss (c.in-None.ensures.value ∙ ap (λ (all : List ReadyStep). slice_get all 0) c.as_slice-3.ensures) in
    no_steps ss scopes c.new-walk.result none c.new-walk.ensures.row ∙ all

pub next_scope-loop-walk-preserved-then-not-branch : goal.next_scope-loop-walk-preserved-then-not-branch
next_scope-loop-walk-preserved-then-not-branch t c =
    let scopes = outer_seen c.args.outer.now in
    let ss = (out-ReadySearch c.args.search.now).steps in
    let new = c.choose_next.new.self in
    let chosen = c.in_ok-choose_next.ensures.chosen c.if-branch.true in
    let seen : List ReadyCond → Scope → Bool = λ conds row. all_keep conds (row ∷ scopes) in
    let told = c.in_ok-all_keep.ensures ∙ (λ j. seen (c.as_slice.ensures j) (rows_seen (c.as_slice-in-loop-walk.ensures.value j))) ∙ ap (λ (step : ReadyStep). seen step.tests (row_of new)) (sym c.index-steps-chosen.is) in
    let is = c.index-steps-chosen.is ∙ ap (λ (all : List ReadyStep). get_or all (c.len-chosen.result - 1) c.index-steps-chosen.result) c.as_slice-steps.ensures in
    record {
      walk = kept_walk ss scopes c.loop-walk.walk new c.loop-walk.invariant.walk chosen;
      come = c.loop-walk.invariant.come ∙ not_kept ss scopes c.loop-walk.walk new c.loop-walk.invariant.walk chosen c.len-chosen.result c.index-steps-chosen.result c.in_ok-all_keep.field-0
          (counted new c.len-chosen.result c.len-chosen.ensures) is told c.if-not-branch.true;
    }

pub next_scope-returns-then-chosen-steps-clause-come : goal.next_scope-returns-then-chosen-steps-clause-come
next_scope-returns-then-chosen-steps-clause-come t c =
    let scopes = outer_seen c.args.outer.now in
    let ss = (out-ReadySearch c.args.search.now).steps in
    let new = c.choose_next.new.self in
    let chosen = c.in_ok-choose_next.ensures.chosen c.if-branch.true in
    let seen : List ReadyCond → Scope → Bool = λ conds row. all_keep conds (row ∷ scopes) in
    let told = c.in_ok-all_keep.ensures ∙ (λ j. seen (c.as_slice.ensures j) (rows_seen (c.as_slice-in-loop-walk.ensures.value j))) ∙ ap (λ (step : ReadyStep). seen step.tests (row_of new)) (sym c.index-steps-chosen.is) in
    let is = c.index-steps-chosen.is ∙ ap (λ (all : List ReadyStep). get_or all (c.len-chosen.result - 1) c.index-steps-chosen.result) c.as_slice-steps.ensures in
    sym (c.loop-walk.invariant.come ∙ at_end ss scopes c.loop-walk.walk new c.loop-walk.invariant.walk chosen c.len-chosen.result c.index-steps-chosen.result c.in_ok-all_keep.field-0
    (counted new c.len-chosen.result c.len-chosen.ensures) is told c.if-not-branch.false (c.if-chosen-steps.true ∙ ap length c.as_slice-steps.ensures))

pub next_scope-loop-walk-smaller : goal.next_scope-loop-walk-smaller
next_scope-loop-walk-smaller t c =
    let scopes = outer_seen c.args.outer.now in
    let ss = (out-ReadySearch c.args.search.now).steps in
    let new = c.choose_next.new.self in
    let chosen = c.in_ok-choose_next.ensures.chosen c.if-branch.true in
    let seen : List ReadyCond → Scope → Bool = λ conds row. all_keep conds (row ∷ scopes) in
    let told = c.in_ok-all_keep.ensures ∙ (λ j. seen (c.as_slice.ensures j) (rows_seen (c.as_slice-in-loop-walk.ensures.value j))) ∙ ap (λ (step : ReadyStep). seen step.tests (row_of new)) (sym c.index-steps-chosen.is) in
    let is = c.index-steps-chosen.is ∙ ap (λ (all : List ReadyStep). get_or all (c.len-chosen.result - 1) c.index-steps-chosen.result) c.as_slice-steps.ensures in
    let is_next = c.index-steps-chosen-in-loop-walk.is ∙ ap (λ (all : List ReadyStep). get_or all c.len-chosen.result c.index-steps-chosen-in-loop-walk.result) c.as_slice-steps.ensures in
    let rows = c.in_ok-rows.ensures ∙ ap (λ (own : List (Bor AnswerRow)). (step_at c.index-steps-chosen-in-loop-walk.result scopes).0 (rows_seen own)) c.as_slice-in-loop-walk-2.ensures.value in
    fewer ss scopes c.loop-walk.walk new c.loop-walk.invariant.walk chosen c.len-chosen.result c.index-steps-chosen.result c.in_ok-all_keep.field-0
    (counted new c.len-chosen.result c.len-chosen.ensures) is told c.index-steps-chosen-in-loop-walk.result c.in_ok-rows.rows.now c.come_to.new.self c.if-not-branch.false (λ all. c.if-chosen-steps.false (all ∙ sym (ap length c.as_slice-steps.ensures))) is_next rows c.in_ok-come_to.ensures.row c.in_ok-come_to.ensures.left

pub next_scope-loop-walk-preserved : goal.next_scope-loop-walk-preserved
next_scope-loop-walk-preserved t c =
    let scopes = outer_seen c.args.outer.now in
    let ss = (out-ReadySearch c.args.search.now).steps in
    let new = c.choose_next.new.self in
    let chosen = c.in_ok-choose_next.ensures.chosen c.if-branch.true in
    let seen : List ReadyCond → Scope → Bool = λ conds row. all_keep conds (row ∷ scopes) in
    let told = c.in_ok-all_keep.ensures ∙ (λ j. seen (c.as_slice.ensures j) (rows_seen (c.as_slice-in-loop-walk.ensures.value j))) ∙ ap (λ (step : ReadyStep). seen step.tests (row_of new)) (sym c.index-steps-chosen.is) in
    let is = c.index-steps-chosen.is ∙ ap (λ (all : List ReadyStep). get_or all (c.len-chosen.result - 1) c.index-steps-chosen.result) c.as_slice-steps.ensures in
    let is_next = c.index-steps-chosen-in-loop-walk.is ∙ ap (λ (all : List ReadyStep). get_or all c.len-chosen.result c.index-steps-chosen-in-loop-walk.result) c.as_slice-steps.ensures in
    let rows = c.in_ok-rows.ensures ∙ ap (λ (own : List (Bor AnswerRow)). (step_at c.index-steps-chosen-in-loop-walk.result scopes).0 (rows_seen own)) c.as_slice-in-loop-walk-2.ensures.value in
    record {
      walk = come_walk ss scopes c.loop-walk.walk new c.loop-walk.invariant.walk chosen c.len-chosen.result c.index-steps-chosen.result c.in_ok-all_keep.field-0
          (counted new c.len-chosen.result c.len-chosen.ensures) is told c.index-steps-chosen-in-loop-walk.result c.in_ok-rows.rows.now c.come_to.new.self c.if-not-branch.false (λ all. c.if-chosen-steps.false (all ∙ sym (ap length c.as_slice-steps.ensures))) is_next rows c.in_ok-come_to.ensures.row c.in_ok-come_to.ensures.left;
      come = c.loop-walk.invariant.come ∙ further ss scopes c.loop-walk.walk new c.loop-walk.invariant.walk chosen c.len-chosen.result c.index-steps-chosen.result c.in_ok-all_keep.field-0
          (counted new c.len-chosen.result c.len-chosen.ensures) is told c.index-steps-chosen-in-loop-walk.result c.in_ok-rows.rows.now c.come_to.new.self c.if-not-branch.false (λ all. c.if-chosen-steps.false (all ∙ sym (ap length c.as_slice-steps.ensures))) is_next rows c.in_ok-come_to.ensures.row c.in_ok-come_to.ensures.left;
    }

pub step_rows-returns-in-All : goal.step_rows-returns-in-All
step_rows-returns-in-All t c =
    let scopes = outer_seen c.args.outer.now in
    let row = rows_seen c.args.own.now in
    c.as_slice.ensures ∙ sym (ap (λ (s : Step AnswerRow). s.0 row) (step_is c.args.step.now scopes) ∙ ap (λ (rows : ReadyRows). row_choice rows (row ∷ scopes)) c.in-All.is ∙ rows-All c.in-All.rows (row ∷ scopes))

pub step_rows-returns-in_ok-cell-in-Equal : goal.step_rows-returns-in_ok-cell-in-Equal
step_rows-returns-in_ok-cell-in-Equal t c =
    let scopes = outer_seen c.args.outer.now in
    let row = rows_seen c.args.own.now in
    let is = ap (λ (s : Step AnswerRow). s.0 row) (step_is c.args.step.now scopes) ∙ ap (λ (rows : ReadyRows). row_choice rows (row ∷ scopes)) c.in-Equal.is ∙ rows-Equal c.in-Equal.nulls c.in-Equal.scalar c.in-Equal.groups (row ∷ scopes) in
    subst (λ (rows : List AnswerRow). IfOk c.equal_to.result (λ made. made.now ≡ rows)) (ap (rows_found c.in-Equal.groups c.in-Equal.nulls) c.in_ok-cell-in-Equal.ensures ∙ sym is) c.equal_to.ensures

pub choice-returns-in-Some : goal.choice-returns-in-Some
choice-returns-in-Some t c =
    let scopes = scopes_seen c.args.own.now c.args.outer.now in
    let same = c.in_ok-value-in-Case.ensures ∙ ap (λ ws. first_some (map (λ w. when_value w scopes) ws)) c.as_slice.ensures in
    let all = chosen c.args.scalar.now c.in-Case.whens c.in-Case.last scopes _ c.in-Case.is same in
    sym (ap (λ found. or_else (found_value found) (value c.in-Case.last scopes)) c.in-Some.is) ∙ all

pub choice-returns-in-None : goal.choice-returns-in-None
choice-returns-in-None t c =
    let scopes = scopes_seen c.args.own.now c.args.outer.now in
    let same = c.in_ok-value-in-Case.ensures ∙ ap (λ ws. first_some (map (λ w. when_value w scopes) ws)) c.as_slice.ensures in
    let all = chosen c.args.scalar.now c.in-Case.whens c.in-Case.last scopes _ c.in-Case.is same in
    let none = sym (ap (λ found. or_else (found_value found) (value c.in-Case.last scopes)) c.in-None.is) ∙ all in
    subst (λ v. IfOk c.scalar_cell.result (λ cell. value_of cell ≡ v)) (ap (λ s. value s scopes) c.get.ensures ∙ none) c.scalar_cell.ensures
