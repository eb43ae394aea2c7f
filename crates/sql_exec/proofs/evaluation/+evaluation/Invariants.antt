use Rattle.std.proofs.Common.{◌≡◌, [], pos, map, drop, length}
use Rattle.std.specs.List.{list_all}
use Rattle.prefsql_values.specs.Truth.{both_true, either_true, all_true, any_true}
use Rattle.prefsql_values.specs.Value.{one_of, value_of}
use Rattle.prefsql_values.specs.declared.value.Value.TheVariants.{Num}
use Rattle.sql_tree.specs.Meaning.{added, first_some, sum_of}
use Rattle.sql_exec.specs.Ready.{keeps, steps_at, truth, value, when_value}
use Rattle.sql_exec.specs.Seen.{outer_seen, scopes_seen}
use Rattle.sql_exec.specs.Steps.{IsWalk, left_of, row_of}
use Rattle.sql_exec.specs.Walks.{found, pending, tries}
use Rattle.sql_exec.specs.Wrapping.{wrapped, wrapped_sum}
use Rattle.sql_exec.specs.declared.ready.ReadySearch.{out-ReadySearch}
use Rattle.sql_exec.proofs.evaluation.+evaluation.Given as goal

abbrev pub invariant-first_true-loop-when : goal.invariant-first_true-loop-when
invariant-first_true-loop-when l =
    let values = map (λ w. when_value w (scopes_seen l.own l.outer)) in
    first_some (values l.whens) ≡ first_some (values (drop l.when-index l.whens))

abbrev pub invariant-sum-loop-term : goal.invariant-sum-loop-term
invariant-sum-loop-term l =
    let values = map (λ term. value term (scopes_seen l.own l.outer)) in
    (wrapped_sum (values l.terms) ≡ wrapped (added (value_of l.sum) (sum_of (values (drop l.term-index l.terms))))) × (value_of l.sum ≡ wrapped (added (value_of l.sum) (Num (pos 0))))

abbrev pub invariant-all_hold-loop-part : goal.invariant-all_hold-loop-part
invariant-all_hold-loop-part l =
    let truths = map (λ part. truth part (scopes_seen l.own l.outer)) in
    all_true (truths l.parts) ≡ both_true l.so_far (all_true (truths (drop l.part-index l.parts)))

abbrev pub invariant-any_holds-loop-part : goal.invariant-any_holds-loop-part
invariant-any_holds-loop-part l =
    let truths = map (λ part. truth part (scopes_seen l.own l.outer)) in
    any_true (truths l.parts) ≡ either_true l.so_far (any_true (truths (drop l.part-index l.parts)))

abbrev pub invariant-is_one_of-loop-item : goal.invariant-is_one_of-loop-item
invariant-is_one_of-loop-item l =
    let values = map (λ b. value b (scopes_seen l.own l.outer)) in
    one_of (value_of l.cell) (values l.list) ≡ either_true l.so_far (one_of (value_of l.cell) (values (drop l.item-index l.list)))

abbrev pub invariant-all_keep-loop-cond : goal.invariant-all_keep-loop-cond
invariant-all_keep-loop-cond l =
    let passes = list_all (λ cond. keeps cond (scopes_seen l.own l.outer)) in
    passes l.conds ≡ passes (drop l.cond-index l.conds)

abbrev pub invariant-next_scope-loop-walk : goal.invariant-next_scope-loop-walk
invariant-next_scope-loop-walk l =
    let steps = steps_at (out-ReadySearch l.search).steps (outer_seen l.outer) in
    record {
      walk : IsWalk (length (out-ReadySearch l.search).steps) l.walk;
      come : pending found steps [] (row_of l.fn.walk) (left_of l.fn.walk) ≡ pending found steps [] (row_of l.walk) (left_of l.walk);
    }

abbrev pub decreases-next_scope-loop-walk : goal.decreases-next_scope-loop-walk
decreases-next_scope-loop-walk l =
    length (pending tries (steps_at (out-ReadySearch l.search).steps (outer_seen l.outer)) [] (row_of l.walk) (left_of l.walk))
