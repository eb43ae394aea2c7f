use Rattle.std.proofs.Common.{◌≡◌, ◌∷◌, map, take}
use Rattle.std.specs.List.{list_all}
use Rattle.prefsql_values.specs.Truth.{is_true}
use Rattle.sql_exec.specs.Planned.{JudgesToo, item_count}
use Rattle.sql_exec.specs.Wrapping.{from_rows, item_value, term_value, truth_in, value_in}
use Rattle.sql_exec.specs.Wrapping as meaning
use Rattle.sql_exec.specs.Ready.{truth, value, when_value}
use Rattle.sql_exec.proofs.preparing.+preparing.Given as goal

abbrev pub invariant-ready_conds-loop-cond : goal.invariant-ready_conds-loop-cond
invariant-ready_conds-loop-cond l = map truth l.ready ≡ map (truth_in l.tables) (take l.cond-index l.conds)

abbrev pub invariant-ready_scalars-loop-scalar : goal.invariant-ready_scalars-loop-scalar
invariant-ready_scalars-loop-scalar l = map value l.ready ≡ map (value_in l.tables) (take l.scalar-index l.scalars)

abbrev pub invariant-ready_whens-loop-when : goal.invariant-ready_whens-loop-when
invariant-ready_whens-loop-when l = map when_value l.ready ≡ map (meaning.when_value l.tables) (take l.when-index l.whens)

abbrev pub invariant-ready_terms-loop-term : goal.invariant-ready_terms-loop-term
invariant-ready_terms-loop-term l = map value l.ready ≡ map (term_value l.tables) (take l.term-index l.terms)

abbrev pub invariant-ready_items-loop-item : goal.invariant-ready_items-loop-item
invariant-ready_items-loop-item l = map value l.ready ≡ map (item_value l.tables) (take l.item-index l.items)

abbrev pub invariant-all_rows-loop-item : goal.invariant-all_rows-loop-item
invariant-all_rows-loop-item l = l.all ≡ map (from_rows l.tables) (take l.item-index l.from)

abbrev pub invariant-judge_all-loop-cond : goal.invariant-judge_all-loop-cond
invariant-judge_all-loop-cond l = record {
  count : item_count l.plan ≡ item_count l.fn.plan;
  judged : JudgesToo (λ scope scopes. list_all (λ cond. is_true (truth_in l.tables cond (scope ∷ scopes))) (take l.cond-index l.conds)) l.fn.plan l.plan;
}
