use Rattle.std.proofs.Common.{◌≡◌, ◌+◌, ◌≤◌, [], List, length}
use Rattle.prefsql_tables.specs.declared.table.AnswerRow.{AnswerRow}
use Rattle.sql_exec.specs.Steps.{left_of, row_of}
use Rattle.sql_exec.specs.Walks.{Step, found, pending, tries}
use Rattle.sql_exec.proofs.walk.Walk.choose_next.Given as goal

abbrev pub invariant-loop-rows : goal.invariant-loop-rows
invariant-loop-rows l = record {
  near : length (left_of l.self) ≤ length (row_of l.self) + 1;
  within : length (left_of l.self) ≤ length (left_of l.fn.self);
  found : (steps : List (Step AnswerRow)) → pending found steps [] (row_of l.fn.self) (left_of l.fn.self) ≡ pending found steps [] (row_of l.self) (left_of l.self);
  tries : (steps : List (Step AnswerRow)) → pending tries steps [] (row_of l.fn.self) (left_of l.fn.self) ≡ pending tries steps [] (row_of l.self) (left_of l.self);
}

abbrev pub decreases-loop-rows : goal.decreases-loop-rows
decreases-loop-rows l = length (left_of l.self)
