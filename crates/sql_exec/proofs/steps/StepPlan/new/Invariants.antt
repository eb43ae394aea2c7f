use Rattle.std.proofs.Common.{◌≡◌, All, length}
use Rattle.sql_exec.proofs.Planning.{IsIdle}
use Rattle.sql_exec.proofs.steps.StepPlan.new.Given as goal

abbrev pub invariant-loop-item : goal.invariant-loop-item
invariant-loop-item l = record {
  count : length l.items.items ≡ l._item;
  idle : All IsIdle l.items.items;
}
