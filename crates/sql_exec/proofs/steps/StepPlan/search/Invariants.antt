use Rattle.std.proofs.Common.{◌≡◌, ◌++◌, map}
use Rattle.std.specs.Vec.Iter.{into_iter_items}
use Rattle.sql_exec.proofs.Planning.{AreMade}
use Rattle.sql_exec.proofs.steps.StepPlan.search.Given as goal

abbrev pub invariant-loop-rows : goal.invariant-loop-rows
invariant-loop-rows l = record {
  made : AreMade l.steps l.yielded;
  rows : map (λ pair. pair.0) l.yielded ++ into_iter_items l.rows-iterator.a ≡ l.fn.rows;
  items : map (λ pair. pair.1) l.yielded ++ into_iter_items l.rows-iterator.b ≡ l.fn.self.items.items;
}
