use Rattle.std.proofs.Common.{◌≡◌, Some, drop}
use Rattle.sql_resolver.specs.Found.{added, sum_bound}
use Rattle.sql_resolver.proofs.scalars.sum_bound.Given as goal

abbrev pub invariant-loop-term : goal.invariant-loop-term
invariant-loop-term l = record {
  small : added l.bound (Some 0) ≡ l.bound;
  rest : added l.bound (sum_bound (drop l.term-index l.terms)) ≡ sum_bound l.terms;
}
