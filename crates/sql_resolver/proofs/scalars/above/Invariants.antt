use Rattle.std.proofs.Common.{◌≡◌, ◌≤◌, drop}
use Rattle.sql_resolver.specs.Found.{above}
use Rattle.sql_resolver.specs.Owed.{max_bound}
use Rattle.sql_resolver.proofs.scalars.above.Given as goal

abbrev pub invariant-loop-term : goal.invariant-loop-term
invariant-loop-term l = record {
  small : l.total ≤ max_bound;
  rest : above l.total (drop l.term-index l.terms) ≡ above 0 l.terms;
}
