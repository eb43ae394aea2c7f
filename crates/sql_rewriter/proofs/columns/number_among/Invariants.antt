use Rattle.std.proofs.Common.{◌≡◌, ◌+◌, drop}
use Rattle.rewritten_query.specs.Columns.{number_among}
use Rattle.sql_rewriter.proofs.columns.number_among.Given as goal

abbrev pub invariant-loop-other : goal.invariant-loop-other
invariant-loop-other l = record {
  counted : l.number ≡ l.other-index;
  rest : l.number + number_among (drop l.other-index l.places) l.place ≡ number_among l.places l.place;
}
