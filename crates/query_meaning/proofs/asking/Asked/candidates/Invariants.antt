use Rattle.std.proofs.Common.{◌≡◌, take}
use Rattle.query_meaning.specs.Answers.{row_counts}
use Rattle.query_meaning.proofs.asking.Asked.candidates.Given as goal

abbrev pub invariant-loop-table : goal.invariant-loop-table
invariant-loop-table l = l.limits.items ≡ row_counts l.self.tables.now (take l.table-index l.table-items)
