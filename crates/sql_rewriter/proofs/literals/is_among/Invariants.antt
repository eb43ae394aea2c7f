use Rattle.std.proofs.Common.{◌≡◌, map, take}
use Rattle.rewritten_query.specs.Leaves.{literal}
use Rattle.sql_rewriter.proofs.literals.is_among.Given as goal

abbrev pub invariant-loop-value : goal.invariant-loop-value
invariant-loop-value l = l.list ≡ map literal (take l.value-index l.values)
