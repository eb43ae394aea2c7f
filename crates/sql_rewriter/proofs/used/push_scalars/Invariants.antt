use Rattle.std.proofs.Common.{◌≡◌, ◌++◌, take}
use Rattle.std.specs.List.{flat_map}
use Rattle.rewritten_query.specs.Columns.{own_column}
use Rattle.sql_rewriter.proofs.used.push_scalars.Given as goal

abbrev pub invariant-loop-scalar : goal.invariant-loop-scalar
invariant-loop-scalar l = l.places ≡ l.initial.places ++ flat_map own_column (take l.scalar-index l.scalars)
