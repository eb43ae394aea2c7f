use Rattle.std.proofs.Common.{◌≡◌, map, take}
use Rattle.rewritten_query.specs.Conditions.{scalar_put}
use Rattle.sql_rewriter.specs.Shown.{column_shown, quality_shown}
use Rattle.sql_rewriter.proofs.shown.put_scalars.Given as goal

abbrev pub invariant-loop-scalar : goal.invariant-loop-scalar
invariant-loop-scalar l = l.put ≡ map (scalar_put (column_shown l.shown) (quality_shown l.shown)) (take l.scalar-index l.scalars)
