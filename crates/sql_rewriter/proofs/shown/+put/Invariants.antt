use Rattle.std.proofs.Common.{◌≡◌, map, take}
use Rattle.rewritten_query.specs.Conditions.{cond_put}
use Rattle.sql_rewriter.specs.Shown.{column_shown, quality_shown}
use Rattle.sql_rewriter.proofs.shown.+put.Given as goal

abbrev pub invariant-put_conds-loop-cond : goal.invariant-put_conds-loop-cond
invariant-put_conds-loop-cond l = l.put ≡ map (cond_put (column_shown l.shown) (quality_shown l.shown)) (take l.cond-index l.conds)
