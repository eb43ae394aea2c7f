use Rattle.std.proofs.Common.{◌≡◌, map, take}
use Rattle.rewritten_query.specs.Rankings.{group_cond}
use Rattle.sql_rewriter.proofs.rewriting.rival_conds.Given as goal

abbrev pub invariant-loop-group : goal.invariant-loop-group
invariant-loop-group l = l.conds ≡ map (group_cond l.places l.block.from) (take l.group-index l.group-items)
