use Rattle.std.proofs.Common.{◌≡◌, ◌++◌, take}
use Rattle.std.specs.List.{flat_map}
use Rattle.conditions.specs.Meaning.{scalars_of}
use Rattle.rewritten_query.specs.Columns.{own_column}
use Rattle.sql_rewriter.proofs.used.+push.Given as goal

abbrev pub invariant-push_conds-loop-cond : goal.invariant-push_conds-loop-cond
invariant-push_conds-loop-cond l = l.places ≡ l.initial.places ++ flat_map own_column (flat_map scalars_of (take l.cond-index l.conds))
