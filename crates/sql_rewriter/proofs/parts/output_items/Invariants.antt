use Rattle.std.proofs.Common.{◌≡◌, take}
use Rattle.rewritten_query.specs.Rewriting.{output_items}
use Rattle.sql_rewriter.specs.Shown.{column_shown, quality_shown}
use Rattle.sql_rewriter.proofs.parts.output_items.Given as goal

abbrev pub invariant-loop-output : goal.invariant-loop-output
invariant-loop-output l = l.items ≡ output_items (column_shown l.shown) (quality_shown l.shown) (take l.output-index l.outputs)
