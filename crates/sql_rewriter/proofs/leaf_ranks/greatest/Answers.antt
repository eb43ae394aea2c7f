use Rattle.std.proofs.Common.{◌∙◌, ap, max}
use Rattle.base_prefs.specs.Kind.{edges_of}
use Rattle.sql_rewriter.proofs.Views.{levels_more}
use Rattle.sql_rewriter.proofs.leaf_ranks.greatest.Goals as goal

pub loop-value-preserved : goal.loop-value-preserved
loop-value-preserved c =
    c.max-greatest.ensures
    ∙ ap (max c.loop-value.greatest) c.level.ensures
    ∙ levels_more (edges_of c.args.base.now) c.args.values.now c.loop-value.value-index c.value-item.result c.loop-value-test.true c.value-item.is c.loop-value.greatest c.loop-value.invariant
