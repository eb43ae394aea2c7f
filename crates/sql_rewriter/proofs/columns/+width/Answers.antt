use Rattle.sql_rewriter.proofs.Widths.{width-Pareto, width-Prior}
use Rattle.sql_rewriter.proofs.columns.+width.Goals as goal

pub returns-in-Pareto-clause-value : goal.returns-in-Pareto-clause-value
returns-in-Pareto-clause-value t c =
    width-Pareto c.args.term.now c.in-Pareto.first c.in-Pareto.second c.width.result c.width-in-Pareto.result c.args.count c.leaf_count-passed.result c.in-Pareto.is
    (rw c.get.ensures at c.leaf_count-passed.ensures) (rw c.get-in-Pareto.ensures at c.width.ensures.value) (rw (c.get-in-Pareto-2.ensures, c.saturating_sub.ensures) at c.width-in-Pareto.ensures.value)

pub returns-in-Prior-clause-value : goal.returns-in-Prior-clause-value
returns-in-Prior-clause-value t c =
    width-Prior c.args.term.now c.in-Prior.first c.in-Prior.second c.width-in-Prior.result c.width-in-Prior-2.result c.args.count c.leaf_count-passed-in-Prior.result c.in-Prior.is
    (rw c.get-in-Prior.ensures at c.leaf_count-passed-in-Prior.ensures) (rw c.get-in-Prior-2.ensures at c.width-in-Prior.ensures.value) (rw (c.get-in-Prior-3.ensures, c.saturating_sub-in-Prior.ensures) at c.width-in-Prior-2.ensures.value)
