use Rattle.std.proofs.Common.{◌≡◌, arith}
use Rattle.base_prefs.specs.Kind.{edges_of}
use Rattle.rewritten_query.specs.Names.{of_tables}
use Rattle.sql_rewriter.proofs.Views.{graph_cases, greatest_fits, ok_same}
use Rattle.sql_rewriter.proofs.leaf_ranks.by_graph.Goals as goal

pub overflow_add-greatest : goal.overflow_add-greatest
overflow_add-greatest c =
    let small = greatest_fits (edges_of c.args.base.now) c.args.values.now c.greatest-greatest.result c.requires.listed c.requires.few c.greatest-greatest.ensures in
    omega (arith, small)

pub returns : goal.returns
returns c =
    let at : c.loop-before.before ≡ c.greatest-greatest.result = omega (arith, c.loop-before-test.false) in
    ok_same c.cases.result _ _
    (graph_cases (of_tables c.args.place) (edges_of c.args.base.now) c.args.values.now c.loop-before.whens c.loop-before.before c.greatest-greatest.result c.number-2.result
    c.requires.listed c.requires.some c.greatest-greatest.ensures at c.loop-before.invariant c.number-2.ensures)
    c.cases.ensures
