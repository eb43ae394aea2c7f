use Rattle.std.proofs.Common.{◌≡◌, ◌+◌, ◌∷◌, [], ◌++◌, true, false, get_or, sym, ap, ◌∙◌, arith}
use Rattle.prefsql_values.specs.declared.value.Value.TheVariants.{Null}
use Rattle.base_prefs.specs.Graph.{is_above}
use Rattle.base_prefs.specs.Kind.{edges_of}
use Rattle.sql_tree.specs.declared.tree.SqlScalar.{SqlScalar}
use Rattle.rewritten_query.specs.Leaves.{number}
use Rattle.sql_rewriter.proofs.Codes.{above_is, codes_listed}
use Rattle.sql_rewriter.proofs.rankings.codes_below.Goals as goal
use Rattle.sql_rewriter.proofs.rankings.codes_below.Goals.{then-graph_better+in_ok-push-2, else-graph_better}

pub loop-lower-preserved : goal.loop-lower-preserved
loop-lower-preserved c =
    let edges = edges_of c.args.base.now in
    let values = c.args.values.now in
    let lower = c.loop-lower.lower in
    let passes = is_above edges (get_or values c.args.upper Null) in
    let above = above_is edges values c.args.upper lower c.graph_better.result c.requires.listed c.graph_better.ensures.test in
    let one : lower + 1 ≡ 1 + lower = omega arith in
    elim c.if-graph_better.branch [
      | then-graph_better+in_ok-push-2 w ↦
          codes_listed passes values lower true c.loop-lower.codes c.if-graph_better.codes c.loop-lower-test.true (sym w.if-graph_better.true ∙ above) c.loop-lower.invariant
          (w.codes-is ∙ w.in_ok-push-2.ensures.ok ∙ ap (λ (s : SqlScalar). c.loop-lower.codes ++ s ∷ []) (w.number-then-graph_better.ensures ∙ ap number one))
      | else-graph_better w ↦
          codes_listed passes values lower false c.loop-lower.codes c.if-graph_better.codes c.loop-lower-test.true (sym w.if-graph_better.false ∙ above) c.loop-lower.invariant w.codes-is
    ]
