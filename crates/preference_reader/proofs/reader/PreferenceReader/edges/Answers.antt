use Rattle.query_grammar.specs.Sets.{edge, edges}
use Rattle.token_forms.proofs.Turns.{pushed_more, pushed_less}
use Rattle.query_grammar.proofs.Predictive.{agrees, predictive-edge}
use Rattle.preference_reader.proofs.reader.PreferenceReader.edges.Goals as goal

pub more-smaller : goal.more-smaller
more-smaller c = pushed_less agrees c.args.self.depth _ (edge) (predictive-edge) _ _ c.edge-in-more.new.tokens c.more.found _ c.edge-in-more.result c.more-test.ensures.1 c.in_ok-found-2.ensures c.edge-in-more.ensures

pub more-preserved : goal.more-preserved
unfolding edges
more-preserved c = pushed_more agrees c.args.self.depth _ (edge) (predictive-edge) c.more.tokens c.eat_symbol.new.self c.edge-in-more.new.tokens c.more.found _ c.edge-in-more.result c.more.invariant c.more-test.ensures c.in_ok-found-2.ensures c.edge-in-more.ensures
