use Rattle.query_grammar.specs.Scalars.{scalars, scalar}
use Rattle.token_forms.proofs.Turns.{pushed_more, pushed_less}
use Rattle.query_grammar.proofs.Predictive.{agrees, predictive-scalar_form}
use Rattle.condition_reader.proofs.reader.ConditionReader.scalars.Goals as goal

pub more-smaller : goal.more-smaller
more-smaller c = pushed_less agrees c.args.self.depth _ (scalar c.args.self.qualities) (predictive-scalar_form c.args.self.qualities) _ _ c.scalar-in-more.new.tokens c.more.found _ c.scalar-in-more.result c.more-test.ensures.1 c.in_ok-found-2.ensures c.scalar-in-more.ensures

pub more-preserved : goal.more-preserved
unfolding scalars
more-preserved c = pushed_more agrees c.args.self.depth _ (scalar c.args.self.qualities) (predictive-scalar_form c.args.self.qualities) c.more.tokens c.eat_symbol.new.self c.scalar-in-more.new.tokens c.more.found _ c.scalar-in-more.result c.more.invariant c.more-test.ensures c.in_ok-found-2.ensures c.scalar-in-more.ensures
