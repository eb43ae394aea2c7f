use Rattle.query_grammar.specs.Rules.{preference_rule}
use Rattle.query_grammar.specs.ReadPreferences.{primary, primaries, pareto, cascade}
use Rattle.token_forms.proofs.Turns.{pushed_more, pushed_less, nested_none, nested_some}
use Rattle.query_grammar.proofs.Predictive.{agrees, predictive-primary, predictive-pareto}
use Rattle.preference_reader.proofs.reader.PreferenceReader.+preference.Goals as goal

pub primaries-more-smaller : goal.primaries-more-smaller
primaries-more-smaller t c = pushed_less agrees c.args.self.depth _ primary predictive-primary _ _ c.primary-in-more.new.tokens c.more.found _ c.primary-in-more.result c.more-test.ensures.1 c.in_ok-found-2.ensures c.primary-in-more.ensures

pub primaries-more-preserved : goal.primaries-more-preserved
unfolding primaries
primaries-more-preserved t c = pushed_more agrees c.args.self.depth _ primary predictive-primary c.more.tokens c.eat_word.new.self c.primary-in-more.new.tokens c.more.found _ c.primary-in-more.result c.more.invariant c.more-test.ensures c.in_ok-found-2.ensures c.primary-in-more.ensures

pub cascade-more-smaller : goal.cascade-more-smaller
cascade-more-smaller t c = pushed_less agrees c.args.self.depth _ pareto predictive-pareto _ _ c.pareto-in-more.new.tokens c.more.found _ c.pareto-in-more.result c.more-test.ensures.1 c.in_ok-found-2.ensures c.pareto-in-more.ensures

pub cascade-more-preserved : goal.cascade-more-preserved
unfolding cascade
cascade-more-preserved t c = pushed_more agrees c.args.self.depth _ pareto predictive-pareto c.more.tokens c.eat_word.new.self c.pareto-in-more.new.tokens c.more.found _ c.pareto-in-more.result c.more.invariant c.more-test.ensures c.in_ok-found-2.ensures c.pareto-in-more.ensures

pub nested_preference-returns-then-self-eq0 : goal.nested_preference-returns-then-self-eq0
nested_preference-returns-then-self-eq0 t c = nested_none agrees c.args.self.depth c.if-self-eq0.true preference_rule c.args.tokens.now

pub nested_preference-returns : goal.nested_preference-returns
nested_preference-returns t c = rw (nested_some agrees c.args.self.depth c.if-self-eq0.false preference_rule c.args.tokens.now) c.preference.ensures
