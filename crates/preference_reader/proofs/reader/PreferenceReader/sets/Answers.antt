use Rattle.query_grammar.specs.Sets.{set, sets}
use Rattle.token_forms.proofs.Turns.{pushed_more, pushed_less}
use Rattle.query_grammar.proofs.Predictive.{agrees, predictive-set}
use Rattle.preference_reader.proofs.reader.PreferenceReader.sets.Goals as goal

pub more-smaller : goal.more-smaller
more-smaller c = pushed_less agrees c.args.self.depth _ (set) (predictive-set) _ _ c.set-in-more.new.tokens c.more.found _ c.set-in-more.result c.more-test.ensures.1 c.in_ok-found-2.ensures c.set-in-more.ensures

pub more-preserved : goal.more-preserved
unfolding sets
more-preserved c = pushed_more agrees c.args.self.depth _ (set) (predictive-set) c.more.tokens c.eat_symbol.new.self c.set-in-more.new.tokens c.more.found _ c.set-in-more.result c.more.invariant c.more-test.ensures c.in_ok-found-2.ensures c.set-in-more.ensures
