use Rattle.query_grammar.specs.Items.{item, items}
use Rattle.token_forms.proofs.Turns.{pushed_more, pushed_less}
use Rattle.query_grammar.proofs.Predictive.{agrees, predictive-item}
use Rattle.query_reader.proofs.parser.Parser.items.Goals as goal

pub more-smaller : goal.more-smaller
more-smaller c = pushed_less agrees c.args.self.depth _ (item) (predictive-item) _ _ c.item-in-more.new.tokens c.more.found _ c.item-in-more.result c.more-test.ensures.1 c.in_ok-found-2.ensures c.item-in-more.ensures

pub more-preserved : goal.more-preserved
unfolding items
more-preserved c = pushed_more agrees c.args.self.depth _ (item) (predictive-item) c.more.tokens c.eat_symbol.new.self c.item-in-more.new.tokens c.more.found _ c.item-in-more.result c.more.invariant c.more-test.ensures c.in_ok-found-2.ensures c.item-in-more.ensures
