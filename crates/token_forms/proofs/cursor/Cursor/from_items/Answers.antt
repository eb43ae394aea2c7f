use Rattle.token_forms.specs.Phrases.{from, from_items}
use Rattle.token_forms.proofs.Plain.{no_productions, plain-from}
use Rattle.token_forms.proofs.Turns.{pushed_more, pushed_less}
use Rattle.token_forms.proofs.cursor.Cursor.from_items.Goals as goal

pub more-smaller : goal.more-smaller
more-smaller c = pushed_less no_productions 0 _ from plain-from _ _ c.from_item-in-more.new.self c.more.found _ c.from_item-in-more.result c.more-test.ensures.1 c.in_ok-found-2.ensures c.from_item-in-more.ensures

pub more-preserved : goal.more-preserved
unfolding from_items
more-preserved c = pushed_more no_productions 0 _ from plain-from c.more.self c.eat_symbol.new.self c.from_item-in-more.new.self c.more.found _ c.from_item-in-more.result c.more.invariant c.more-test.ensures c.in_ok-found-2.ensures c.from_item-in-more.ensures
