use Rattle.token_forms.specs.Columns.{order, orders}
use Rattle.token_forms.proofs.Plain.{no_productions, plain-order}
use Rattle.token_forms.proofs.Turns.{pushed_more, pushed_less}
use Rattle.token_forms.proofs.cursor.Cursor.order_items.Goals as goal

pub more-smaller : goal.more-smaller
more-smaller c = pushed_less no_productions 0 _ order plain-order _ _ c.order_item-in-more.new.self c.more.found _ c.order_item-in-more.result c.more-test.ensures.1 c.in_ok-found-2.ensures c.order_item-in-more.ensures

pub more-preserved : goal.more-preserved
unfolding orders
more-preserved c = pushed_more no_productions 0 _ order plain-order c.more.self c.eat_symbol.new.self c.order_item-in-more.new.self c.more.found _ c.order_item-in-more.result c.more.invariant c.more-test.ensures c.in_ok-found-2.ensures c.order_item-in-more.ensures
