use Rattle.token_forms.specs.Columns.{literal, literals}
use Rattle.token_forms.proofs.Plain.{no_productions, plain-literal}
use Rattle.token_forms.proofs.Turns.{pushed_more, pushed_less}
use Rattle.token_forms.proofs.cursor.Cursor.literals.Goals as goal

pub more-smaller : goal.more-smaller
more-smaller c = pushed_less no_productions 0 _ literal plain-literal _ _ c.literal-in-more.new.self c.more.found _ c.literal-in-more.result c.more-test.ensures.1 c.in_ok-found-2.ensures c.literal-in-more.ensures

pub more-preserved : goal.more-preserved
unfolding literals
more-preserved c = pushed_more no_productions 0 _ literal plain-literal c.more.self c.eat_symbol.new.self c.literal-in-more.new.self c.more.found _ c.literal-in-more.result c.more.invariant c.more-test.ensures c.in_ok-found-2.ensures c.literal-in-more.ensures
