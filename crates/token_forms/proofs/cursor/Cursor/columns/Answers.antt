use Rattle.token_forms.specs.Columns.{column, columns}
use Rattle.token_forms.proofs.Plain.{no_productions, plain-column}
use Rattle.token_forms.proofs.Turns.{pushed_more, pushed_less}
use Rattle.token_forms.proofs.cursor.Cursor.columns.Goals as goal

pub more-smaller : goal.more-smaller
more-smaller c = pushed_less no_productions 0 _ column plain-column _ _ c.column-in-more.new.self c.more.found _ c.column-in-more.result c.more-test.ensures.1 c.in_ok-found-2.ensures c.column-in-more.ensures

pub more-preserved : goal.more-preserved
unfolding columns
more-preserved c = pushed_more no_productions 0 _ column plain-column c.more.self c.eat_symbol.new.self c.column-in-more.new.self c.more.found _ c.column-in-more.result c.more.invariant c.more-test.ensures c.in_ok-found-2.ensures c.column-in-more.ensures
