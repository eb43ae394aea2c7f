use Rattle.query_typing.proofs.TermReads.{turned_part}
use Rattle.query_typing.proofs.leaf.+term.Goals as goal

pub term-returns-in_ok-new-in-Dual : goal.term-returns-in_ok-new-in-Dual
term-returns-in_ok-new-in-Dual t c =
    turned_part c.args.pref.now c.in-Dual.part c.get.result.now c.args.leaves.now.items c.term.new.leaves.items c.in_ok-inner-in-Dual.inner c.in_ok-new-in-Dual.field-0
    c.in-Dual.is c.get.ensures c.in_ok-inner-in-Dual.ensures c.in_ok-new-in-Dual.ensures
