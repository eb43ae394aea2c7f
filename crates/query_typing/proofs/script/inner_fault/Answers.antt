use Rattle.std.proofs.Common.{All, sym, subst}
use Rattle.query_typing.specs.InOrder.{IsInOrder}
use Rattle.query_typing.proofs.InOrderLaws.{prefer_in_order}
use Rattle.query_typing.proofs.script.inner_fault.Goals as goal

pub bases_fault-requires : goal.bases_fault-requires
bases_fault-requires c = subst (All IsInOrder) (sym c.requires.bases) (prefer_in_order c.args.tree.now c.requires.well_made)
