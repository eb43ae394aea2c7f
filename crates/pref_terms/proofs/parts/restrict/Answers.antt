use Rattle.pref_terms.proofs.PartReads.{leaves-left, none-left}
use Rattle.pref_terms.proofs.parts.restrict.Goals as goal

pub returns-clause-leaves : goal.returns-clause-leaves
returns-clause-leaves c = leaves-left c.args.table c.args.term.now _ c.in_ok-left.ensures

pub returns-clause-none : goal.returns-clause-none
returns-clause-none c = none-left c.args.table c.args.term.now _ c.in_ok-left.ensures
