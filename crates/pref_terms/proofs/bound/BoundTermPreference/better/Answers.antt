use Rattle.std.proofs.Common.{arith}
use Rattle.pref_terms.specs.TermLaws.{some_leaf}
use Rattle.pref_terms.proofs.bound.BoundTermPreference.better.Goals as goal

pub returns-else-is_same_group-clause-most_steps : goal.returns-else-is_same_group-clause-most_steps
returns-else-is_same_group-clause-most_steps g c = omega (arith, some_leaf c.args.self.now.term.now)
