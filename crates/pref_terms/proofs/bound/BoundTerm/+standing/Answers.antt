use Rattle.std.proofs.Common.{rules, arith}
use Rattle.pref_terms.specs.declared.term.Term.TheViews.{the_lemmas}
use Rattle.pref_terms.proofs.Standings.{LeavesFit-Leaf, LeavesFit-Pareto_first, LeavesFit-Pareto_second, LeavesFit-Prior_first, LeavesFit-Prior_second, LeavesFit-Dual, width-Pareto, width-Prior}
use Rattle.pref_terms.proofs.bound.BoundTerm.+standing.Goals as goal

pub leaf_standing-requires-clause-a_fits : goal.leaf_standing-requires-clause-a_fits
leaf_standing-requires-clause-a_fits g t c = LeavesFit-Leaf c.args.self.now.tables.now c.args.self.now.from.now c.args.self.now.first c.args.a.now.rows c.args.term.now c.in-Leaf.leaf c.in-Leaf.is c.requires.a_fits

pub leaf_standing-requires-clause-b_fits : goal.leaf_standing-requires-clause-b_fits
leaf_standing-requires-clause-b_fits g t c = LeavesFit-Leaf c.args.self.now.tables.now c.args.self.now.from.now c.args.self.now.first c.args.b.now.rows c.args.term.now c.in-Leaf.leaf c.in-Leaf.is c.requires.b_fits

pub standing-requires : goal.standing-requires
standing-requires g t c κs within = (
  search (rules, the_lemmas),
  (
    within,
    (
      rw c.get.ensures (LeavesFit-Pareto_first c.args.self.now.tables.now c.args.self.now.from.now c.args.self.now.first c.args.a.now.rows c.args.term.now c.in-Pareto.first c.in-Pareto.second c.in-Pareto.is c.requires.a_fits),
      rw c.get.ensures (LeavesFit-Pareto_first c.args.self.now.tables.now c.args.self.now.from.now c.args.self.now.first c.args.b.now.rows c.args.term.now c.in-Pareto.first c.in-Pareto.second c.in-Pareto.is c.requires.b_fits),
    ),
  ),
)

pub standing-requires-in-Better : goal.standing-requires-in-Better
standing-requires-in-Better g t c κs within = (
  search (rules, the_lemmas),
  (
    within,
    (
      rw c.get-in-Better.ensures (LeavesFit-Pareto_second c.args.self.now.tables.now c.args.self.now.from.now c.args.self.now.first c.args.a.now.rows c.args.term.now c.in-Pareto.first c.in-Pareto.second c.in-Pareto.is c.requires.a_fits),
      rw c.get-in-Better.ensures (LeavesFit-Pareto_second c.args.self.now.tables.now c.args.self.now.from.now c.args.self.now.first c.args.b.now.rows c.args.term.now c.in-Pareto.first c.in-Pareto.second c.in-Pareto.is c.requires.b_fits),
    ),
  ),
)

pub standing-requires-in-Same : goal.standing-requires-in-Same
standing-requires-in-Same g t c κs within = (
  search (rules, the_lemmas),
  (
    within,
    (
      rw c.get-in-Same.ensures (LeavesFit-Pareto_second c.args.self.now.tables.now c.args.self.now.from.now c.args.self.now.first c.args.a.now.rows c.args.term.now c.in-Pareto.first c.in-Pareto.second c.in-Pareto.is c.requires.a_fits),
      rw c.get-in-Same.ensures (LeavesFit-Pareto_second c.args.self.now.tables.now c.args.self.now.from.now c.args.self.now.first c.args.b.now.rows c.args.term.now c.in-Pareto.first c.in-Pareto.second c.in-Pareto.is c.requires.b_fits),
    ),
  ),
)

pub standing-requires-in-Prior : goal.standing-requires-in-Prior
standing-requires-in-Prior g t c κs within = (
  search (rules, the_lemmas),
  (
    within,
    (
      rw c.get-in-Prior.ensures (LeavesFit-Prior_first c.args.self.now.tables.now c.args.self.now.from.now c.args.self.now.first c.args.a.now.rows c.args.term.now c.in-Prior.first c.in-Prior.second c.in-Prior.is c.requires.a_fits),
      rw c.get-in-Prior.ensures (LeavesFit-Prior_first c.args.self.now.tables.now c.args.self.now.from.now c.args.self.now.first c.args.b.now.rows c.args.term.now c.in-Prior.first c.in-Prior.second c.in-Prior.is c.requires.b_fits),
    ),
  ),
)

pub standing-requires-in-Same-standing-2 : goal.standing-requires-in-Same-standing-2
standing-requires-in-Same-standing-2 g t c κs within = (
  search (rules, the_lemmas),
  (
    within,
    (
      rw c.get-in-Same-standing-2.ensures (LeavesFit-Prior_second c.args.self.now.tables.now c.args.self.now.from.now c.args.self.now.first c.args.a.now.rows c.args.term.now c.in-Prior.first c.in-Prior.second c.in-Prior.is c.requires.a_fits),
      rw c.get-in-Same-standing-2.ensures (LeavesFit-Prior_second c.args.self.now.tables.now c.args.self.now.from.now c.args.self.now.first c.args.b.now.rows c.args.term.now c.in-Prior.first c.in-Prior.second c.in-Prior.is c.requires.b_fits),
    ),
  ),
)

pub returns-in-Other-clause-most_steps : goal.returns-in-Other-clause-most_steps
returns-in-Other-clause-most_steps g t c = omega (arith, rw c.get.ensures at c.standing.ensures.most_steps, width-Pareto c.args.term.now c.in-Pareto.first c.in-Pareto.second c.in-Pareto.is)

pub returns-in-Better-standing-2-clause-most_steps : goal.returns-in-Better-standing-2-clause-most_steps
returns-in-Better-standing-2-clause-most_steps g t c = omega (arith, rw c.get-in-Prior.ensures at c.standing-in-Prior.ensures.most_steps, width-Prior c.args.term.now c.in-Prior.first c.in-Prior.second c.in-Prior.is)

pub returns-in-Other-standing-2-clause-most_steps : goal.returns-in-Other-standing-2-clause-most_steps
returns-in-Other-standing-2-clause-most_steps g t c = omega (arith, rw c.get-in-Prior.ensures at c.standing-in-Prior.ensures.most_steps, width-Prior c.args.term.now c.in-Prior.first c.in-Prior.second c.in-Prior.is)

pub standing-requires-in-Dual : goal.standing-requires-in-Dual
standing-requires-in-Dual g t c κs within = (
  search (rules, the_lemmas),
  (
    within,
    (
      rw c.get-in-Dual.ensures (LeavesFit-Dual c.args.self.now.tables.now c.args.self.now.from.now c.args.self.now.first c.args.b.now.rows c.args.term.now c.in-Dual.inner c.in-Dual.is c.requires.b_fits),
      rw c.get-in-Dual.ensures (LeavesFit-Dual c.args.self.now.tables.now c.args.self.now.from.now c.args.self.now.first c.args.a.now.rows c.args.term.now c.in-Dual.inner c.in-Dual.is c.requires.a_fits),
    ),
  ),
)
