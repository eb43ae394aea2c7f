use Rattle.std.proofs.Common.{rules}
use Rattle.pref_terms.specs.declared.term.Term.TheViews.{the_lemmas}
use Rattle.pref_terms.proofs.Standings.{LeavesFit-Leaf, LeavesFit-Pareto_first, LeavesFit-Pareto_second, LeavesFit-Prior_first, LeavesFit-Prior_second, LeavesFit-Dual}
use Rattle.pref_terms.proofs.bound.BoundTerm.+is_same_by.Goals as goal

pub is_same_by_leaf-requires-clause-a_fits : goal.is_same_by_leaf-requires-clause-a_fits
is_same_by_leaf-requires-clause-a_fits t c = LeavesFit-Leaf c.args.self.now.tables.now c.args.self.now.from.now c.args.self.now.first c.args.a.now.rows c.args.term.now c.in-Leaf.leaf c.in-Leaf.is c.requires.a_fits

pub is_same_by_leaf-requires-clause-b_fits : goal.is_same_by_leaf-requires-clause-b_fits
is_same_by_leaf-requires-clause-b_fits t c = LeavesFit-Leaf c.args.self.now.tables.now c.args.self.now.from.now c.args.self.now.first c.args.b.now.rows c.args.term.now c.in-Leaf.leaf c.in-Leaf.is c.requires.b_fits

pub is_same_by-requires : goal.is_same_by-requires
is_same_by-requires t c = (
  search (rules, the_lemmas),
  (
    rw c.get.ensures (LeavesFit-Pareto_first c.args.self.now.tables.now c.args.self.now.from.now c.args.self.now.first c.args.a.now.rows c.args.term.now c.in-Pareto.first c.in-Pareto.second c.in-Pareto.is c.requires.a_fits),
    rw c.get.ensures (LeavesFit-Pareto_first c.args.self.now.tables.now c.args.self.now.from.now c.args.self.now.first c.args.b.now.rows c.args.term.now c.in-Pareto.first c.in-Pareto.second c.in-Pareto.is c.requires.b_fits),
  ),
)

pub is_same_by-requires-then-is_same_by : goal.is_same_by-requires-then-is_same_by
is_same_by-requires-then-is_same_by t c = (
  search (rules, the_lemmas),
  (
    rw c.get-then-is_same_by.ensures (LeavesFit-Pareto_second c.args.self.now.tables.now c.args.self.now.from.now c.args.self.now.first c.args.a.now.rows c.args.term.now c.in-Pareto.first c.in-Pareto.second c.in-Pareto.is c.requires.a_fits),
    rw c.get-then-is_same_by.ensures (LeavesFit-Pareto_second c.args.self.now.tables.now c.args.self.now.from.now c.args.self.now.first c.args.b.now.rows c.args.term.now c.in-Pareto.first c.in-Pareto.second c.in-Pareto.is c.requires.b_fits),
  ),
)

pub is_same_by-requires-in-Prior : goal.is_same_by-requires-in-Prior
is_same_by-requires-in-Prior t c = (
  search (rules, the_lemmas),
  (
    rw c.get-in-Prior.ensures (LeavesFit-Prior_first c.args.self.now.tables.now c.args.self.now.from.now c.args.self.now.first c.args.a.now.rows c.args.term.now c.in-Prior.first c.in-Prior.second c.in-Prior.is c.requires.a_fits),
    rw c.get-in-Prior.ensures (LeavesFit-Prior_first c.args.self.now.tables.now c.args.self.now.from.now c.args.self.now.first c.args.b.now.rows c.args.term.now c.in-Prior.first c.in-Prior.second c.in-Prior.is c.requires.b_fits),
  ),
)

pub is_same_by-requires-then-is_same_by-2 : goal.is_same_by-requires-then-is_same_by-2
is_same_by-requires-then-is_same_by-2 t c = (
  search (rules, the_lemmas),
  (
    rw c.get-then-is_same_by-2.ensures (LeavesFit-Prior_second c.args.self.now.tables.now c.args.self.now.from.now c.args.self.now.first c.args.a.now.rows c.args.term.now c.in-Prior.first c.in-Prior.second c.in-Prior.is c.requires.a_fits),
    rw c.get-then-is_same_by-2.ensures (LeavesFit-Prior_second c.args.self.now.tables.now c.args.self.now.from.now c.args.self.now.first c.args.b.now.rows c.args.term.now c.in-Prior.first c.in-Prior.second c.in-Prior.is c.requires.b_fits),
  ),
)

pub is_same_by-requires-in-Dual : goal.is_same_by-requires-in-Dual
is_same_by-requires-in-Dual t c = (
  search (rules, the_lemmas),
  (
    rw c.get-in-Dual.ensures (LeavesFit-Dual c.args.self.now.tables.now c.args.self.now.from.now c.args.self.now.first c.args.a.now.rows c.args.term.now c.in-Dual.inner c.in-Dual.is c.requires.a_fits),
    rw c.get-in-Dual.ensures (LeavesFit-Dual c.args.self.now.tables.now c.args.self.now.from.now c.args.self.now.first c.args.b.now.rows c.args.term.now c.in-Dual.inner c.in-Dual.is c.requires.b_fits),
  ),
)
