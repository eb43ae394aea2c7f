use Rattle.std.proofs.Common.{sym, subst, inl, inr}
use Rattle.std.specs.List.{flat_map}
use Rattle.query_tree.specs.Places.{edge_places, form_places}
use Rattle.query_typing.specs.InOrder.{AreInOrder, Ascends}
use Rattle.query_typing.proofs.InOrderLaws.{layers, one_set, two_sets}
use Rattle.query_typing.proofs.scope.Scope.form_fault.Goals as goal

pub set_fault-requires : goal.set_fault-requires
set_fault-requires c = one_set c.args.form.now c.requires c.in-Pos.set (inl c.in-Pos.is)

pub set_fault-requires-in-Neg : goal.set_fault-requires-in-Neg
set_fault-requires-in-Neg c = one_set c.args.form.now c.requires c.in-Neg.set (inr c.in-Neg.is)

pub two_sets_fault-requires-clause-first : goal.two_sets_fault-requires-clause-first
two_sets_fault-requires-clause-first c = (two_sets c.args.form.now c.requires c.in-PosPos.first c.in-PosPos.column c.in-PosPos.second (inl c.in-PosPos.is)).0

pub two_sets_fault-requires-clause-second : goal.two_sets_fault-requires-clause-second
two_sets_fault-requires-clause-second c = (two_sets c.args.form.now c.requires c.in-PosPos.first c.in-PosPos.column c.in-PosPos.second (inl c.in-PosPos.is)).1

pub two_sets_fault-requires-in-PosNeg-clause-first : goal.two_sets_fault-requires-in-PosNeg-clause-first
two_sets_fault-requires-in-PosNeg-clause-first c = (two_sets c.args.form.now c.requires c.in-PosNeg.good c.in-PosNeg.column c.in-PosNeg.bad (inr c.in-PosNeg.is)).0

pub two_sets_fault-requires-in-PosNeg-clause-second : goal.two_sets_fault-requires-in-PosNeg-clause-second
two_sets_fault-requires-in-PosNeg-clause-second c = (two_sets c.args.form.now c.requires c.in-PosNeg.good c.in-PosNeg.column c.in-PosNeg.bad (inr c.in-PosNeg.is)).1

pub sets_fault-requires-clause-first : goal.sets_fault-requires-clause-first
sets_fault-requires-clause-first c = subst AreInOrder (sym c.as_slice.ensures) (layers c.args.form.now c.requires c.in-Layered.before c.in-Layered.after c.in-Layered.is).0

pub sets_fault-requires-clause-second : goal.sets_fault-requires-clause-second
sets_fault-requires-clause-second c = subst AreInOrder (sym c.as_slice-in-Layered.ensures) (layers c.args.form.now c.requires c.in-Layered.before c.in-Layered.after c.in-Layered.is).1

pub edges_fault-requires : goal.edges_fault-requires
edges_fault-requires c = subst (λ es. Ascends 0 (flat_map edge_places es)) (sym c.as_slice-in-Explicit.ensures) (subst (λ f. Ascends 0 (form_places f)) c.in-Explicit.is c.requires)
