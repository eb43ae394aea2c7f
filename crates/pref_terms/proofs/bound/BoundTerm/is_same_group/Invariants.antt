use Rattle.std.proofs.Common.{◌≡◌, drop}
use Rattle.pref_terms.specs.Terms.{is_same_group, shown}
use Rattle.pref_terms.proofs.bound.BoundTerm.is_same_group.Given as goal

abbrev pub invariant-loop-place : goal.invariant-loop-place
invariant-loop-place l =
    let a = shown l.self.tables.now l.self.from.now l.self.first l.a in
    let b = shown l.self.tables.now l.self.from.now l.self.first l.b in
    is_same_group l.self.groups.now a b ≡ is_same_group (drop l.place-index l.place-items) a b
