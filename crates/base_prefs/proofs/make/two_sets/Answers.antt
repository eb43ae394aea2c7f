use Rattle.std.proofs.Common.{◌≤◌, length, [], ◌∷◌, sym, subst, arith}
use Rattle.std.proofs.lemmas.Bool.{both_ways}
use Rattle.std.proofs.lemmas.Bool.Decides.{nat_tests}
use Rattle.base_prefs.specs.Sets.{AreKeptSets, written, HasOverlap, once}
use Rattle.base_prefs.proofs.SetLaws.{two_kept}
use Rattle.base_prefs.proofs.make.two_sets.Goals as goal

pub returns-clause-kept : goal.returns-clause-kept
returns-clause-kept c =
    let first = c.args.first in
    let second = c.args.second in
    let few : length (written (first ∷ second ∷ [])) ≤ 256 = grind (arith, nat_tests) in
    let apart = λ (h : HasOverlap (first ∷ second ∷ [])). both_ways c.both_overlap.result c.if-both_overlap.false (c.both_overlap.ensures.1 h) in
    let kept = two_kept first second c.requires.first c.requires.second few apart in
    subst (λ s. AreKeptSets (c.in_ok-once.field-0 ∷ s ∷ [])) (sym c.in_ok-once-2.ensures)
    (subst (λ s. AreKeptSets (s ∷ once second ∷ [])) (sym c.in_ok-once.ensures) kept)
