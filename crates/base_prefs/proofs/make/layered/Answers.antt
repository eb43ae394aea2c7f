use Rattle.std.proofs.Common.{◌≤◌, ◌++◌, length, map, sym, subst, arith}
use Rattle.std.proofs.lemmas.Bool.{both_ways}
use Rattle.std.proofs.lemmas.Bool.Decides.{nat_tests}
use Rattle.base_prefs.specs.KindLimits.{AreKeptLayers}
use Rattle.base_prefs.specs.Sets.{written, HasOverlap, once}
use Rattle.base_prefs.proofs.SetLaws.{layers_kept}
use Rattle.base_prefs.proofs.make.layered.Goals as goal

pub shared-requires : goal.shared-requires
shared-requires c =
    let before = c.args.before in
    let after = c.args.after in
    let fit = rw (c.as_slice.ensures, c.as_slice-2.ensures) at c.all_fit.ensures in
    let few : length (written (before ++ after)) ≤ 256 = grind (arith, nat_tests, fit) in
    let apart = λ (h : HasOverlap (before ++ after)). both_ways c.any_overlap.result c.if-any_overlap.false ((rw (c.as_slice-3.ensures, c.as_slice-4.ensures) at c.any_overlap.ensures).1 h) in
    let kept = layers_kept before after c.requires.some c.requires.given few apart in
    subst (λ s. AreKeptLayers c.in_ok-before.before s) (sym c.in_ok-after.ensures)
    (subst (λ s. AreKeptLayers s (map once after)) (sym c.in_ok-before.ensures) kept)
