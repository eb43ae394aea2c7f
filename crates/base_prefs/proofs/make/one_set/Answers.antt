use Rattle.std.proofs.Common.{◌≤◌, length, [], ◌∷◌, sym, subst, arith}
use Rattle.std.proofs.lemmas.Bool.Decides.{nat_tests}
use Rattle.base_prefs.specs.Sets.{AreKeptSets}
use Rattle.base_prefs.proofs.SetLaws.{one_kept}
use Rattle.base_prefs.proofs.make.one_set.Goals as goal

pub returns-clause-kept : goal.returns-clause-kept
returns-clause-kept c =
    let few : length c.args.set.values ≤ 256 = grind (arith, nat_tests) in
    subst (λ s. AreKeptSets (s ∷ [])) (sym c.in_ok-once.ensures) (one_kept c.args.set c.requires few)
