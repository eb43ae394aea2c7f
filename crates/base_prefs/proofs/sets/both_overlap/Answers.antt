use Rattle.std.proofs.Common.{sym, ◌∙◌}
use Rattle.base_prefs.proofs.SetLaws.{share_two}
use Rattle.base_prefs.proofs.sets.both_overlap.Goals as goal

pub returns : goal.returns
returns c =
    let decides = share_two c.args.first.now c.args.second.now in
    (λ h. decides.0 (sym c.share.ensures ∙ h), λ p. c.share.ensures ∙ decides.1 p)
