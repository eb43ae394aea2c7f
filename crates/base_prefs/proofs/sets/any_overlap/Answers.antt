use Rattle.std.proofs.Common.{refl, sym, ◌∙◌}
use Rattle.base_prefs.proofs.SetLaws.{early_overlap, late_overlap}
use Rattle.base_prefs.proofs.sets.any_overlap.Goals as goal

pub returns-then-overlaps : goal.returns-then-overlaps
returns-then-overlaps c =
    let found = early_overlap c.args.before.now c.args.after.now (sym c.overlaps.ensures ∙ c.if-overlaps.true) in (λ h. found, λ h. refl)

pub returns : goal.returns
returns c =
    let decides = late_overlap c.args.before.now c.args.after.now (sym c.overlaps.ensures ∙ c.if-overlaps.false) in
    (λ h. decides.0 (sym c.overlaps-2.ensures ∙ h), λ p. c.overlaps-2.ensures ∙ decides.1 p)
