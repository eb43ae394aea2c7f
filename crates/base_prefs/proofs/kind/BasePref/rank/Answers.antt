use Rattle.std.proofs.Common.{◌∙◌, sym}
use Rattle.base_prefs.proofs.SetLaws.{layers_few}
use Rattle.base_prefs.proofs.kind.BasePref.rank.Goals as goal

pub layer-requires : goal.layer-requires
layer-requires c =
    rw (c.as_slice-in-Layered.ensures, c.as_slice-in-Layered-2.ensures)
    (layers_few c.args.self.now c.kind.ensures.sound c.in-Layered.before c.in-Layered.after (sym c.kind.ensures.same ∙ c.in-Layered.is))
