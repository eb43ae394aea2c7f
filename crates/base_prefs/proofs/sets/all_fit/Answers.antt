use Rattle.std.proofs.Common.{◌∙◌, arith}
use Rattle.base_prefs.proofs.SetLaws.{all_fit_by, none_fit}
use Rattle.base_prefs.proofs.sets.all_fit.Goals as goal

pub returns-in-Some : goal.returns-in-Some
returns-in-Some c =
    c.is_some.ensures
    ∙ all_fit_by c.in-Some.room c.room_after-in-Some.result c.args.before.now c.args.after.now (omega (arith, c.in-Some.ensures.some)) c.room_after-in-Some.ensures.some c.room_after-in-Some.ensures.none

pub returns-in-None : goal.returns-in-None
returns-in-None c = none_fit c.args.before.now c.args.after.now c.in-None.ensures.none
