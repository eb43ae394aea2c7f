use Rattle.std.proofs.Common.{sym, subst, IfSome}
use Rattle.prefsql_values.specs.Value.{value_of}
use Rattle.base_prefs.specs.Level.{IsLevel}
use Rattle.base_prefs.proofs.LevelMeaning.{level_meaning}
use Rattle.base_prefs.proofs.kind.BasePref.level.Goals as goal

pub returns-clause-meaning : goal.returns-clause-meaning
returns-clause-meaning c =
    subst (λ r. IfSome r (IsLevel c.args.self.now (value_of c.args.cell))) (sym c.rank.ensures)
    (level_meaning c.args.self.now c.kind-sound.ensures.sound (value_of c.args.cell))
