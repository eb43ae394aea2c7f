use Rattle.order_laws.specs.Parts.{end_to_end}
use Rattle.order_laws.proofs.BestLaws.{order_from_lawful}
use Rattle.order_laws.proofs.PartLaws.{best_of_parts}
use Rattle.order_laws.proofs.laws.parts_law.Goals as goal

pub returns : goal.returns
returns g c =
    let parts = c.args.parts.now in
    best_of_parts (g.P.Preference.better c.args.p.now) parts
    (order_from_lawful (g.met.P.Preference.laws c.args.p.now) (end_to_end parts) c.requires.valid)
