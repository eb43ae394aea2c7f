use Rattle.order_laws.proofs.BestLaws.{order_from_lawful}
use Rattle.order_laws.proofs.PartLaws.{best_of_held}
use Rattle.order_laws.proofs.laws.held_law.Goals as goal

pub returns : goal.returns
returns g c =
    let p = g.P.Preference in
    let xs = c.args.items.now in
    best_of_held (p.better c.args.p.now) xs c.args.held.now
    (order_from_lawful (g.met.P.Preference.laws c.args.p.now) xs c.requires.valid)
    c.requires.holds_best
