use Rattle.std.proofs.Common.{◌++◌}
use Rattle.std.proofs.lemmas.List.Elements.{All-append}
use Rattle.order_laws.proofs.BestLaws.{order_from_lawful}
use Rattle.order_laws.proofs.PartLaws.{best_of_two}
use Rattle.order_laws.proofs.laws.joined_law.Goals as goal

pub returns : goal.returns
returns g c =
    let p = g.P.Preference in
    let front = c.args.front.now in
    let back = c.args.back.now in
    best_of_two (p.better c.args.p.now) front back
    (order_from_lawful (g.met.P.Preference.laws c.args.p.now) (front ++ back) (All-append (p.valid c.args.p.now) front back c.requires.front_valid c.requires.back_valid))
