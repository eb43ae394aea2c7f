use Rattle.order_laws.proofs.BestLaws.{best-filter, order_from_lawful}
use Rattle.order_laws.proofs.Members.{Contains_from_among}
use Rattle.order_laws.proofs.laws.prefilter_law.Goals as goal

pub returns : goal.returns
returns g c =
    let p = g.P.Preference in
    let xs = c.args.items.now in
    best-filter (p.better c.args.p.now) (g.K.Keep.keeps c.args.keep.now) xs
    (order_from_lawful (g.met.P.Preference.laws c.args.p.now) xs c.requires.valid)
    (λ x a. c.requires.best_kept x (Contains_from_among xs x a))
