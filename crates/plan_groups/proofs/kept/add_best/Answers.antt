use Rattle.std.proofs.Common.{All, sym, subst}
use Rattle.plan_groups.specs.Groups.{IsRow}
use Rattle.plan_groups.proofs.kept.add_best.Goals as goal

pub best_of-requires : goal.best_of-requires
best_of-requires g c = subst (All (IsRow c.args.rows.now.bound.now c.args.rows.now.combos.now)) (sym c.in_ok-group.ensures) c.requires
