use Rattle.std.proofs.Common.{◌++◌, ◌∷◌, [], filter, ap, ◌∙◌}
use Rattle.prefsql_tables.specs.declared.place.Combo.{Combo}
use Rattle.native_plan.specs.Asking.{holds_all}
use Rattle.native_plan.proofs.Lists.{singles_more}
use Rattle.native_plan.proofs.combos.singles.Goals as goal

pub loop-row-preserved : goal.loop-row-preserved
loop-row-preserved c =
    singles_more (holds_all c.args.asked.now c.args.conjuncts.now c.args.first) c.loop-row.row c.loop-row.combos.items c.add.new.combos.items c.loop-row.invariant
    (c.in_ok-add.ensures ∙ ap (λ (combo : Combo). c.loop-row.combos.items ++ filter (holds_all c.args.asked.now c.args.conjuncts.now c.args.first) (combo ∷ [])) c.in_ok-combo.ensures)
