use Rattle.std.specs.Vec.Iter.{into_iter_items}
use Rattle.native_plan.specs.Asking.{CanAskAll, holds_all}
use Rattle.query_meaning.proofs.KeptLemmas.{next_item}
use Rattle.native_plan.proofs.Lists.{combo_added}
use Rattle.native_plan.proofs.combos.kept.Goals as goal

pub add-requires : goal.add-requires
add-requires c =
    next_item (CanAskAll c.args.asked.now c.args.conjuncts.now c.args.first) (holds_all c.args.asked.now c.args.conjuncts.now c.args.first) c.args.combos.items c.loop-combo.kept.items (into_iter_items c.loop-combo.combo-iterator) (into_iter_items c.next.new.self) c.in-Some.combo
    c.loop-combo.invariant c.in-Some.ensures.steps.0

pub loop-combo-preserved : goal.loop-combo-preserved
loop-combo-preserved c =
    combo_added (holds_all c.args.asked.now c.args.conjuncts.now c.args.first) (CanAskAll c.args.asked.now c.args.conjuncts.now c.args.first) c.args.combos.items c.loop-combo.kept.items (into_iter_items c.loop-combo.combo-iterator) (into_iter_items c.next.new.self) c.add.new.combos.items c.in-Some.combo
    c.loop-combo.invariant c.in-Some.ensures.steps.0 c.in_ok-add.ensures
