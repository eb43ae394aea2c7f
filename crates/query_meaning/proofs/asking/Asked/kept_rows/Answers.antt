use Rattle.std.proofs.Common.{sym, ◌∙◌}
use Rattle.std.specs.Vec.Iter.{into_iter_items}
use Rattle.query_meaning.specs.Asking.{IsRowChoice, is_kept}
use Rattle.query_meaning.proofs.KeptLemmas.{item_kept, item_passed, next_item}
use Rattle.query_meaning.proofs.asking.Asked.kept_rows.Goals as goal

pub passes-requires-clause-chosen : goal.passes-requires-clause-chosen
passes-requires-clause-chosen c =
    next_item (IsRowChoice c.args.self.now) (is_kept c.args.self.now) c.args.best c.loop-combo.kept (into_iter_items c.loop-combo.combo-iterator) (into_iter_items c.next.new.self) c.in-Some.combo
    c.loop-combo.invariant c.in-Some.ensures.steps.0

pub loop-combo-preserved-in-Continue-1 : goal.loop-combo-preserved-in-Continue-1
loop-combo-preserved-in-Continue-1 c =
    rw c.in_ok-push.ensures.ok
    (item_kept (IsRowChoice c.args.self.now) (is_kept c.args.self.now) c.args.best c.loop-combo.kept (into_iter_items c.loop-combo.combo-iterator) (into_iter_items c.next.new.self) c.in-Some.combo
    c.loop-combo.invariant c.in-Some.ensures.steps.0 (sym (rw c.as_slice.ensures at c.passes.ensures) ∙ c.if-passes.true))

pub loop-combo-preserved : goal.loop-combo-preserved
loop-combo-preserved c =
    item_passed (IsRowChoice c.args.self.now) (is_kept c.args.self.now) c.args.best c.loop-combo.kept (into_iter_items c.loop-combo.combo-iterator) (into_iter_items c.next.new.self) c.in-Some.combo
    c.loop-combo.invariant c.in-Some.ensures.steps.0 (sym (rw c.as_slice.ensures at c.passes.ensures) ∙ c.if-passes.false)
