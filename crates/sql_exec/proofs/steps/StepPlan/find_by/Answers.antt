use Rattle.std.proofs.Common.{Some, refl}
use Rattle.std.specs.Vec.{with_item}
use Rattle.sql_exec.specs.declared.steps.ItemPlan.{ItemPlan}
use Rattle.sql_exec.specs.declared.steps.StepPlan.{StepPlan}
use Rattle.sql_exec.proofs.Planning.{plan_key}
use Rattle.sql_exec.proofs.steps.StepPlan.find_by.Goals as goal

pub returns-clause-judged : goal.returns-clause-judged
returns-clause-judged c = λ scope scopes long.
    let had : ItemPlan = c.index_mut.result.now in
    let item : ItemPlan = record { key = Some (record { nulls = c.args.nulls; column = c.args.column; scalar = c.args.scalar }); tests = had.tests } in
    let new : StepPlan = record { once = c.args.self.now.once; before = c.args.self.now.before; items = with_item c.args.self.now.items c.args.item item } in
    plan_key c.args.self.now new c.args.item had item c.args.nulls c.args.column c.args.scalar scope scopes refl refl c.requires.there long c.index_mut.ensures.value refl (c.requires.free had) refl c.requires.speaks
