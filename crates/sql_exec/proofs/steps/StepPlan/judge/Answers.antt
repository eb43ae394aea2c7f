use Rattle.std.proofs.Common.{◌≡◌, ◌≢◌, ℕ, ◌+◌, ◌-◌, ◌<◌, length, min, arith, refl}
use Rattle.std.specs.Vec.{with_item}
use Rattle.sql_exec.specs.declared.steps.ItemPlan.{ItemPlan}
use Rattle.sql_exec.specs.declared.steps.StepPlan.{StepPlan}
use Rattle.sql_exec.proofs.Planning.{plan_test}
use Rattle.sql_exec.proofs.steps.StepPlan.judge.Goals as goal

pub returns-in_ok-add_test-clause-judged : goal.returns-in_ok-add_test-clause-judged
returns-in_ok-add_test-clause-judged c = λ scope scopes long.
    let had : ItemPlan = c.index_mut.result.now in
    let item : ItemPlan = c.add_test.new.item in
    let k : ℕ = c.lesser-reach.result - 1 in
    let new : StepPlan = record { once = c.args.self.now.once; before = c.args.self.now.before; items = with_item c.args.self.now.items k item } in
    let ok = c.args.self.now.items.ok.0 in
    let some : c.lesser-reach.result ≢ 0 = c.if-reach-eq0.false in
    let within : k < length c.args.self.now.items.items = omega (arith, some, c.lesser-reach.ensures, c.len.ensures, ok) in
    let is : k + 1 ≡ min c.args.reach (length scope) = omega (arith, some, c.lesser-reach.ensures, c.len.ensures, ok, long) in
    plan_test c.args.self.now new k had item c.args.cond c.args.reach scope scopes refl refl within long is c.index_mut.ensures.value c.in_ok-add_test.ensures.key c.in_ok-add_test.ensures.tests c.requires
