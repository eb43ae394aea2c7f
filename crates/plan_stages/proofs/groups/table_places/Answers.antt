use Rattle.std.proofs.Common.{ℕ}
use Rattle.prefsql_tables.specs.declared.place.ColumnPlace.{ColumnPlace}
use Rattle.plan_stages.proofs.Loops.{pushed_more}
use Rattle.plan_stages.proofs.groups.table_places.Goals as goal

pub loop-column-preserved : goal.loop-column-preserved
loop-column-preserved c =
    let place : ℕ → ColumnPlace = λ column. record { table = c.args.table; column = column } in
    pushed_more place c.loop-column.column c.loop-column.places.items c.push.new.self.items c.loop-column.invariant c.in_ok-push.ensures.items
