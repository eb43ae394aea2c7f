use Rattle.std.proofs.Common.{◌<◌, ◌∙◌, List, ap, subst, arith}
use Rattle.std.proofs.lemmas.Result.{err_from_is_err_and}
use Rattle.prefsql_values.specs.declared.value.Value.{Value}
use Rattle.prefsql_tables.specs.KeptTable.{HaveRow, column_domains}
use Rattle.prefsql_tables.proofs.KeptLemmas.{admit_row, count_is, row_adds, row_stops, values_reach}
use Rattle.prefsql_tables.proofs.table.Table.push_row.Goals as goal

pub put_row-requires-clause-admitted : goal.put_row-requires-clause-admitted
put_row-requires-clause-admitted c =
    rw (c.into_vec.ensures, c.in_ok-begin.ensures.ok ∙ ap column_domains c.as_slice.ensures)
    (admit_row c.self.inside.schema.columns c.args.row.cells (rw (← c.self.view_is) at c.requires.valid))

pub put_row-requires-clause-reach : goal.put_row-requires-clause-reach
put_row-requires-clause-reach c =
    rw c.into_vec.ensures
    (values_reach c.self.inside.schema.columns c.self.inside.row_count c.self.inside.cells.items c.begin.new.cells.items c.args.row.cells c.self.invariant c.in_ok-begin.ensures.values (rw (← c.self.view_is) at c.requires.valid))

pub invariant_of-self-in_err-put_row : goal.invariant_of-self-in_err-put_row
invariant_of-self-in_err-put_row c =
    let stops = row_stops c.self.inside.schema.columns c.self.inside.row_count c.self.inside.cells.items c.begin.new.cells.items c.put_row.new.columns.items c.self.invariant
    c.in_ok-begin.ensures.values (c.in_ok-begin.ensures.ok ∙ ap column_domains c.as_slice.ensures) c.in_err-put_row.ensures.kept in
    stops.kept

pub returns-in_err-put_row-clause-err : goal.returns-in_err-put_row-clause-err
returns-in_err-put_row-clause-err c =
    let stops = row_stops c.self.inside.schema.columns c.self.inside.row_count c.self.inside.cells.items c.begin.new.cells.items c.put_row.new.columns.items c.self.invariant
    c.in_ok-begin.ensures.values (c.in_ok-begin.ensures.ok ∙ ap column_domains c.as_slice.ensures) c.in_err-put_row.ensures.kept in
    let p = err_from_is_err_and c.from_residual-in_err-put_row.result c.from_residual-in_err-put_row.ensures.1 in
    rw p.1 (stops.table ∙ c.self.view_is)

pub overflow_add-self : goal.overflow_add-self
overflow_add-self c =
    let few : c.self.inside.row_count < 100000 = rw (count_is c.self.inside.schema.columns c.self.inside.cells.items c.self.inside.row_count) (rw (← c.self.view_is) at c.requires.room) in
    omega arith

pub invariant_of-self-2 : goal.invariant_of-self-2
invariant_of-self-2 c =
    let few : c.self.inside.row_count < 100000 = rw (count_is c.self.inside.schema.columns c.self.inside.cells.items c.self.inside.row_count) (rw (← c.self.view_is) at c.requires.room) in
    let adds = row_adds c.self.inside.schema.columns c.self.inside.row_count c.self.inside.cells.items c.begin.new.cells.items c.put_row.new.columns.items c.args.row c.self.invariant
    c.in_ok-begin.ensures.values (c.in_ok-begin.ensures.ok ∙ ap column_domains c.as_slice.ensures) c.in_ok-put_row.ensures.kept
    (subst (λ (xs : List Value). HaveRow c.self.inside.row_count xs c.put_row.new.columns.items) c.into_vec.ensures c.in_ok-put_row.ensures.ok) (rw (← c.self.view_is) at c.requires.valid) few in
    adds.kept

pub returns-clause-ok : goal.returns-clause-ok
returns-clause-ok c =
    let few : c.self.inside.row_count < 100000 = rw (count_is c.self.inside.schema.columns c.self.inside.cells.items c.self.inside.row_count) (rw (← c.self.view_is) at c.requires.room) in
    let adds = row_adds c.self.inside.schema.columns c.self.inside.row_count c.self.inside.cells.items c.begin.new.cells.items c.put_row.new.columns.items c.args.row c.self.invariant
    c.in_ok-begin.ensures.values (c.in_ok-begin.ensures.ok ∙ ap column_domains c.as_slice.ensures) c.in_ok-put_row.ensures.kept
    (subst (λ (xs : List Value). HaveRow c.self.inside.row_count xs c.put_row.new.columns.items) c.into_vec.ensures c.in_ok-put_row.ensures.ok) (rw (← c.self.view_is) at c.requires.valid) few in
    rw (← c.self.view_is) adds.table
