use Rattle.std.proofs.Common.{◌<◌, ◌≤◌, List, ap, ◌∙◌, get_or, length, arith}
use Rattle.std.proofs.lemmas.List.{take_all}
use Rattle.prefsql_values.specs.declared.value.Value.{Value}
use Rattle.prefsql_tables.specs.declared.table.AnswerRow.{AnswerRow}
use Rattle.prefsql_tables.specs.Table.{no_row, rows_of}
use Rattle.sql_exec.proofs.TableRows.{next_cell, width}
use Rattle.sql_exec.proofs.laid_out.table_row.Goals as goal

pub loop-column-preserved : goal.loop-column-preserved
loop-column-preserved c =
    let tables = c.args.tables.now in
    let row = get_or (rows_of tables c.args.table) c.args.row no_row in
    let wide = width tables c.args.table c.args.row c.keeps_limits.ensures c.requires.table c.requires.row in
    let columns = ap length (c.as_slice.ensures ∙ c.schema.ensures) in
    let within : c.loop-column.column < length row.cells = omega (arith, wide, columns, c.loop-column-test.true) in
    c.in_ok-push.ensures.ok
    ∙ next_cell c.loop-column.cells row.cells c.loop-column.column c.in_ok-to_value.field-0 c.loop-column.invariant (c.in_ok-to_value.ensures ∙ c.cell.ensures) within

pub returns : goal.returns
returns c =
    let tables = c.args.tables.now in
    let row = get_or (rows_of tables c.args.table) c.args.row no_row in
    let wide = width tables c.args.table c.args.row c.keeps_limits.ensures c.requires.table c.requires.row in
    let columns = ap length (c.as_slice.ensures ∙ c.schema.ensures) in
    let past : length row.cells ≤ c.loop-column.column = omega (arith, wide, columns, c.loop-column-test.false) in
    ap (λ (cells : List Value). let made : AnswerRow = record { cells = cells } in made) (c.loop-column.invariant ∙ take_all c.loop-column.column row.cells past)
