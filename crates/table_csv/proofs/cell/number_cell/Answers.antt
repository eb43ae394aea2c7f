use Rattle.std.proofs.Common.{ap, rules, sym, ◌∙◌}
use Rattle.prefsql_values.specs.declared.value.Value.TheVariants.{Num}
use Rattle.table_csv.proofs.CellLemmas.{plain_number}
use Rattle.table_csv.proofs.cell.number_cell.Goals as goal

pub returns-in-Ok : goal.returns-in-Ok
returns-in-Ok c =
    let plain = plain_number c.args.column.now c.args.field.now c.in-Ok.n c.in-Integer.is (sym c.in-Ok.ensures) in
    (plain.0, plain.1 ∙ ap Num (search rules))
