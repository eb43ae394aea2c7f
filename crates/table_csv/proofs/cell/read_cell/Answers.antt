use Rattle.std.proofs.Common.{sym, ◌∙◌, subst}
use Rattle.table_csv.specs.Fault.{Gives}
use Rattle.table_csv.proofs.CellLemmas.{empty_cell}
use Rattle.table_csv.proofs.cell.read_cell.Goals as goal

pub returns-then-is_empty : goal.returns-then-is_empty
returns-then-is_empty c =
    let same = empty_cell c.args.column.now c.args.field.now c.args.at_record c.args.at_field (sym c.is_empty.ensures ∙ c.if-is_empty.true) in
    subst (λ wanted. Gives wanted c.read_empty.result) (sym same) c.read_empty.ensures
