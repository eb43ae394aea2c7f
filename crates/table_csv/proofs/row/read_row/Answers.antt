use Rattle.std.proofs.Common.{◌≡◌, ◌+◌, ◌∷◌, arith, sym, ap, ◌∙◌, length, drop, Ok}
use Rattle.std.proofs.lemmas.List.{drop_more, drop_all}
use Rattle.std.proofs.lemmas.Result.{err_from_is_err_and}
use Rattle.csv.specs.Records.{fields_of}
use Rattle.table_csv.specs.Cell.{cell_codes, cell_value}
use Rattle.table_csv.specs.Fault.{spots, unless_faulty}
use Rattle.table_csv.proofs.CellLemmas.{plain_cell}
use Rattle.table_csv.proofs.FieldsLemmas.{drop_field, drop_past}
use Rattle.table_csv.proofs.RowLemmas.{row_stops, row_more, row_done, row_out}
use Rattle.table_csv.proofs.row.read_row.Goals as goal
use Rattle.table_csv.proofs.row.read_row.Goals.{in-Some-number_cell, in-None+in_ok-cell-in-None, else-loop-place-test, then-loop-place-test+in_default}

pub returns-in_err-cell-in-None : goal.returns-in_err-cell-in-None
returns-in_err-cell-in-None c =
    let fields = fields_of c.args.fields.now in
    let columns = c.args.columns.now in
    let place = c.loop-place.place in
    let column = c.index-columns-place.result in
    let field = drop_field fields place c.in-Some.field.now (sym c.in-Some.ensures.value) in
    let more : drop place columns ≡ column ∷ drop (place + 1) columns =
    drop_more columns place column c.loop-place-test.true ∙ ap (λ x. x ∷ drop (place + 1) columns) (sym c.index-columns-place.is) in
    let same : length fields ≡ length columns = omega arith in
    let p = err_from_is_err_and c.from_residual-in_err-cell-in-None.result c.from_residual-in_err-cell-in-None.ensures.1 in
    rw (p.1, p.2)
    (row_stops c.args.at_record columns fields c.loop-place.cells.items place column (drop (place + 1) columns) c.in-Some.field.now (drop (place + 1) fields) c.in_err-cell-in-None.field-0.0 same (omega arith)
    (rw (more, field.0) at c.loop-place.invariant) c.in_err-cell-in-None.ensures)

pub loop-place-preserved : goal.loop-place-preserved
loop-place-preserved c =
    let fields = fields_of c.args.fields.now in
    let columns = c.args.columns.now in
    let place = c.loop-place.place in
    let column = c.index-columns-place.result in
    let field = drop_field fields place c.in-Some.field.now (sym c.in-Some.ensures.value) in
    let more : drop place columns ≡ column ∷ drop (place + 1) columns =
    drop_more columns place column c.loop-place-test.true ∙ ap (λ x. x ∷ drop (place + 1) columns) (sym c.index-columns-place.is) in
    let good : unless_faulty (spots c.args.at_record (place + 1) (cell_codes column c.in-Some.field.now)) (cell_value column c.in-Some.field.now) ≡ Ok c.match-number_cell.cell =
    elim c.match-number_cell.branch [
      | in-Some-number_cell w ↦
          (let plain = w.in-Some-number_cell.ensures in
          rw w.cell-is (plain_cell column c.in-Some.field.now c.args.at_record (place + 1) _ plain.0 plain.1))
      | in-None+in_ok-cell-in-None w ↦ rw w.cell-is w.in_ok-cell-in-None.ensures
    ] in
    let read = row_more c.args.at_record columns fields c.loop-place.cells.items place column (drop (place + 1) columns) c.in-Some.field.now (drop (place + 1) fields) c.match-number_cell.cell
    (rw (more, field.0) at c.loop-place.invariant) good in
    rw c.in_ok-push.ensures.items read

pub returns : goal.returns
returns c =
    let fields = fields_of c.args.fields.now in
    let columns = c.args.columns.now in
    let place = c.loop-place.place in
    let same : length fields ≡ length columns = omega arith in
    rw c.of.ensures
    (elim c.loop-place-test.branch [
      | else-loop-place-test w ↦ row_done c.args.at_record columns fields c.loop-place.cells.items place (drop place fields) same (omega arith) (rw (drop_all place columns w.loop-place-test.false) at c.loop-place.invariant)
      | then-loop-place-test+in_default w ↦ row_out c.args.at_record columns fields c.loop-place.cells.items place (drop place columns) same (omega arith)
          (rw (drop_past fields place (sym w.in_default.ensures.value)) at c.loop-place.invariant)
    ])
