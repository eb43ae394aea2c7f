use Rattle.std.proofs.Common.{◌+◌, ◌∷◌, [], arith, sym, length-append, drop}
use Rattle.std.proofs.lemmas.Result.{err_from_is_err_and}
use Rattle.csv.specs.Records.{fields_of}
use Rattle.table_csv.proofs.FieldsLemmas.{drop_field, drop_past}
use Rattle.table_csv.proofs.HeaderLemmas.{header_stops, header_more, header_done}
use Rattle.table_csv.proofs.header.read_header.Goals as goal

pub returns-in_err-column : goal.returns-in_err-column
returns-in_err-column c =
    let inv = c.loop-field.invariant in
    let fields = fields_of c.args.fields.now in
    let place = c.loop-field.field-iterator.at in
    let next = drop_field fields place c.in-Some.field.now (rw inv.row at (sym c.in-Some.ensures.steps.1)) in
    let p = err_from_is_err_and c.from_residual.result c.from_residual.ensures.1 in
    rw (p.1, p.2)
    (header_stops fields c.loop-field.columns c.as_slice.result.now c.in-Some.field.now (drop (place + 1) fields) c.in_err-column.field-0.0 (omega arith) (rw next.0 at inv.read) c.as_slice.ensures c.in_err-column.ensures)

pub loop-field-preserved : goal.loop-field-preserved
loop-field-preserved c =
    let inv = c.loop-field.invariant in
    let fields = fields_of c.args.fields.now in
    let place = c.loop-field.field-iterator.at in
    let next = drop_field fields place c.in-Some.field.now (rw inv.row at (sym c.in-Some.ensures.steps.1)) in
    record {
      can_go = tt;
      ends = tt;
      row = rw c.in-Some.ensures.steps.0 inv.row;
      place = rw c.in_ok-push.ensures.ok (omega (arith, length-append c.loop-field.columns (c.in_ok-column.column ∷ []), c.in-Some.ensures.steps.2, inv.place));
      read = rw (c.in_ok-push.ensures.ok, c.in-Some.ensures.steps.2)
          (header_more fields c.loop-field.columns c.as_slice.result.now c.in-Some.field.now (drop (place + 1) fields) c.in_ok-column.column (rw next.0 at inv.read) c.as_slice.ensures c.in_ok-column.ensures);
    }

pub returns : goal.returns
returns c =
    let inv = c.loop-field.invariant in
    let fields = fields_of c.args.fields.now in
    let end = drop_past fields c.loop-field.field-iterator.at (rw inv.row at (sym c.in-None.ensures.steps.1)) in
    header_done fields c.loop-field.columns (omega arith) (rw end at inv.read)
