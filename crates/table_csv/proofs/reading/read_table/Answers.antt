use Rattle.std.proofs.Common.{◌≡◌, ◌+◌, ◌∷◌, ◌∙◌, [], sym, ap, subst}
use Rattle.std.proofs.lemmas.Result.{err_from_is_err_and}
use Rattle.csv.specs.Records.{fields_of}
use Rattle.prefsql_tables.specs.TableData.{TableData}
use Rattle.prefsql_tables.specs.Valid.{IsSchema}
use Rattle.prefsql_tables.specs.declared.schema.Schema.{Schema}
use Rattle.table_csv.specs.FileTable.{file_records}
use Rattle.table_csv.specs.Source.{records_left}
use Rattle.table_csv.proofs.TableLemmas.{HasRows, header_good, row_bad, row_good}
use Rattle.table_csv.proofs.reading.read_table.Goals as goal

pub new-table-requires : goal.new-table-requires
new-table-requires c =
    let first = rw c.if-not-branch.false at c.in_ok-read_record.ensures in
    let records : file_records c.args.bytes.now ≡ fields_of c.read_record.new.fields ∷ records_left c.read_record.new.reader = sym c.records_of-reader.ensures.records ∙ first.1 in
    let starts = header_good c.args.bytes.now (fields_of c.read_record.new.fields) (records_left c.read_record.new.reader) c.in_ok-schema.schema records first.2 c.in_ok-schema.ensures in
    subst (λ (s : Schema). IsSchema s.columns) (sym c.in_ok-copy.ensures) starts.valid

pub loop-table-init : goal.loop-table-init
loop-table-init c =
    let first = rw c.if-not-branch.false at c.in_ok-read_record.ensures in
    let left = records_left c.read_record.new.reader in
    let records : file_records c.args.bytes.now ≡ fields_of c.read_record.new.fields ∷ left = sym c.records_of-reader.ensures.records ∙ first.1 in
    let starts = header_good c.args.bytes.now (fields_of c.read_record.new.fields) left c.in_ok-schema.schema records first.2 c.in_ok-schema.ensures in
    let table : c.new-table.result ≡ record { columns = c.in_ok-schema.schema.columns; rows = [] } = c.new-table.ensures ∙ ap (λ (s : Schema). record { columns = s.columns; rows = [] }) c.in_ok-copy.ensures in
    record {
      between = first.0;
      schema = starts.valid;
      read = subst (λ (t : TableData). HasRows c.args.bytes.now c.in_ok-schema.schema.columns t 2 left) (sym table) starts.read;
    }

pub returns-in_err-row : goal.returns-in_err-row
returns-in_err-row c =
    let next = rw c.if-branch.true at c.in_ok-read_record-2.ensures in
    let p = err_from_is_err_and c.from_residual-in_err-row.result c.from_residual-in_err-row.ensures.1 in
    rw (p.1, p.2)
    (row_bad c.args.bytes.now c.in_ok-schema.schema.columns c.as_slice.result.now c.loop-table.table c.loop-table.at_record (fields_of c.read_record-in-loop-table.new.fields)
    (records_left c.read_record-in-loop-table.new.reader) c.in_err-row.field-0.0 (rw next.1 at c.loop-table.invariant.read) c.as_slice.ensures c.in_err-row.ensures)

pub push_row-requires-clause-valid : goal.push_row-requires-clause-valid
push_row-requires-clause-valid c =
    let next = rw c.if-branch.true at c.in_ok-read_record-2.ensures in
    let adds = row_good c.args.bytes.now c.in_ok-schema.schema.columns c.as_slice.result.now c.loop-table.table c.in_ok-row.row c.loop-table.at_record (fields_of c.read_record-in-loop-table.new.fields)
    (records_left c.read_record-in-loop-table.new.reader) (rw next.1 at c.loop-table.invariant.read) c.as_slice.ensures c.in_ok-row.ensures in
    adds.valid

pub loop-table-preserved : goal.loop-table-preserved
loop-table-preserved c =
    let next = rw c.if-branch.true at c.in_ok-read_record-2.ensures in
    let left = records_left c.read_record-in-loop-table.new.reader in
    let adds = row_good c.args.bytes.now c.in_ok-schema.schema.columns c.as_slice.result.now c.loop-table.table c.in_ok-row.row c.loop-table.at_record (fields_of c.read_record-in-loop-table.new.fields)
    left (rw next.1 at c.loop-table.invariant.read) c.as_slice.ensures c.in_ok-row.ensures in
    record {
      between = next.0;
      schema = c.loop-table.invariant.schema;
      read = subst (λ (t : TableData). HasRows c.args.bytes.now c.in_ok-schema.schema.columns t (c.loop-table.at_record + 1) left) (sym c.in_ok-push_row.ensures.ok) adds.read;
    }
