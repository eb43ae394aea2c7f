use Rattle.std.proofs.Common.{◌≡◌, length, drop}
use Rattle.csv.specs.Records.{fields_of}
use Rattle.table_csv.proofs.HeaderLemmas.{HasColumns}
use Rattle.table_csv.proofs.header.read_header.Given as goal

abbrev pub invariant-loop-field : goal.invariant-loop-field
invariant-loop-field l = record {
  can_go : (goal.iterator-loop-field).can_next l.field-iterator;
  ends : (goal.iterator-loop-field).is_finite l.field-iterator;
  row : l.field-iterator.row.now ≡ l.fields;
  place : l.field-iterator.at ≡ length l.columns;
  read : HasColumns (fields_of l.fields) l.columns (drop l.field-iterator.at (fields_of l.fields));
}
