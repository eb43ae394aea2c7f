use Rattle.std.proofs.Common.{◌≡◌, [], map, take}
use Rattle.csv.specs.Records.{fields_of, partial_of}
use Rattle.table_csv.specs.AnswerText.{value_text}
use Rattle.table_csv.proofs.writing.set_values.Given as goal

abbrev pub invariant-loop-value : goal.invariant-loop-value
invariant-loop-value l = record {
  fields : fields_of l.fields ≡ map value_text (take l.value-index l.values);
  partial : partial_of l.fields ≡ [];
}
