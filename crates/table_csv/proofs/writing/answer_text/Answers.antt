use Rattle.std.proofs.Common.{◌≡◌, ◌∙◌, ◌∷◌, ◌++◌, [], List, ℕ, append-nil, ap, get_or, map, rules, subst, sym, take}
use Rattle.std.specs.List.{flat_map}
use Rattle.csv.specs.Records.{fields_of}
use Rattle.csv.specs.Writing.{row_text, default_writer}
use Rattle.table_csv.specs.AnswerText.{row_fields, value_text}
use Rattle.table_csv.specs.Writer.{HasWritten}
use Rattle.table_csv.proofs.WriterLemmas.{rows_more}
use Rattle.table_csv.proofs.writing.answer_text.Goals as goal

pub loop-row-init : goal.loop-row-init
loop-row-init c =
    let started : HasWritten c.from_writer-writer.result [] = record {
      fields = c.from_writer-writer.ensures.fields;
      wrote = c.from_writer-writer.ensures.wrote;
      setup = search rules;
      text_is = search rules;
    } in
    let names : fields_of c.set_names.new.fields ≡ c.args.answer.now.names = c.in_ok-set_names.ensures ∙ c.as_slice.ensures in
    subst (λ (text : List ℕ). HasWritten c.write_record.new.writer text) (ap (row_text default_writer) names ∙ sym (append-nil (row_text default_writer c.args.answer.now.names)))
    (c.in_ok-write_record.ensures [] started)

pub loop-row-preserved : goal.loop-row-preserved
loop-row-preserved c =
    let names = c.args.answer.now.names in
    let rows = c.args.answer.now.rows in
    let place = c.loop-row.row-index in
    let row = c.row-item.result in
    let fields : fields_of c.set_values.new.fields ≡ row_fields row = c.in_ok-set_values.ensures ∙ ap (map value_text) c.as_slice-in-loop-row.ensures in
    let is : row ≡ get_or rows place row = c.row-item.is ∙ ap (λ xs. get_or xs place row) c.as_slice-row-items.ensures in
    let lt = rw c.as_slice-row-items.ensures at c.loop-row-test.true in
    let text = flat_map (row_text default_writer) (names ∷ map row_fields (take place rows)) in
    subst (λ (t : List ℕ). HasWritten c.write_record-in-loop-row.new.writer t) (ap (λ f. text ++ row_text default_writer f) fields ∙ rows_more names rows place row lt is)
    (c.in_ok-write_record-2.ensures text c.loop-row.invariant)
