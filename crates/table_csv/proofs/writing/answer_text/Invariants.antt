use Rattle.std.proofs.Common.{◌∷◌, map, take}
use Rattle.std.specs.List.{flat_map}
use Rattle.csv.specs.Writing.{row_text, default_writer}
use Rattle.table_csv.specs.AnswerText.{row_fields}
use Rattle.table_csv.specs.Writer.{HasWritten}
use Rattle.table_csv.proofs.writing.answer_text.Given as goal

abbrev pub invariant-loop-row : goal.invariant-loop-row
invariant-loop-row l = HasWritten l.writer (flat_map (row_text default_writer) (l.answer.names ∷ map row_fields (take l.row-index l.answer.rows)))
