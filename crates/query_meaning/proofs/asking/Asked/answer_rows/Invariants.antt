use Rattle.std.proofs.Common.{◌≡◌, map, take}
use Rattle.query_meaning.specs.Answers.{output_row}
use Rattle.query_meaning.specs.Asking.{shows}
use Rattle.query_meaning.proofs.asking.Asked.answer_rows.Given as goal

abbrev pub invariant-loop-combo : goal.invariant-loop-combo
invariant-loop-combo l = l.rows ≡ map (λ combo. output_row l.self.block.now (shows l.self combo)) (take l.combo-index l.combos)
