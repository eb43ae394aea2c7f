use Rattle.query_meaning.specs.Asking.{IsRowChoice}
use Rattle.query_meaning.proofs.AskedLemmas.{at_item}
use Rattle.query_meaning.proofs.asking.Asked.answer_rows.Goals as goal

pub answer_row-requires-clause-chosen : goal.answer_row-requires-clause-chosen
answer_row-requires-clause-chosen c =
    at_item (IsRowChoice c.args.self.now) c.args.combos.now c.loop-combo.combo-index c.combo-item.result
    c.requires.chosen c.loop-combo-test.true c.combo-item.is
