use Rattle.query_meaning.specs.declared.block.Output.{Output}
use Rattle.query_meaning.specs.BlockFits.{IsScalar}
use Rattle.query_meaning.proofs.AskedLemmas.{at_item, scalar_asked}
use Rattle.query_meaning.proofs.asking.Asked.answer_row.Goals as goal

pub scalar_cell-cell-requires : goal.scalar_cell-cell-requires
scalar_cell-cell-requires c =
    let from = c.args.self.now.block.now.from in
    scalar_asked c.args.self.now c.requires.asked c.args.combo.now c.requires.chosen c.output-item.result.scalar
    (at_item (λ (output : Output). IsScalar from output.scalar) c.as_slice-output-items.result.now c.loop-output.output-index c.output-item.result
    (rw c.as_slice-output-items.ensures c.requires.asked.places.output)
    c.loop-output-test.true c.output-item.is)
