use Rattle.conditions.specs.Fits.{CondFits}
use Rattle.query_meaning.proofs.AskedLemmas.{at_item, conds_asked}
use Rattle.query_meaning.proofs.asking.Asked.passes.Goals as goal

pub holds-requires : goal.holds-requires
holds-requires c =
    at_item (CondFits c.args.self.now.tables.now c.args.self.now.from.now 0 c.args.combo.now.rows) c.args.conds.now c.loop-cond.cond-index c.cond-item.result
    (conds_asked c.args.self.now c.requires.asked c.args.combo.now c.requires.chosen c.args.conds.now c.requires.places)
    c.loop-cond-test.true c.cond-item.is
