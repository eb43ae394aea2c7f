use Rattle.base_prefs.proofs.GraphReads.{above_at}
use Rattle.base_prefs.proofs.graph.Graph.is_above.Goals as goal

pub returns-in-Some-item_at : goal.returns-in-Some-item_at
returns-in-Some-item_at c =
    let g = c.args.self.now in
    above_at g.edges g.values g.listed g.rows g.closed c.args.upper c.args.lower c.in-Some.row.now c.in-Some-item_at.above.now
    (rw c.as_slice.ensures at c.in-Some.ensures) (rw c.as_slice-in-Some.ensures at c.in-Some-item_at.ensures)
