use Rattle.std.proofs.Common.{◌∙◌, arith, ap, max, get_or}
use Rattle.std.proofs.lemmas.List.{get_or_default}
use Rattle.base_prefs.specs.declared.placed.PlacedEdge.{PlacedEdge}
use Rattle.base_prefs.specs.Table.{placed_ending}
use Rattle.base_prefs.proofs.Heights.{greatest_more}
use Rattle.base_prefs.proofs.closure.greatest_ending.Goals as goal

pub loop-edge-preserved : goal.loop-edge-preserved
loop-edge-preserved c =
    let places = c.args.places.now in
    let at = c.loop-edge.edge-index in
    let none : PlacedEdge = record { upper = 0; lower = 0 } in
    c.max-most.ensures ∙ ap (λ n. max c.loop-edge.most n) c.ending.ensures
    ∙ greatest_more (placed_ending c.args.heights.now c.args.at) places at (get_or places at none) (omega arith)
    (get_or_default places at none (get_or places at none) (omega arith)) c.loop-edge.most c.loop-edge.invariant
