use Rattle.std.proofs.Common.{◌∙◌}
use Rattle.base_prefs.proofs.PlacedEdges.{edge_by_places}
use Rattle.base_prefs.proofs.placed.has_edge.Goals as goal

pub returns : goal.returns
returns c =
    c.has_placed.ensures
    ∙ edge_by_places c.args.edges.now c.args.values.now c.requires.listed c.args.places.now c.requires.placed c.args.upper c.args.lower c.requires.upper_there c.requires.lower_there
