use Rattle.base_prefs.specs.Kind.{edges_of}
use Rattle.base_prefs.proofs.Paths.{above_is}
use Rattle.base_prefs.proofs.kind.BasePref.graph_better.Goals as goal

pub returns-clause-test : goal.returns-clause-test
returns-clause-test c =
    above_is (edges_of c.args.self.now) c.args.upper c.args.lower c.tells_above.result c.requires.upper_there c.requires.lower_there c.tells_above.ensures
