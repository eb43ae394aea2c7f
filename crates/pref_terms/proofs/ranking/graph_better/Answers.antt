use Rattle.std.proofs.Common.{arith}
use Rattle.prefsql_values.specs.Value.{value_of}
use Rattle.base_prefs.specs.Kind.{edges_of}
use Rattle.pref_terms.proofs.GraphPlaces.{none_better, outside_worse, above_better}
use Rattle.pref_terms.proofs.ranking.graph_better.Goals as goal

pub returns-then-lower-values : goal.returns-then-lower-values
returns-then-lower-values c =
    above_better (edges_of c.args.base.now) c.args.values.now c.requires.listed (value_of c.args.a) (value_of c.args.b) c.graph_better.result
    (omega arith) (omega arith) (rw (← c.position-upper.ensures, ← c.position-lower.ensures) c.graph_better.ensures.meaning)

pub returns-else-lower-values : goal.returns-else-lower-values
returns-else-lower-values c = outside_worse (edges_of c.args.base.now) c.args.values.now c.requires.listed (value_of c.args.a) (value_of c.args.b) (omega arith) (omega arith)

pub returns-else-upper-values : goal.returns-else-upper-values
returns-else-upper-values c = none_better (edges_of c.args.base.now) c.args.values.now c.requires.listed (value_of c.args.a) (value_of c.args.b) (omega arith)
