use Rattle.std.proofs.Common.{map, ap, ◌∙◌}
use Rattle.prefsql_values.specs.Value.{value_of}
use Rattle.base_prefs.specs.Graph.{graph_values}
use Rattle.base_prefs.specs.Kind.{edges_of}
use Rattle.base_prefs.specs.Values.{place_of}
use Rattle.plan_groups.specs.Firsts.{first_equal}
use Rattle.plan_groups.proofs.OutcomeLaws.{turned_graph_tells}
use Rattle.plan_groups.proofs.leaf_tests.graph_test.Goals as goal

pub returns : goal.returns
returns c =
    let vs = ap (map value_of) c.as_slice.ensures.value ∙ c.in_ok-cells.ensures in
    let ws = ap (map value_of) c.as_slice-2.ensures.value ∙ c.in_ok-cells.ensures in
    turned_graph_tells c.args.bound.now c.args.combos.now c.args.leaf.now c.keeps_limits.ensures c.requires.fits c.args.turned c.in_ok-places.places.items c.in_ok-firsts.firsts.items
    (c.in_ok-places.ensures ∙ ap (map (place_of (graph_values (edges_of c.args.leaf.now.base)))) vs)
    (c.in_ok-firsts.ensures ∙ (λ j. map (first_equal (ws j)) (ws j))) c.requires.explicit
