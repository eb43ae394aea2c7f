-- Two graphs of equal parts are equal.
use Rattle.std.proofs.Common.{◌≡◌, ℕ, ◌+◌, Bool, false, List, map, ap, subst}
use Rattle.std.proofs.Props.{props}
use Rattle.prefsql_values.specs.declared.value.Value.{Value}
use Rattle.base_prefs.specs.declared.edge.Edge.{Edge}
use Rattle.base_prefs.specs.declared.graph.Graph.{Graph}
use Rattle.base_prefs.specs.Graph.{graph_values, graph_height, graph_level, greatest, is_above}

abbrev Parts : Type 0
Parts = List Edge × List Value × List (List Bool) × List ℕ × ℕ

abbrev parts : Graph → Parts
parts g = (g.edges, g.values, g.rows, g.levels, g.outside)

-- what a graph keeps of its parts
record Keeps (p : Parts) : Type 0 where
  acyclic : (v : Value) → is_above p.0 v v ≡ false
  listed : p.1 ≡ graph_values p.0
  closed : p.2 ≡ map (λ u. map (λ v. is_above p.0 u v) p.1) p.1
  leveled : p.3 ≡ map (graph_level p.0) p.1
  outside_level : p.4 ≡ greatest (map (graph_height p.0) p.1) + 2

keeps : (g : Graph) → Keeps (parts g)
keeps g = record { acyclic = g.acyclic; listed = g.listed; closed = g.closed; leveled = g.leveled; outside_level = g.outside_level }

make : (p : Parts) → Keeps p → Graph
make p k = record {
  edges = p.0;
  values = p.1;
  rows = p.2;
  levels = p.3;
  outside = p.4;
  acyclic = k.acyclic;
  listed = k.listed;
  closed = k.closed;
  leveled = k.leveled;
  outside_level = k.outside_level;
}

Keeps-prop : (p : Parts) → IsProp (Keeps p)
Keeps-prop p = hlevel props

made_same : (g : Graph) (p : Parts) → parts g ≡ p → (k : Keeps p) → make (parts g) (keeps g) ≡ make p k
made_same g p e = subst (λ q. (k : Keeps q) → make (parts g) (keeps g) ≡ make q k) e (λ k. ap (make (parts g)) (Keeps-prop (parts g) (keeps g) k))

pub graphs_same : (g h : Graph) → g.edges ≡ h.edges → g.values ≡ h.values → g.rows ≡ h.rows → g.levels ≡ h.levels → g.outside ≡ h.outside → g ≡ h
unfolding make keeps
graphs_same g h es vs rs ls out = made_same g (parts h) (λ i. (es i, vs i, rs i, ls i, out i)) (keeps h)
