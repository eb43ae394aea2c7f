-- What `view` and `graph_better` show of a preference.
use Rattle.std.specs.Prelude.{◌≡◌, ℕ, Bool, Some, List, slice_get, slice_index_or, ⊤}
use Rattle.prefsql_values.specs.declared.value.Value.{Value}
use Rattle.prefsql_values.specs.declared.value.Value.TheVariants.{Null}
use Rattle.base_prefs.specs.declared.edge.Edge.{Edge}
use Rattle.base_prefs.specs.declared.graph.Graph.{Graph}
use Rattle.base_prefs.specs.declared.kind.Kind.{Kind}
use Rattle.base_prefs.specs.declared.kind.Kind.TheVariants.{Pos, Neg, PosPos, PosNeg, Layered}
use Rattle.base_prefs.specs.declared.kind.Kind.TheVariants.{Explicit, Around, Between, Lowest}
use Rattle.base_prefs.specs.declared.kind.Kind.TheVariants.{Highest}
use Rattle.base_prefs.specs.declared.view.BaseView.{BaseView}
use Rattle.base_prefs.specs.declared.view.BaseView.TheVariants as view
use Rattle.base_prefs.specs.Graph.{IsAbove, graph_values, is_above}

-- the view has the kind's name and its arguments: the sets as they are kept, the values of the
-- graph in the order of their first writing, the numbers as they were given
abbrev pub IsViewOf : BaseView → Kind → Type 0
IsViewOf (view.Pos values) (Pos s) = values.now ≡ s.values
IsViewOf (view.Neg values) (Neg s) = values.now ≡ s.values
IsViewOf (view.PosPos first second) (PosPos s t) = (first.now ≡ s.values) × (second.now ≡ t.values)
IsViewOf (view.PosNeg good bad) (PosNeg s t) = (good.now ≡ s.values) × (bad.now ≡ t.values)
IsViewOf (view.Layered before after) (Layered early late) =
    (before.now ≡ early) × (after.now ≡ late)
IsViewOf (view.Explicit values) (Explicit g) = values.now ≡ graph_values g.edges
IsViewOf (view.Around center) (Around z) = center ≡ z
IsViewOf (view.Between low up) (Between l u) = (low ≡ l) × (up ≡ u)
IsViewOf view.Lowest Lowest = ⊤
IsViewOf view.Highest Highest = ⊤
IsViewOf shown kind = ⊥

-- what a view shows determines the kind, but for the edges of a graph
abbrev pub IsKindOf : BaseView → Kind → Type 0
IsKindOf (view.Pos values) kind = kind ≡ Pos (record { values = values.now })
IsKindOf (view.Neg values) kind = kind ≡ Neg (record { values = values.now })
IsKindOf (view.PosPos first second) kind =
    kind ≡ PosPos (record { values = first.now }) (record { values = second.now })
IsKindOf (view.PosNeg good bad) kind =
    kind ≡ PosNeg (record { values = good.now }) (record { values = bad.now })
IsKindOf (view.Layered before after) kind = kind ≡ Layered before.now after.now
IsKindOf (view.Explicit values) kind =
    (g : Graph) × (kind ≡ Explicit g) × (values.now ≡ graph_values g.edges)
IsKindOf (view.Around center) kind = kind ≡ Around center
IsKindOf (view.Between low up) kind = kind ≡ Between low up
IsKindOf view.Lowest kind = kind ≡ Lowest
IsKindOf view.Highest kind = kind ≡ Highest

-- there is a path of at least one edge from the graph's value at the one place down to that at the
-- other
abbrev pub IsAboveAt : List Edge → ℕ → ℕ → Type 0
IsAboveAt edges upper lower =
    (u : Value) × (v : Value)
    × (slice_get (graph_values edges) upper ≡ Some u)
    × (slice_get (graph_values edges) lower ≡ Some v)
    × IsAbove edges u v

-- the test of this, for places of values
abbrev pub is_above_at : List Edge → ℕ → ℕ → Bool
is_above_at edges upper lower =
    let values = graph_values edges in
    is_above edges (slice_index_or values upper Null) (slice_index_or values lower Null)
