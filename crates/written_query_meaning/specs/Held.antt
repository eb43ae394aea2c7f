-- What a row of the auxiliary query holds: the candidate's used values, and what each leaf ranks it
-- by (after Kießling and Köstler 2002).
use Rattle.std.specs.Prelude.{ℕ, ◌+◌, pos, if◌then◌else◌, List, [], ◌∷◌, ◌++◌, map}
use Rattle.std.specs.List.{flat_map}
use Rattle.prefsql_values.specs.declared.value.Value.{Value}
use Rattle.prefsql_values.specs.declared.value.Value.TheVariants.{Num}
use Rattle.prefsql_tables.specs.declared.place.ColumnPlace.{ColumnPlace}
use Rattle.prefsql_tables.specs.declared.table.AnswerRow.{AnswerRow}
use Rattle.prefsql_tables.specs.Sight.{Sight}
use Rattle.base_prefs.specs.declared.edge.Edge.{Edge}
use Rattle.base_prefs.specs.declared.kind.Kind.{Kind}
use Rattle.base_prefs.specs.declared.kind.Kind.TheVariants.{Explicit, Lowest, Highest}
use Rattle.base_prefs.specs.Graph.{graph_values}
use Rattle.base_prefs.specs.Kind.{level_of, distance_of}
use Rattle.base_prefs.specs.Values.{is_in, place_of}
use Rattle.pref_terms.specs.declared.term.Leaf.{Leaf}
use Rattle.conditions.specs.Meaning.{quality_of}

-- the value for LOWEST and HIGHEST, else the level or the distance
abbrev pub rank_of : Kind → Value → Value
rank_of Lowest v = v
rank_of Highest v = v
rank_of kind v = quality_of (level_of kind v) (distance_of kind v)

-- the number of a value of the graph, from 1 in the order of first writing, and 0 outside it
abbrev pub code_of : List Edge → Value → ℕ
code_of edges v =
    if is_in (graph_values edges) v then place_of (graph_values edges) v + 1 else 0

abbrev pub codes_of : Kind → Value → List Value
codes_of (Explicit g) v = Num (pos (code_of g.edges v)) ∷ []
codes_of kind v = []

-- the rank by a leaf, and behind it the code by an EXPLICIT leaf
abbrev pub leaf_values : Sight → Leaf → List Value
leaf_values sight leaf =
    rank_of leaf.base (sight leaf.place) ∷ codes_of leaf.base (sight leaf.place)

abbrev pub held : List ColumnPlace → List Leaf → Sight → AnswerRow
held places leaves sight =
    record { cells = map sight places ++ flat_map (leaf_values sight) leaves }
