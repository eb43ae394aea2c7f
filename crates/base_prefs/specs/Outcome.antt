-- What the constructors answer.
use Rattle.std.specs.Prelude.{◌≡◌, ◌<◌, ◌≤◌, length, List, ⊤, Result, Ok, Err}
use Rattle.prefsql_values.specs.declared.value.Value.{Value}
use Rattle.base_prefs.specs.declared.edge.Edge.{Edge}
use Rattle.base_prefs.specs.declared.edge.ValueSet.{ValueSet}
use Rattle.base_prefs.specs.declared.kind.Kind.{Kind}
use Rattle.base_prefs.specs.declared.kind.Kind.TheVariants.{Explicit}
use Rattle.base_prefs.specs.declared.fault.BaseFault.{BaseFault}
use Rattle.base_prefs.specs.declared.fault.BaseFault.TheVariants.{TooManyValues, Overlap, Cycle}
use Rattle.base_prefs.specs.declared.fault.BaseFault.TheVariants.{LowAboveUp, Memory}
use Rattle.base_prefs.specs.Graph.{graph_values, IsAbove}
use Rattle.base_prefs.specs.Sets.{written, HasOverlap}

-- more than 256 values are written in the set, else the preference
abbrev pub IsSetOutcome : {X : Type 0} → ValueSet → Result X BaseFault → Type 0
IsSetOutcome s (Ok made) = length s.values ≤ 256
IsSetOutcome s (Err TooManyValues) = 256 < length s.values
IsSetOutcome s (Err Overlap) = ⊥
IsSetOutcome s (Err Cycle) = ⊥
IsSetOutcome s (Err LowAboveUp) = ⊥
IsSetOutcome s (Err Memory) = ⊤

-- more than 256 values are written in all the sets together, else two sets share a value, else the
-- preference
abbrev pub IsSetsOutcome : {X : Type 0} → List ValueSet → Result X BaseFault → Type 0
IsSetsOutcome sets (Ok made) = (length (written sets) ≤ 256) × ¬ HasOverlap sets
IsSetsOutcome sets (Err TooManyValues) = 256 < length (written sets)
IsSetsOutcome sets (Err Overlap) = (length (written sets) ≤ 256) × HasOverlap sets
IsSetsOutcome sets (Err Cycle) = ⊥
IsSetsOutcome sets (Err LowAboveUp) = ⊥
IsSetsOutcome sets (Err Memory) = ⊤

-- there is a path of at least one edge from some value to itself
abbrev pub HasCycle : List Edge → Type 0
HasCycle edges = (v : Value) × IsAbove edges v v

-- the kind is EXPLICIT with these edges
abbrev pub IsExplicitOf : List Edge → Kind → Type 0
IsExplicitOf edges (Explicit g) = g.edges ≡ edges
IsExplicitOf edges kind = ⊥

-- the edges have more than 16 different values, else a cycle, else the preference
abbrev pub IsExplicitOutcome : List Edge → Result Kind BaseFault → Type 0
IsExplicitOutcome edges (Ok kind) = (length (graph_values edges) ≤ 16) × ¬ HasCycle edges
IsExplicitOutcome edges (Err TooManyValues) = 16 < length (graph_values edges)
IsExplicitOutcome edges (Err Overlap) = ⊥
IsExplicitOutcome edges (Err Cycle) = (length (graph_values edges) ≤ 16) × HasCycle edges
IsExplicitOutcome edges (Err LowAboveUp) = ⊥
IsExplicitOutcome edges (Err Memory) = ⊤
