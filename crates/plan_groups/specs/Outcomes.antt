-- How one row stands to another by a leaf, from numbers that are kept of the rows. This is this
-- project's own.
use Rattle.std.specs.Prelude.{◌≡◌, ℕ, ℤ, neg_ℤ, Bool, true, false, ◌&&◌, if◌then◌else◌, List, [], ◌∷◌, ◌++◌, length}
use Rattle.std.specs.Prelude.{nat_eq, nat_lt, slice_index_or}
use Rattle.std.specs.Ordering.{int_cmp, ordering_then}
use Rattle.std.specs.declared.cmp.Ordering.{Ordering}
use Rattle.std.specs.declared.cmp.Ordering.TheVariants.{Less, Equal, Greater}
use Rattle.prefsql_tables.specs.Sight.{Sight}
use Rattle.prefsql_tables.specs.declared.place.Combo.{Combo}
use Rattle.base_prefs.specs.declared.kind.Kind.{Kind}
use Rattle.base_prefs.specs.Graph.{graph_values}
use Rattle.base_prefs.specs.Kind.{better_of, edges_of, is_explicit, key_of, same_of}
use Rattle.base_prefs.specs.View.{is_above_at}
use Rattle.pref_terms.specs.declared.bound.BoundTerm.{BoundTerm}
use Rattle.pref_terms.specs.declared.term.Leaf.{Leaf}
use Rattle.pref_terms.specs.declared.term.Term.{Term, fold-Term}
use Rattle.pref_terms.specs.declared.term.Term.TheOpen.{Term-F}
use Rattle.plan_groups.specs.Groups.{IsRow, seen_at}
use Rattle.plan_groups.specs.declared.leaf_tests.LeafTest.{LeafTest}
use Rattle.plan_groups.specs.declared.leaf_tests.LeafTest.TheVariants.{Keys, Values, Graph}

-- before the other where it is better, equal where it is the same, else behind
abbrev pub outcome_by : Bool → Bool → Ordering
outcome_by better same = if better then Less else (if same then Equal else Greater)

-- how what is shown first stands to the second by the leaf
abbrev pub stands : Sight → Sight → Leaf → Ordering
stands y x leaf = outcome_by (better_of leaf.base (y leaf.place) (x leaf.place))
    (same_of leaf.base leaf.trivial (y leaf.place) (x leaf.place))

abbrev pub standings_step : Term-F (Sight → Sight → List Ordering) → Sight → Sight → List Ordering
standings_step (Term-F.Leaf leaf) y x = stands y x leaf ∷ []
standings_step (Term-F.Pareto p q) y x = p y x ++ q y x
standings_step (Term-F.Prior p q) y x = p y x ++ q y x
standings_step (Term-F.Dual p) y x = p x y

-- by each leaf of the term, in their order: by a leaf below a dual term it stands as the second
-- stands to the first by that leaf
abbrev pub standings : Term → Sight → Sight → List Ordering
standings = fold-Term (Sight → Sight → List Ordering) standings_step

-- whether by a graph the value at the first of two places of its list is better, where a place past
-- the list is that of a value outside
abbrev pub is_graph_better : Kind → ℕ → ℕ → Bool
is_graph_better kind upper lower =
    is_explicit kind && (nat_lt upper (length (graph_values (edges_of kind)))
    && (if nat_lt lower (length (graph_values (edges_of kind)))
    then is_above_at (edges_of kind) upper lower else true))

-- whether two rows have one number
abbrev pub share : List ℕ → ℕ → ℕ → Bool
share numbers a b = nat_eq (slice_index_or numbers a 0) (slice_index_or numbers b 0)

-- how the row at the place `a` stands to that at `b` by a graph, from the places of their values in
-- its list and those of the first rows with their values
abbrev pub graph_outcome : Kind → (places firsts : List ℕ) → ℕ → ℕ → Ordering
graph_outcome kind places firsts a b = outcome_by (is_graph_better kind (slice_index_or places a 0)
    (slice_index_or places b 0)) (share firsts a b)

-- how the row at the place `a` stands to that at `b`, where `x` and `y` are their keys, or their keys
-- with the signs changed where the leaf is turned
abbrev pub leaf_outcome : LeafTest → ℤ → ℤ → ℕ → ℕ → Ordering
leaf_outcome Keys x y a b = int_cmp x y
leaf_outcome (Values firsts) x y a b =
    ordering_then (int_cmp x y) (outcome_by false (share firsts.items a b))
leaf_outcome (Graph base places firsts turned) x y a b =
    if turned then graph_outcome base.now places.items firsts.items b a
    else graph_outcome base.now places.items firsts.items a b

-- a key, with its sign changed where the leaf is turned
abbrev pub turned_key : Bool → ℤ → ℤ
turned_key turned key = if turned then neg_ℤ key else key

-- what is kept of the rows tells how they stand by the leaf, which is turned below an odd number of
-- dual terms
abbrev pub TellsLeaf : BoundTerm → List Combo → Bool → Leaf → LeafTest → Type 0
TellsLeaf bound combos turned leaf test = (a b : ℕ) → IsRow bound combos a → IsRow bound combos b
    → leaf_outcome test (turned_key turned (key_of leaf.base (seen_at bound combos a leaf.place)))
    (turned_key turned (key_of leaf.base (seen_at bound combos b leaf.place))) a b
    ≡ (if turned then stands (seen_at bound combos b) (seen_at bound combos a) leaf
    else stands (seen_at bound combos a) (seen_at bound combos b) leaf)
