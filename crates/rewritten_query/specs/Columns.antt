-- The columns of the auxiliary query: those of the tables that the outer query speaks of, and what
-- each leaf ranks by (after Kießling and Köstler 2002). Their order is this project's own.
use Rattle.std.specs.Prelude.{ℕ, ◌+◌, ◌-◌, Bool, ◌&&◌, nat_eq, if◌then◌else◌, List, [], ◌∷◌, ◌++◌}
use Rattle.std.specs.Prelude.{length, map, filter, take}
use Rattle.std.specs.List.{flat_map, list_any, range_with_len}
use Rattle.prefsql_tables.specs.declared.place.ColumnPlace.{ColumnPlace}
use Rattle.base_prefs.specs.declared.kind.Kind.{Kind}
use Rattle.base_prefs.specs.declared.kind.Kind.TheVariants.{Explicit}
use Rattle.pref_terms.specs.declared.term.Leaf.{Leaf}
use Rattle.pref_terms.specs.declared.term.Term.{Term}
use Rattle.pref_terms.specs.Terms.{leaves_of}
use Rattle.conditions.specs.declared.condition.Scalar.{Scalar}
use Rattle.conditions.specs.declared.condition.Scalar.TheVariants as scalar
use Rattle.conditions.specs.Meaning.{scalars_of}
use Rattle.query_meaning.specs.declared.block.Block.{Block}
use Rattle.query_meaning.specs.declared.block.FromTable.{FromTable}
use Rattle.query_meaning.specs.declared.block.Output.{Output}
use Rattle.sql_tree.specs.declared.tree.SqlItem.{SqlItem}
use Rattle.rewritten_query.specs.Leaves.{rank_scalar, code_scalar}
use Rattle.rewritten_query.specs.Names.{of_tables, column_name, rank_name, code_name}

abbrev pub place_eq : ColumnPlace → ColumnPlace → Bool
place_eq p q = nat_eq p.table q.table && nat_eq p.column q.column

-- all columns of the tables, by table and then by column; the first table has the number t
abbrev pub all_places : ℕ → List FromTable → List ColumnPlace
all_places t [] = []
all_places t (table ∷ tables) =
    map (λ c. record { table = t; column = c }) (range_with_len 0 (length table.schema.columns))
    ++ all_places (t + 1) tables

-- a column that stands by itself, not inside LEVEL, DISTANCE or TOP
abbrev pub own_column : Scalar → List ColumnPlace
own_column (scalar.Column place) = place ∷ []
own_column (scalar.Literal value) = []
own_column (scalar.Quality quality) = []

-- the column of a leaf that tells values apart
abbrev pub trivial_column : Leaf → List ColumnPlace
trivial_column leaf = if leaf.trivial then leaf.place ∷ [] else []

-- the columns in the output, in BUT ONLY, in the groups, and of trivial leaves
abbrev pub mentioned : Block → Term → List ColumnPlace
mentioned block term =
    flat_map (λ (output : Output). own_column output.scalar) block.output
    ++ flat_map own_column (flat_map scalars_of block.only) ++ block.groups
    ++ flat_map trivial_column (leaves_of term)

-- these, each once, by table and then by column
abbrev pub used : Block → Term → List ColumnPlace
used block term =
    filter (λ place. list_any (place_eq place) (mentioned block term)) (all_places 0 block.from)

-- the number of the place, from 0
abbrev pub number_among : List ColumnPlace → ColumnPlace → ℕ
number_among [] place = 0
number_among (p ∷ places) place =
    if place_eq p place then 0 else number_among places place + 1

-- ---- the items

abbrev pub used_items : ℕ → List ColumnPlace → List SqlItem
used_items n [] = []
used_items n (place ∷ places) =
    record { value = of_tables place; name = column_name n } ∷ used_items (n + 1) places

abbrev pub code_items : Kind → ColumnPlace → ℕ → List SqlItem
code_items (Explicit g) place n =
    record { value = code_scalar g.edges (of_tables place); name = code_name n } ∷ []
code_items kind place n = []

-- what a leaf ranks by, and behind it the code of an EXPLICIT leaf
abbrev pub leaf_items : Leaf → List SqlItem
leaf_items leaf =
    record { value = rank_scalar leaf.base (of_tables leaf.place); name = rank_name leaf.number }
    ∷ code_items leaf.base leaf.place leaf.number

abbrev pub auxiliary_items : List ColumnPlace → List Leaf → List SqlItem
auxiliary_items places leaves = used_items 1 places ++ flat_map leaf_items leaves

-- the column, from 0, of what the leaf of this number ranks by: behind the used ones and those of
-- the leaves before it
abbrev pub rank_column : List ColumnPlace → List Leaf → ℕ → ℕ
rank_column places leaves leaf =
    length places + length (flat_map leaf_items (take (leaf - 1) leaves))
