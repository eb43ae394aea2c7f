-- What every query whose names are resolved keeps. The rules and limits are this project's own.
use Rattle.std.specs.Prelude.{ℕ, ◌+◌, ◌<◌, ◌≤◌, ◌^◌, ◌≡◌, ◌≢◌, false, Option, Some, None, List, []}
use Rattle.std.specs.Prelude.{◌∷◌, ◌++◌, map, length, All, AllPairs, Any, Contains, IfNone, ⊤}
use Rattle.std.specs.Prelude.{slice_index_or}
use Rattle.std.specs.List.{flat_map, range_with_len}
use Rattle.prefsql_values.specs.Limits.{IsName, IsLiteralValue}
use Rattle.prefsql_values.specs.declared.value.Domain.{Domain}
use Rattle.prefsql_values.specs.declared.value.Domain.TheVariants.{Integer, Chars}
use Rattle.prefsql_values.specs.declared.value.Value.{Value}
use Rattle.prefsql_values.specs.declared.value.Value.TheVariants.{Num, Str, Null}
use Rattle.prefsql_tables.specs.Valid.{IsSchema}
use Rattle.prefsql_tables.specs.declared.place.ColumnPlace.{ColumnPlace}
use Rattle.prefsql_tables.specs.declared.place.SortKey.{SortKey}
use Rattle.prefsql_tables.specs.declared.schema.Column.{Column}
use Rattle.base_prefs.specs.Graph.{graph_values}
use Rattle.base_prefs.specs.KindLimits.{IsSound}
use Rattle.base_prefs.specs.Sets.{written}
use Rattle.base_prefs.specs.declared.kind.Kind.{Kind}
use Rattle.base_prefs.specs.declared.kind.Kind.TheVariants as kind
use Rattle.pref_terms.specs.declared.term.Leaf.{Leaf}
use Rattle.pref_terms.specs.Parts.{leaves_left}
use Rattle.conditions.specs.declared.condition.Quality.{Quality}
use Rattle.conditions.specs.declared.condition.Scalar.{Scalar}
use Rattle.conditions.specs.declared.condition.Scalar.TheVariants as scalar
use Rattle.conditions.specs.declared.condition.Cond.{Cond, And', Or', Not', Compare, Between, OneOf}
use Rattle.conditions.specs.declared.condition.Cond.{IsNull, Top, Row_of-Cond, end_of-Cond}
use Rattle.conditions.specs.declared.condition.Cond.{more_of-Cond}
use Rattle.conditions.specs.Meaning.{scalars_of}
use Rattle.query_meaning.specs.BlockFits.{HasPlaces, columns_from}
use Rattle.query_meaning.specs.Conjuncts.{conjuncts, joined}
use Rattle.query_meaning.specs.Nesting.{nesting}
use Rattle.query_meaning.specs.declared.block.Block.{Block}
use Rattle.query_meaning.specs.declared.block.FromTable.{FromTable}
use Rattle.query_meaning.specs.declared.block.Output.{Output}

-- ---- domains

abbrev pub no_column : Column
no_column = record { name = []; domain = Integer; nullable = false }

abbrev pub place_domain : List FromTable → ColumnPlace → Domain
place_domain from place =
    (slice_index_or (columns_from from place.table) place.column no_column).domain

-- NULL is of none
abbrev pub value_domain : Value → Option Domain
value_domain (Num n) = Some Integer
value_domain (Str text) = Some Chars
value_domain Null = None

-- a quality is a number
abbrev pub scalar_domain : List FromTable → Scalar → Option Domain
scalar_domain from (scalar.Column place) = Some (place_domain from place)
scalar_domain from (scalar.Literal value) = value_domain value
scalar_domain from (scalar.Quality quality) = Some Integer

-- ---- leaves

-- the block's leaves, none without a term
abbrev pub block_leaves : Block → List Leaf
block_leaves block = leaves_left block.term

-- the values that a base preference names: those of its sets, its graph or its bounds
abbrev pub named_values : Kind → List Value
named_values (kind.Pos set) = written (set ∷ [])
named_values (kind.Neg set) = written (set ∷ [])
named_values (kind.PosPos first second) = written (first ∷ second ∷ [])
named_values (kind.PosNeg good bad) = written (good ∷ bad ∷ [])
named_values (kind.Layered before after) = written (before ++ after)
named_values (kind.Explicit graph) = graph_values graph.edges
named_values (kind.Around center) = Num center ∷ []
named_values (kind.Between low up) = Num low ∷ Num up ∷ []
named_values kind.Lowest = []
named_values kind.Highest = []

-- the value is of the column's domain
abbrev pub IsOfColumn : List FromTable → ColumnPlace → Value → Type 0
IsOfColumn from place value = value_domain value ≡ Some (place_domain from place)

-- its base preference keeps the limits of its kind, and names values of the column's domain alone
pub record IsValidLeaf (from : List FromTable) (leaf : Leaf) : Type 0 where
  pub sound : IsSound leaf.base
  pub values : All (IsOfColumn from leaf.place) (named_values leaf.base)

-- the numbers 1, 2, 3 and so on
abbrev pub AreNumbered : List Leaf → Type 0
AreNumbered leaves = map (λ (leaf : Leaf). leaf.number) leaves ≡ range_with_len 1 (length leaves)

-- ---- scalars and conditions

-- the quality has the number, the column and the base preference of the leaf
pub record IsQualityOf (quality : Quality) (leaf : Leaf) : Type 0 where
  pub number : quality.leaf ≡ leaf.number
  pub place : quality.place ≡ leaf.place
  pub base : quality.base ≡ leaf.base

-- a literal is one that a script can write, and a quality is that of one of the leaves
abbrev pub IsOverLeaves : List Leaf → Scalar → Type 0
IsOverLeaves leaves (scalar.Column place) = ⊤
IsOverLeaves leaves (scalar.Literal value) = IsLiteralValue value
IsOverLeaves leaves (scalar.Quality quality) = Any (IsQualityOf quality) leaves

-- of one domain
abbrev pub Agree : List FromTable → Scalar → Scalar → Type 0
Agree from a b = scalar_domain from a ≡ scalar_domain from b

abbrev pub part_count : {n : _} → Row_of-Cond n → ℕ
part_count end_of-Cond = 0
part_count (more_of-Cond part rest) = 1 + part_count rest

-- two or more
abbrev pub AreSeveral : ℕ → Type 0
AreSeveral count = (2 ≤ count) × (count < 2 ^ 32)

abbrev mutual
  -- And and Or have two parts or more, IN has a list, and what is compared is of one domain
  pub IsFormed : List FromTable → Cond → Type 0
  IsFormed from (And' _ parts) = AreSeveral (part_count parts) × AreFormed from parts
  IsFormed from (Or' _ parts) = AreSeveral (part_count parts) × AreFormed from parts
  IsFormed from (Not' _ part) = AreFormed from part
  IsFormed from (Compare op a b) = Agree from a b
  IsFormed from (Between negate a low high) = Agree from a low × Agree from a high
  IsFormed from (OneOf negate a list) =
      (0 < length list) × (length list < 2 ^ 32) × All (Agree from a) list
  IsFormed from (IsNull negate a) = ⊤
  IsFormed from (Top quality) = ⊤

  -- the same of each part
  pub AreFormed : {n : _} → List FromTable → Row_of-Cond n → Type 0
  AreFormed from end_of-Cond = ⊤
  AreFormed from (more_of-Cond part rest) = IsFormed from part × AreFormed from rest

-- conditions that AND joins, over these leaves: they are the parts of one condition, which nests at
-- most 64 deep
pub record AreConjuncts (from : List FromTable) (leaves : List Leaf) (conds : List Cond)
    : Type 0 where
  pub few : length conds < 2 ^ 32
  pub formed : All (IsFormed from) conds
  pub scalars : All (IsOverLeaves leaves) (flat_map scalars_of conds)
  pub parts : conjuncts (joined conds) ≡ conds
  pub nested : nesting (joined conds) ≤ 64

-- ---- the block

pub record IsFromTable (table : FromTable) : Type 0 where
  pub name : IsName table.name
  pub schema : IsSchema table.schema.columns

pub record IsOutput (leaves : List Leaf) (output : Output) : Type 0 where
  pub name : IsName output.name
  pub scalar : IsOverLeaves leaves output.scalar

-- It has one to eight FROM tables and some output. Its places are of columns, and each base
-- preference stands on a column that it ranks. It has at most eight leaves, numbered as they are
-- written. WHERE is over none of them, the output and BUT ONLY over all. Each group column stands
-- once. Without a term it has neither groups nor BUT ONLY. Its keys speak of the output.
pub record IsValidBlock (block : Block) : Type 0 where
  pub some_from : 0 < length block.from
  pub few_from : length block.from ≤ 8
  pub from : All IsFromTable block.from
  pub some_output : 0 < length block.output
  pub few_output : length block.output < 2 ^ 32
  pub output : All (IsOutput (block_leaves block)) block.output
  pub places : HasPlaces block
  pub few_leaves : length (block_leaves block) ≤ 8
  pub numbered : AreNumbered (block_leaves block)
  pub leaves : All (IsValidLeaf block.from) (block_leaves block)
  pub filter : AreConjuncts block.from [] block.filter
  pub only : AreConjuncts block.from (block_leaves block) block.only
  pub groups : AllPairs (λ (a b : ColumnPlace). a ≢ b) block.groups
  pub ungrouped : IfNone block.term ((block.groups ≡ []) × (block.only ≡ []))
  pub order : All (λ (key : SortKey). key.column < length block.output) block.order

-- ---- a law

-- what the output shows and what conditions compare
abbrev pub block_scalars : Block → List Scalar
block_scalars block =
    map (λ (output : Output). output.scalar) block.output
    ++ flat_map scalars_of block.filter ++ flat_map scalars_of block.only

-- in a valid block a quality is that of the leaf with its number
abbrev pub NumbersTellLeaves : Type 0
NumbersTellLeaves =
    (block : Block) (quality : Quality) (leaf : Leaf) → IsValidBlock block
    → Contains (block_scalars block) (scalar.Quality quality) → Contains (block_leaves block) leaf
    → quality.leaf ≡ leaf.number → IsQualityOf quality leaf
