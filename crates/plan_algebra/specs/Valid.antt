-- Which plans are valid for a block. This is this project's own.
use Rattle.std.specs.Prelude.{ℕ, ◌≡◌, ◌<◌, List, [], ◌∷◌, ◌++◌, length, map, All, Contains, ⊤}
use Rattle.std.specs.List.{range_with_len}
use Rattle.prefsql_tables.specs.declared.place.ColumnPlace.{ColumnPlace}
use Rattle.pref_terms.specs.declared.term.Leaf.{Leaf}
use Rattle.pref_terms.specs.declared.term.Term.{Term}
use Rattle.pref_terms.specs.Terms.{leaves_of}
use Rattle.query_meaning.specs.BlockFits.{IsPlace}
use Rattle.query_meaning.specs.Valid.{block_leaves}
use Rattle.query_meaning.specs.declared.block.Block.{Block}
use Rattle.plan_algebra.specs.declared.plan.Conjunct.{Conjunct}
use Rattle.plan_algebra.specs.declared.plan.Conjunct.TheVariants as conjunct
use Rattle.plan_algebra.specs.declared.plan.Plan.{Plan, fold-Plan}
use Rattle.plan_algebra.specs.declared.plan.Plan.TheOpen.{Plan-F}
use Rattle.plan_algebra.specs.Conjuncts.{places_of}

-- a condition and the tables of the node at which it stands
pub record ConjunctAt : Type 0 where
  pub conjunct : Conjunct
  pub tables : List ℕ

-- a Best and its tables
pub record BestAt : Type 0 where
  pub term : Term
  pub groups : List ColumnPlace
  pub tables : List ℕ

-- the nodes of a plan
pub record Nodes : Type 0 where
  pub tables : List ℕ
  pub conjuncts : List ConjunctAt
  pub bests : List BestAt

abbrev pub nodes_step : Plan-F Nodes → Nodes
nodes_step (Plan-F.Scan table) = record { tables = table ∷ []; conjuncts = []; bests = [] }
nodes_step (Plan-F.Filter conjuncts below) = record {
  tables = below.tables;
  conjuncts =
      map (λ c. record { conjunct = c; tables = below.tables }) conjuncts ++ below.conjuncts;
  bests = below.bests;
}
nodes_step (Plan-F.Join left right) = record {
  tables = left.tables ++ right.tables;
  conjuncts = left.conjuncts ++ right.conjuncts;
  bests = left.bests ++ right.bests;
}
nodes_step (Plan-F.Best term groups below) = record {
  tables = below.tables;
  conjuncts = below.conjuncts;
  bests = record { term = term; groups = groups; tables = below.tables } ∷ below.bests;
}

unfoldable pub nodes_of : Plan → Nodes
nodes_of = fold-Plan Nodes nodes_step

-- the condition is one of the block's
abbrev pub IsConjunct : Block → Conjunct → Type 0
IsConjunct block (conjunct.Filter i) = i < length block.filter
IsConjunct block (conjunct.Only i) = i < length block.only

-- a column of one of the tables
pub record IsPlaceOf (block : Block) (tables : List ℕ) (place : ColumnPlace) : Type 0 where
  pub there : IsPlace block.from place
  pub table : Contains tables place.table

-- one of the block's, over the node's tables
pub record StandsAt (block : Block) (at : ConjunctAt) : Type 0 where
  pub conjunct : IsConjunct block at.conjunct
  pub places : All (IsPlaceOf block at.tables) (places_of block at.conjunct)

-- no leaf stands twice
abbrev pub EachOnce : List Leaf → Type 0
EachOnce [] = ⊤
EachOnce (leaf ∷ leaves) = (¬ Contains leaves leaf) × EachOnce leaves

-- its leaves are the block's, each at most once, over the node's tables; so are its groups
pub record RanksAt (block : Block) (at : BestAt) : Type 0 where
  pub leaves : All (Contains (block_leaves block)) (leaves_of at.term)
  pub once : EachOnce (leaves_of at.term)
  pub leaf_places :
      All (λ (leaf : Leaf). IsPlaceOf block at.tables leaf.place) (leaves_of at.term)
  pub groups : All (IsPlaceOf block at.tables) at.groups

-- the plan stands for all FROM tables in order, so each join without a gap
pub record IsPlanOf (block : Block) (plan : Plan) : Type 0 where
  pub tables : (nodes_of plan).tables ≡ range_with_len 0 (length block.from)
  pub conjuncts : All (StandsAt block) (nodes_of plan).conjuncts
  pub bests : All (RanksAt block) (nodes_of plan).bests
