-- What the written query means: that it is the block's answer, and that its parts say what the
-- preference does (Kießling 2002; Kießling and Köstler 2002).
use Rattle.std.specs.Prelude.{◌≡◌, ◌≢◌, ◌↔◌, List, [], ◌∷◌, map, All, Contains}
use Rattle.std.specs.List.{list_all}
use Rattle.prefsql_values.specs.declared.value.Value.{Value}
use Rattle.prefsql_values.specs.declared.value.Value.TheVariants.{Null}
use Rattle.prefsql_values.specs.Truth.{is_true}
use Rattle.prefsql_values.specs.Value.{truth_of}
use Rattle.prefsql_tables.specs.declared.place.Combo.{Combo}
use Rattle.prefsql_tables.specs.declared.table.AnswerRow.{AnswerRow}
use Rattle.prefsql_tables.specs.Sight.{Sight}
use Rattle.prefsql_tables.specs.Table.{Tables}
use Rattle.prefsql_tables.specs.Valid.{IsTableSet}
use Rattle.base_prefs.specs.declared.edge.Edge.{Edge}
use Rattle.base_prefs.specs.Graph.{graph_values}
use Rattle.pref_terms.specs.declared.term.Leaf.{Leaf}
use Rattle.pref_terms.specs.declared.term.Term.{Term}
use Rattle.pref_terms.specs.Terms.{is_same_group, leaves_of, order_of}
use Rattle.query_meaning.specs.declared.block.Block.{Block}
use Rattle.query_meaning.specs.Answers.{candidates, seen}
use Rattle.query_meaning.specs.Answers as answers
use Rattle.query_meaning.specs.BlockFits.{FitsTables}
use Rattle.sql_tree.specs.Meaning.{Scopes, answer_of, rows_in, truth_in}
use Rattle.rewritten_query.specs.Columns.{used}
use Rattle.written_query_meaning.specs.Held.{code_of, held, leaf_values}
use Rattle.rewritten_query.specs.Rankings.{Ranking, group_cond, ranking_of}
use Rattle.rewritten_query.specs.Rewriting.{auxiliary_query, rewritten}

-- the row of the auxiliary query for a candidate
abbrev pub held_by : Tables → Block → Term → Combo → AnswerRow
held_by tables block term combo =
    held (used block term) (leaves_of term) (seen tables block combo)

-- the scopes of the conditions on a rival and a candidate
abbrev pub duel : Tables → Block → Term → Combo → Combo → Scopes
duel tables block term rival candidate =
    (held_by tables block term rival ∷ []) ∷ (held_by tables block term candidate ∷ []) ∷ []

-- over each valid set of tables that the block fits
abbrev pub OverTables : Block → (Tables → Type 0) → Type 0
OverTables block P = (tables : Tables) → IsTableSet tables → FitsTables tables block → P tables

-- the rows of the auxiliary query are the candidates in order, each with its used values and what
-- each leaf ranks it by
abbrev pub HoldsCandidates : Block → Term → Type 0
HoldsCandidates block term = OverTables block (λ tables.
    rows_in tables (auxiliary_query block term) []
    ≡ map (held_by tables block term) (candidates tables block))

-- a code is 0 exactly outside the graph
abbrev pub IsCodeOf : List Edge → Value → Type 0
IsCodeOf edges v = (code_of edges v ≡ 0) ↔ (¬ Contains (graph_values edges) v)

-- what the leaves rank a candidate by: no NULL
pub record AreRanks (leaves : List Leaf) (sight : Sight) : Type 0 where
  pub values : All (λ (leaf : Leaf). All (λ v. v ≢ Null) (leaf_values sight leaf)) leaves
  pub codes : (edges : List Edge) (v : Value) → IsCodeOf edges v

abbrev pub HasRanks : Block → Term → Type 0
HasRanks block term = OverTables block (λ tables.
    (x : Combo) → Contains (candidates tables block) x
    → AreRanks (leaves_of term) (seen tables block x))

-- the better and the same condition that are written for the term
abbrev pub conditions_of : Block → Term → Ranking
conditions_of block term = ranking_of (used block term) (leaves_of term) term

-- for two candidates the better condition is True exactly where the one is better, the same
-- condition exactly where both are the same, and neither is Unknown
pub record JudgesPair (tables : Tables) (block : Block) (term : Term) (y x : Combo)
    : Type 0 where
  pub better : truth_in tables (conditions_of block term).better (duel tables block term y x)
      ≡ truth_of ((order_of term).better (seen tables block y) (seen tables block x))
  pub same : truth_in tables (conditions_of block term).same (duel tables block term y x)
      ≡ truth_of ((order_of term).same (seen tables block y) (seen tables block x))
  -- the group conditions are all True exactly where the two are not distinct on every group column
  pub group : list_all
      (λ place. is_true (truth_in tables (group_cond (used block term) block.from place)
      (duel tables block term y x)))
      block.groups
      ≡ is_same_group block.groups (seen tables block y) (seen tables block x)

abbrev pub JudgesCandidates : Block → Term → Type 0
JudgesCandidates block term = OverTables block (λ tables.
    (y x : Combo) → Contains (candidates tables block) y → Contains (candidates tables block) x
    → JudgesPair tables block term y x)

-- names, rows, multiplicity and order are the block's
abbrev pub MeansAnswer : Block → Type 0
MeansAnswer block = OverTables block (λ tables.
    answer_of tables (rewritten block) ≡ answers.answer_of tables block)
