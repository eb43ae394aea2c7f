-- Which of two candidates is better, as SQL conditions on what their leaves rank by (after Kießling
-- and Köstler 2002).
use Rattle.std.specs.Prelude.{ℕ, ◌+◌, Bool, true, false, if◌then◌else◌, List, [], ◌∷◌, map}
use Rattle.std.specs.Prelude.{slice_index_or}
use Rattle.prefsql_values.specs.declared.value.CompareOp.TheVariants.{Eq, Lt, Gt}
use Rattle.prefsql_values.specs.declared.value.Domain.TheVariants.{Integer}
use Rattle.prefsql_values.specs.declared.value.Value.{Value}
use Rattle.prefsql_tables.specs.declared.place.ColumnPlace.{ColumnPlace}
use Rattle.base_prefs.specs.declared.edge.Edge.{Edge}
use Rattle.base_prefs.specs.declared.kind.Kind.{Kind}
use Rattle.base_prefs.specs.declared.kind.Kind.TheVariants.{Explicit, Highest}
use Rattle.base_prefs.specs.Graph.{graph_values, is_above}
use Rattle.pref_terms.specs.declared.term.Leaf.{Leaf}
use Rattle.pref_terms.specs.declared.term.Term.{Term, fold-Term}
use Rattle.pref_terms.specs.declared.term.Term.TheOpen.{Term-F}
use Rattle.query_meaning.specs.declared.block.FromTable.{FromTable}
use Rattle.query_meaning.specs.BlockFits.{columns_from}
use Rattle.sql_tree.specs.declared.tree.SqlCond.{SqlCond, And, Or, Compare, OneOf, IsNull}
use Rattle.sql_tree.specs.declared.tree.SqlScalar.{SqlScalar}
use Rattle.rewritten_query.specs.Leaves.{number}
use Rattle.rewritten_query.specs.Names.{column_up}
use Rattle.rewritten_query.specs.Columns.{number_among, rank_column}

-- a column of the rival, which the inner query goes through, and of the candidate round it
abbrev pub of_rival : ℕ → SqlScalar
of_rival = column_up 0

abbrev pub of_candidate : ℕ → SqlScalar
of_candidate = column_up 1

-- the codes, from n on, of the values that pass
abbrev pub codes_where : (Value → Bool) → ℕ → List Value → List ℕ
codes_where passes n [] = []
codes_where passes n (v ∷ values) =
    let more = codes_where passes (n + 1) values in if passes v then n ∷ more else more

-- of two, each given by its columns: the upper one and the lower one
module _ (upper lower : ℕ → SqlScalar) where
  -- the upper one has the code of v, and the lower one is outside the graph or has a code that v is
  -- above
  abbrev pub code_part : List Edge → ℕ → ℕ → Value → SqlCond
  code_part edges column n v =
      And (Compare Eq (upper column) (number n)
      ∷ OneOf false (lower column)
      (number 0 ∷ map number (codes_where (is_above edges v) 1 (graph_values edges)))
      ∷ [])

  -- one part for each value, with the codes from n on
  abbrev pub code_parts : List Edge → ℕ → ℕ → List Value → List SqlCond
  code_parts edges column n [] = []
  code_parts edges column n (v ∷ values) =
      code_part edges column n v ∷ code_parts edges column (n + 1) values

  -- the upper one is better by a kind whose rank, or for EXPLICIT whose rank and then code, stand
  -- from the column on
  abbrev pub kind_better : Kind → ℕ → SqlCond
  kind_better (Explicit g) column =
      Or (code_parts g.edges (column + 1) 1 (graph_values g.edges))
  kind_better Highest column = Compare Gt (upper column) (lower column)
  kind_better kind column = Compare Lt (upper column) (lower column)

-- whether the column at a place admits NULL
abbrev pub admits_null : List FromTable → ColumnPlace → Bool
admits_null from place = (slice_index_or (columns_from from place.table) place.column
    (record { name = []; domain = Integer; nullable = true })).nullable

-- the conditions that the rival is better, that the candidate is, and that both are the same; the
-- second is the first with rival and candidate exchanged in the better condition of each leaf
pub record Ranking : Type 0 where
  pub better : SqlCond
  pub worse : SqlCond
  pub same : SqlCond

-- the rival is better, or turned round the candidate is
abbrev pub better_if : Bool → Ranking → SqlCond
better_if turned ranking = if turned then ranking.worse else ranking.better

-- a column of the one that is to be better, and of the other
abbrev pub upper_side : Bool → ℕ → SqlScalar
upper_side turned column = if turned then of_candidate column else of_rival column

abbrev pub lower_side : Bool → ℕ → SqlScalar
lower_side turned column = if turned then of_rival column else of_candidate column

-- better by one part, and better or the same by the other
abbrev pub pareto_cond : SqlCond → SqlCond → SqlCond → SqlCond → SqlCond
pareto_cond p_better p_same q_better q_same =
    Or (And (p_better ∷ Or (q_better ∷ q_same ∷ []) ∷ []) ∷ And (p_same ∷ q_better ∷ []) ∷ [])

-- better by the first part, or the same by it and better by the second
abbrev pub prior_cond : SqlCond → SqlCond → SqlCond → SqlCond
prior_cond p_better p_same q_better = Or (p_better ∷ And (p_same ∷ q_better ∷ []) ∷ [])

module _ (places : List ColumnPlace) (leaves : List Leaf) where
  -- the column by which a leaf tells what is the same
  abbrev pub same_column : Leaf → ℕ
  same_column leaf =
      if leaf.trivial then number_among places leaf.place
      else rank_column places leaves leaf.number

  abbrev pub leaf_ranking : Leaf → Ranking
  leaf_ranking leaf = record {
    better = kind_better of_rival of_candidate leaf.base (rank_column places leaves leaf.number);
    worse = kind_better of_candidate of_rival leaf.base (rank_column places leaves leaf.number);
    same = Compare Eq (of_rival (same_column leaf)) (of_candidate (same_column leaf));
  }

  -- one level of a term, with the conditions of each part in its place
  abbrev pub ranking_step : Term-F Ranking → Ranking
  ranking_step (Term-F.Leaf leaf) = leaf_ranking leaf
  ranking_step (Term-F.Pareto p q) = record {
    better = pareto_cond p.better p.same q.better q.same;
    worse = pareto_cond p.worse p.same q.worse q.same;
    same = And (p.same ∷ q.same ∷ []);
  }
  ranking_step (Term-F.Prior p q) = record {
    better = prior_cond p.better p.same q.better;
    worse = prior_cond p.worse p.same q.worse;
    same = And (p.same ∷ q.same ∷ []);
  }
  ranking_step (Term-F.Dual p) = record { better = p.worse; worse = p.better; same = p.same }

  unfoldable pub ranking_of : Term → Ranking
  ranking_of = fold-Term Ranking ranking_step

-- both are not distinct on a group column
abbrev pub group_cond : List ColumnPlace → List FromTable → ColumnPlace → SqlCond
group_cond places from place =
    let rival = of_rival (number_among places place) in
    let candidate = of_candidate (number_among places place) in
    if admits_null from place
    then Or (Compare Eq rival candidate
    ∷ And (IsNull false rival ∷ IsNull false candidate ∷ []) ∷ [])
    else Compare Eq rival candidate
