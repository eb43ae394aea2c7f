-- The conditions on a rival and a candidate are well formed: their columns are in sight, and told by their names.
use Rattle.std.proofs.Common.{◌≡◌, ℕ, suc, ◌+◌, ◌≤◌, ◌<◌, ◌^◌, Bool, true, false, cond, List, [], ◌∷◌, map, length, get_or, refl, sym, ap, subst, ◌∙◌, arith, inl, inr, eqb}
use Rattle.std.specs.List.{count_by}
use Rattle.std.specs.Prelude.{not, ◌&&◌, ◌||◌}
use Rattle.std.specs.Str.{bytes_eq}
use Rattle.std.proofs.lemmas.Bool.{and_from, false_from_ne_true, lt-ltb}
use Rattle.std.proofs.lemmas.Slice.Eq.{bytes_eq-Decides}
use Rattle.prefsql_values.specs.declared.value.CompareOp.{CompareOp}
use Rattle.prefsql_values.specs.declared.value.CompareOp.TheVariants.{Eq, Lt, Gt}
use Rattle.prefsql_values.specs.declared.value.Domain.{Domain}
use Rattle.prefsql_values.specs.declared.value.Domain.TheVariants.{Integer}
use Rattle.prefsql_values.specs.declared.value.Value.{Value}
use Rattle.prefsql_tables.specs.declared.place.ColumnPlace.{ColumnPlace}
use Rattle.order_laws.proofs.Members.{Among, among_front, among_back, among_map}
use Rattle.base_prefs.specs.Graph.{graph_values, is_above}
use Rattle.base_prefs.specs.KindLimits.{IsSound}
use Rattle.base_prefs.specs.declared.edge.Edge.{Edge}
use Rattle.base_prefs.specs.declared.kind.Kind.{Kind}
use Rattle.base_prefs.specs.declared.kind.Kind.TheVariants.{Pos, Neg, PosPos, PosNeg, Layered, Explicit, Around, Between, Lowest, Highest}
use Rattle.base_prefs.proofs.GraphLevels.{two_values}
use Rattle.pref_terms.specs.Equations.{leaves_of-Leaf, leaves_of-Pareto, leaves_of-Prior, leaves_of-Dual}
use Rattle.pref_terms.specs.Induction.{term_induction}
use Rattle.pref_terms.specs.Terms.{leaves_of}
use Rattle.pref_terms.specs.declared.term.Leaf.{Leaf}
use Rattle.pref_terms.specs.declared.term.Term.{Term}
use Rattle.query_meaning.specs.declared.block.FromTable.{FromTable}
use Rattle.sql_tree.specs.declared.tree.SqlCond.{SqlCond, And, Or, Compare, IsNull}
use Rattle.sql_tree.specs.declared.tree.SqlPlace.{SqlPlace}
use Rattle.sql_tree.specs.declared.tree.SqlScalar as sql
use Rattle.sql_tree.specs.declared.tree.SqlScalar.{SqlScalar}
use Rattle.sql_tree.specs.Shown.{ShownColumn, ShownItem, View, column_at, number_shape}
use Rattle.sql_tree.specs.WellFormed.{JudgedScalar, judged_cond}
use Rattle.rewritten_query.specs.Columns.{code_items, number_among, rank_column}
use Rattle.rewritten_query.specs.Leaves.{number}
use Rattle.rewritten_query.specs.Names.{candidates_name, column_up, rivals_name}
use Rattle.rewritten_query.specs.Rankings.{Ranking, admits_null, code_part, code_parts, codes_where, group_cond, kind_better, leaf_ranking, of_candidate, of_rival, ranking_of, same_column}
use Rattle.rewritten_query.proofs.RankingReads.{better-Pareto, better-Prior, better-Dual, worse-Pareto, worse-Prior, worse-Dual, ranking_of-Leaf, same-Pareto, same-Prior, same-Dual}
use Rattle.written_query_validity.proofs.Formed.{Compare_formed, Formed, IsNull_formed, IsOf, OneOf_formed, Or_formed, both_formed, count_of, either_formed}
use Rattle.written_query_validity.proofs.Judgements.{judged-Column}
use Rattle.written_query_validity.proofs.Names.{ColumnsDiffer, lettered_number, told_once}
use Rattle.written_query_validity.proofs.Tables.{IsSeen, seen_column}

-- ---- what is seen

abbrev pub no_shown : ShownColumn
no_shown = record { name = []; shape = number_shape }

-- the candidates and their rivals, with columns of the auxiliary query
abbrev pub candidates_shown : List ShownColumn → ShownItem
candidates_shown columns = record { name = candidates_name; columns = columns }

abbrev pub rivals_shown : List ShownColumn → ShownItem
rivals_shown columns = record { name = rivals_name; columns = columns }

abbrev pub candidates_view : List ShownColumn → View
candidates_view columns = (candidates_shown columns ∷ []) ∷ []

abbrev pub rivals_view : List ShownColumn → View
rivals_view columns = (rivals_shown columns ∷ []) ∷ candidates_view columns

other_name : bytes_eq candidates_name rivals_name ≡ false
other_name =
    false_from_ne_true (bytes_eq candidates_name rivals_name)
    (λ same. let numbers = lettered_number 65 65 1 2 (omega arith) (omega arith) ((bytes_eq-Decides candidates_name rivals_name).0 same) in omega (arith, numbers))

module _ (writing : Bool) (columns : List ShownColumn) (apart : ColumnsDiffer columns) where
  abbrev pub domain_at : ℕ → Domain
  domain_at k = (get_or columns k no_shown).shape.domain

  judged_seen : (view : View) (place : SqlPlace) → IsSeen view place → column_at view place ≡ get_or columns place.column no_shown → IsOf writing view (domain_at place.column) (sql.Column place)
  judged_seen view place seen at =
      let found = judged-Column writing place view in
      record {
        well = ap (λ (j : JudgedScalar). j.well) found ∙ seen_column writing view place seen;
        same = ap (λ (j : JudgedScalar). j.shape.domain) found ∙ ap (λ (c : ShownColumn). c.shape.domain) at;
      }

  once : (k : ℕ) → k < length columns → eqb (count_by (λ (column : ShownColumn). bytes_eq (get_or columns k no_shown).name column.name) columns) 1 ≡ true
  once k within = ap (λ count. eqb count 1) (told_once columns apart k no_shown within)

  -- a column of the candidate, seen by the query of the best
  pub own_column_of : (k : ℕ) → k < length columns → IsOf writing (candidates_view columns) (domain_at k) (column_up 0 k)
  own_column_of k within =
      judged_seen (candidates_view columns) (record { up = 0; item = 0; column = k })
      (record { in_range = and_from _ _ refl (lt-ltb k (length columns) within); told = and_from _ _ (once k within) refl }) refl

  -- a column of the rival
  rival_column_of : (k : ℕ) → k < length columns → IsOf writing (rivals_view columns) (domain_at k) (of_rival k)
  rival_column_of k within =
      judged_seen (rivals_view columns) (record { up = 0; item = 0; column = k })
      (record { in_range = and_from _ _ refl (lt-ltb k (length columns) within); told = and_from _ _ (once k within) refl }) refl

  -- a column of the candidate, seen past its rival
  candidate_column_of : (k : ℕ) → k < length columns → IsOf writing (rivals_view columns) (domain_at k) (of_candidate k)
  candidate_column_of k within =
      judged_seen (rivals_view columns) (record { up = 1; item = 0; column = k })
      (record { in_range = and_from _ _ refl (lt-ltb k (length columns) within); told = and_from _ _ (once k within) (ap (λ b. not (b || false) && true) other_name) }) refl

  abbrev IsDuel : SqlCond → Type 0
  IsDuel = Formed writing (rivals_view columns)

  compared : (op : CompareOp) (k : ℕ) → k < length columns → IsDuel (Compare op (of_rival k) (of_candidate k))
  compared op k within = Compare_formed writing (rivals_view columns) op (domain_at k) (of_rival k) (of_candidate k) (rival_column_of k within) (candidate_column_of k within)

  -- ---- groups

  -- where it admits NULL, and where it does not
  group_by : (k : ℕ) (b : Bool) → k < length columns
      → IsDuel (cond b (Or (Compare Eq (of_rival k) (of_candidate k) ∷ And (IsNull false (of_rival k) ∷ IsNull false (of_candidate k) ∷ []) ∷ [])) (Compare Eq (of_rival k) (of_candidate k)))
  group_by k true within =
      either_formed writing (rivals_view columns) _ _ (compared Eq k within)
      (both_formed writing (rivals_view columns) _ _ (IsNull_formed writing (rivals_view columns) false (domain_at k) (of_rival k) (rival_column_of k within))
      (IsNull_formed writing (rivals_view columns) false (domain_at k) (of_candidate k) (candidate_column_of k within)))
  group_by k false within = compared Eq k within

  pub group_formed : (places : List ColumnPlace) (from : List FromTable) (place : ColumnPlace) → number_among places place < length columns → IsDuel (group_cond places from place)
  group_formed places from place within = group_by (number_among places place) (admits_null from place) within

  -- ---- the better condition of a leaf

  codes_small : (passes : Value → Bool) (n : ℕ) (values : List Value) (m : ℕ) → Among (codes_where passes n values) m → m < n + length values
  codes_small passes n [] m there = absurd there
  codes_small passes n (v ∷ values) m there = by (passes v) there (codes_small passes (n + 1) values m)
    where
      by : (b : Bool) → Among (cond b (n ∷ codes_where passes (n + 1) values) (codes_where passes (n + 1) values)) m
          → (Among (codes_where passes (n + 1) values) m → m < n + 1 + length values) → m < n + suc (length values)
      by true (inl is) rest = omega (arith, is)
      by true (inr more) rest = (let small = rest more in omega (arith, small))
      by false more rest = (let small = rest more in omega (arith, small))

  -- of two columns, whichever is the upper one
  module _ (upper lower : ℕ → SqlScalar) (upper_of : (k : ℕ) → k < length columns → IsOf writing (rivals_view columns) (domain_at k) (upper k)) (lower_of : (k : ℕ) → k < length columns → IsOf writing (rivals_view columns) (domain_at k) (lower k)) where
    ordered : (op : CompareOp) (k : ℕ) → k < length columns → IsDuel (Compare op (upper k) (lower k))
    ordered op k within = Compare_formed writing (rivals_view columns) op (domain_at k) (upper k) (lower k) (upper_of k within) (lower_of k within)

    code_part_formed : (edges : List Edge) (k n : ℕ) (v : Value) → k < length columns → domain_at k ≡ Integer → n < 10 ^ 18 → length (graph_values edges) ≤ 16 → IsDuel (code_part upper lower edges k n v)
    code_part_formed edges k n v within numbers small few =
        let view = rivals_view columns in
        let codes = codes_where (is_above edges v) 1 (graph_values edges) in
        let rival = subst (λ d. IsOf writing view d (upper k)) numbers (upper_of k within) in
        let candidate = subst (λ d. IsOf writing view d (lower k)) numbers (lower_of k within) in
        both_formed writing view _ _
        (Compare_formed writing view Eq Integer (upper k) (number n) rival (count_of writing view n small))
        (OneOf_formed writing view false Integer (lower k) (number 0 ∷ map number codes) candidate (omega arith)
        (λ b there. elim there [
          | inl is ↦ subst (IsOf writing view Integer) is (count_of writing view 0 (omega arith))
          | inr more ↦
              let found = among_map number codes b more in
              let code = codes_small (is_above edges v) 1 (graph_values edges) found.0 found.1 in
              subst (IsOf writing view Integer) found.2 (count_of writing view found.0 (omega (arith, code, few)))
        ]))

    code_parts_formed : (edges : List Edge) (k n : ℕ) (values : List Value) → k < length columns → domain_at k ≡ Integer → n + length values < 10 ^ 18 → length (graph_values edges) ≤ 16
        → (c : SqlCond) → Among (code_parts upper lower edges k n values) c → IsDuel c
    code_parts_formed edges k n [] within numbers small few c there = absurd there
    code_parts_formed edges k n (v ∷ values) within numbers small few c (inl is) =
        ap (λ part. judged_cond writing part (rivals_view columns)) (sym is) ∙ code_part_formed edges k n v within numbers (omega (arith, small)) few
    code_parts_formed edges k n (v ∷ values) within numbers small few c (inr more) = code_parts_formed edges k (n + 1) values within numbers (omega (arith, small)) few c more

    code_parts_length : (edges : List Edge) (k n : ℕ) (values : List Value) → length (code_parts upper lower edges k n values) ≡ length values
    code_parts_length edges k n [] = refl
    code_parts_length edges k n (v ∷ values) = ap suc (code_parts_length edges k (n + 1) values)

    kind_formed : (kind : Kind) (place : ColumnPlace) (n k : ℕ) → IsSound kind → k + suc (length (code_items kind place n)) ≤ length columns → (k + 1 < length columns → domain_at (k + 1) ≡ Integer) → IsDuel (kind_better upper lower kind k)
    kind_formed (Explicit g) place n k sound within numbers =
        let two = two_values g.edges g.acyclic sound.some in
        let parts = code_parts_length g.edges (k + 1) 1 (graph_values g.edges) in
        let next : k + 1 < length columns = omega (arith, within) in
        Or_formed writing (rivals_view columns) (code_parts upper lower g.edges (k + 1) 1 (graph_values g.edges)) (omega (arith, two, parts))
        (code_parts_formed g.edges (k + 1) 1 (graph_values g.edges) next (numbers next) (omega (arith, sound.few)) sound.few)
    kind_formed (Pos s) place n k sound within numbers = ordered Lt k (omega (arith, within))
    kind_formed (Neg s) place n k sound within numbers = ordered Lt k (omega (arith, within))
    kind_formed (PosPos s t) place n k sound within numbers = ordered Lt k (omega (arith, within))
    kind_formed (PosNeg s t) place n k sound within numbers = ordered Lt k (omega (arith, within))
    kind_formed (Layered before after) place n k sound within numbers = ordered Lt k (omega (arith, within))
    kind_formed (Around z) place n k sound within numbers = ordered Lt k (omega (arith, within))
    kind_formed (Between low up) place n k sound within numbers = ordered Lt k (omega (arith, within))
    kind_formed Lowest place n k sound within numbers = ordered Lt k (omega (arith, within))
    kind_formed Highest place n k sound within numbers = ordered Gt k (omega (arith, within))

  -- ---- the better and same conditions of a term

  module _ (places : List ColumnPlace) (leaves : List Leaf) where
    -- the columns of the leaf are there, and its code is a number
    pub record HasColumns (leaf : Leaf) : Type 0 where
      pub sound : IsSound leaf.base
      pub rank : rank_column places leaves leaf.number + suc (length (code_items leaf.base leaf.place leaf.number)) ≤ length columns
      pub code : rank_column places leaves leaf.number + 1 < length columns → domain_at (rank_column places leaves leaf.number + 1) ≡ Integer
      pub trivial : leaf.trivial ≡ true → number_among places leaf.place < length columns

    same_within : (leaf : Leaf) → HasColumns leaf → same_column places leaves leaf < length columns
    same_within leaf has = by leaf.trivial has.trivial
      where
        by : (b : Bool) → (b ≡ true → number_among places leaf.place < length columns) → cond b (number_among places leaf.place) (rank_column places leaves leaf.number) < length columns
        by true here = here refl
        by false here = omega (arith, has.rank)

    record IsFormedRanking (ranking : Ranking) : Type 0 where
      better : IsDuel ranking.better
      worse : IsDuel ranking.worse
      same : IsDuel ranking.same

    leaf_formed : (leaf : Leaf) → HasColumns leaf → IsFormedRanking (leaf_ranking places leaves leaf)
    leaf_formed leaf has = record {
      better = kind_formed of_rival of_candidate rival_column_of candidate_column_of leaf.base leaf.place leaf.number (rank_column places leaves leaf.number) has.sound has.rank has.code;
      worse = kind_formed of_candidate of_rival candidate_column_of rival_column_of leaf.base leaf.place leaf.number (rank_column places leaves leaf.number) has.sound has.rank has.code;
      same = compared Eq (same_column places leaves leaf) (same_within leaf has);
    }

    abbrev IsTermFormed : Term → Type 0
    IsTermFormed t = ((leaf : Leaf) → Among (leaves_of t) leaf → HasColumns leaf) → IsFormedRanking (ranking_of places leaves t)

    both : (a b : SqlCond) → IsDuel a → IsDuel b → IsDuel (And (a ∷ b ∷ []))
    both = both_formed writing (rivals_view columns)

    either : (a b : SqlCond) → IsDuel a → IsDuel b → IsDuel (Or (a ∷ b ∷ []))
    either = either_formed writing (rivals_view columns)

    by_equal : (a b : SqlCond) → a ≡ b → IsDuel b → IsDuel a
    by_equal a b is formed = ap (λ c. judged_cond writing c (rivals_view columns)) is ∙ formed

    ranking_formed : (t : Term) → IsTermFormed t
    ranking_formed = term_induction IsTermFormed
        (λ leaf each. subst IsFormedRanking (sym (ranking_of-Leaf places leaves leaf)) (leaf_formed leaf (each leaf (subst (λ ls. Among ls leaf) (sym (leaves_of-Leaf leaf)) (inl refl)))))
        (λ p q p_is q_is each.
        let first = p_is (λ leaf there. each leaf (subst (λ ls. Among ls leaf) (sym (leaves_of-Pareto p q)) (among_front (leaves_of p) (leaves_of q) leaf there))) in
        let second = q_is (λ leaf there. each leaf (subst (λ ls. Among ls leaf) (sym (leaves_of-Pareto p q)) (among_back (leaves_of p) (leaves_of q) leaf there))) in
        record {
          better = by_equal _ _ (better-Pareto places leaves p q) (either _ _ (both _ _ first.better (either _ _ second.better second.same)) (both _ _ first.same second.better));
          worse = by_equal _ _ (worse-Pareto places leaves p q) (either _ _ (both _ _ first.worse (either _ _ second.worse second.same)) (both _ _ first.same second.worse));
          same = by_equal _ _ (same-Pareto places leaves p q) (both _ _ first.same second.same);
        })
        (λ p q p_is q_is each.
        let first = p_is (λ leaf there. each leaf (subst (λ ls. Among ls leaf) (sym (leaves_of-Prior p q)) (among_front (leaves_of p) (leaves_of q) leaf there))) in
        let second = q_is (λ leaf there. each leaf (subst (λ ls. Among ls leaf) (sym (leaves_of-Prior p q)) (among_back (leaves_of p) (leaves_of q) leaf there))) in
        record {
          better = by_equal _ _ (better-Prior places leaves p q) (either _ _ first.better (both _ _ first.same second.better));
          worse = by_equal _ _ (worse-Prior places leaves p q) (either _ _ first.worse (both _ _ first.same second.worse));
          same = by_equal _ _ (same-Prior places leaves p q) (both _ _ first.same second.same);
        })
        (λ p p_is each.
        let inner = p_is (λ leaf there. each leaf (subst (λ ls. Among ls leaf) (sym (leaves_of-Dual p)) there)) in
        record {
          better = by_equal _ _ (better-Dual places leaves p) inner.worse;
          worse = by_equal _ _ (worse-Dual places leaves p) inner.better;
          same = by_equal _ _ (same-Dual places leaves p) inner.same;
        })

    pub better_formed : (t : Term) → ((leaf : Leaf) → Among (leaves_of t) leaf → HasColumns leaf) → IsDuel (ranking_of places leaves t).better
    better_formed t each = (ranking_formed t each).better
