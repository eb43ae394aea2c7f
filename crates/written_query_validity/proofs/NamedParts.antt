-- What holds of each table that the parts of a written query name. Its scalars and conditions name none, but for EXISTS.
use Rattle.std.proofs.Common.{ℤ, pos, ℕ, ◌+◌, Bool, true, false, cond, Some, None, List, [], ◌∷◌, ◌++◌, map, length, refl, sym, subst, inl, inr}
use Rattle.std.specs.List.{flat_map, range_with_len}
use Rattle.std.specs.Option.{option_map}
use Rattle.prefsql_values.specs.declared.value.CompareOp.{CompareOp}
use Rattle.prefsql_values.specs.declared.value.CompareOp.TheVariants.{Eq, Lt, Gt}
use Rattle.prefsql_values.specs.declared.value.Value.{Value}
use Rattle.prefsql_values.specs.declared.value.Value.TheVariants.{Num, Str, Null}
use Rattle.prefsql_tables.specs.declared.place.ColumnPlace.{ColumnPlace}
use Rattle.order_laws.proofs.Members.{Among, among_either, among_map}
use Rattle.base_prefs.specs.Graph.{graph_values, is_above}
use Rattle.base_prefs.specs.declared.edge.Edge.{Edge}
use Rattle.base_prefs.specs.declared.edge.ValueSet.{ValueSet}
use Rattle.base_prefs.specs.declared.kind.Kind.{Kind}
use Rattle.base_prefs.specs.declared.kind.Kind.TheVariants.{Pos, Neg, PosPos, PosNeg, Layered, Explicit, Around, Between, Lowest, Highest}
use Rattle.conditions.specs.declared.condition.Quality.{Quality}
use Rattle.conditions.specs.declared.condition.Scalar.{Scalar}
use Rattle.conditions.specs.declared.condition.Scalar.TheVariants as scalar
use Rattle.conditions.specs.declared.condition.Cond.{Cond}
use Rattle.conditions.proofs.CondInduction.{cond_induction_among}
use Rattle.pref_terms.specs.Induction.{term_induction}
use Rattle.pref_terms.specs.declared.term.Leaf.{Leaf}
use Rattle.pref_terms.specs.declared.term.Term.{Term}
use Rattle.query_meaning.specs.declared.block.FromTable.{FromTable}
use Rattle.sql_tree.specs.declared.tree.SqlCond.{SqlCond, And, Or, Not, Compare, OneOf, IsNull}
use Rattle.sql_tree.specs.declared.tree.SqlCond as sql
use Rattle.sql_tree.specs.declared.tree.SqlScalar.{SqlScalar, Column, Number}
use Rattle.sql_tree.specs.declared.tree.SqlPlace.{SqlPlace}
use Rattle.sql_tree.specs.declared.tree.SqlTable.{SqlTable}
use Rattle.sql_tree.specs.declared.tree.SqlWhen.{SqlWhen}
use Rattle.sql_tree.specs.declared.tree.SumTerm.{SumTerm}
use Rattle.sql_tree.specs.Fits.{cond_tables, scalar_tables, term_tables, when_tables, if_written}
use Rattle.rewritten_query.specs.Conditions.{best_rank, cond_put, conjunction, scalar_put}
use Rattle.rewritten_query.specs.Leaves.{cases, code_scalar, code_whens, greatest_level, is_among, less, level_when, level_whens, literal, number, rank_scalar, set_whens, values_of_level, when_so}
use Rattle.rewritten_query.specs.Rankings.{Ranking, admits_null, code_part, code_parts, codes_where, group_cond, kind_better, leaf_ranking, of_candidate, of_rival, ranking_of, same_column}
use Rattle.rewritten_query.specs.Columns.{number_among, rank_column}
use Rattle.rewritten_query.proofs.ConditionReads.{put, put-And, put-Or, put-Not, put-Compare, put-Between, put-OneOf, put-IsNull, put-Top}
use Rattle.rewritten_query.proofs.RankingReads.{better-Pareto, better-Prior, better-Dual, worse-Pareto, worse-Prior, worse-Dual, ranking_of-Leaf, same-Pareto, same-Prior, same-Dual}
use Rattle.sql_tree.proofs.PartTables.{tables-And, tables-Between, tables-Case, tables-Chars, tables-Column, tables-Compare, tables-IsNull, tables-Not, tables-Number, tables-OneOf, tables-Or, tables-Sum, tables-term, tables-when}

module _ (G : SqlTable → Type 0) where
  -- it holds of each table of the list
  abbrev pub Only : List SqlTable → Type 0
  Only tables = (table : SqlTable) → Among tables table → G table

  pub none : Only []
  none table there = absurd there

  pub both : (xs ys : List SqlTable) → Only xs → Only ys → Only (xs ++ ys)
  both xs ys first second table there = elim (among_either xs ys table there) [ inl early ↦ first table early | inr late ↦ second table late ]

  pub each : {X : Type 0} (tables : X → List SqlTable) (parts : List X) → ((part : X) → Among parts part → Only (tables part)) → Only (flat_map tables parts)
  each tables [] all = none
  each tables (part ∷ parts) all = both (tables part) (flat_map tables parts) (all part (inl refl)) (each tables parts (λ other there. all other (inr there)))

  abbrev pub InScalar : SqlScalar → Type 0
  InScalar s = Only (scalar_tables s)

  abbrev pub InCond : SqlCond → Type 0
  InCond c = Only (cond_tables c)

  -- ---- scalars

  pub column_in : (place : SqlPlace) → InScalar (Column place)
  column_in place = subst Only (sym (tables-Column place)) none

  integer_in : (n : ℤ) → InScalar (Number n)
  integer_in n = subst Only (sym (tables-Number n)) none

  pub number_in : (n : ℕ) → InScalar (number n)
  number_in n = integer_in (pos n)

  literal_in : (v : Value) → InScalar (literal v)
  literal_in (Num n) = integer_in n
  literal_in (Str text) = subst Only (sym (tables-Chars text)) none
  literal_in Null = subst Only (sym (tables-Case [] None)) none

  less_in : (a b : SqlScalar) → InScalar a → InScalar b → InScalar (less a b)
  less_in a b a_in b_in =
      let first : SumTerm = record { minus = false; scalar = a } in
      let second : SumTerm = record { minus = true; scalar = b } in
      subst Only (sym (tables-Sum (first ∷ second ∷ [])))
      (both (term_tables first) (term_tables second ++ [])
      (subst Only (sym (tables-term first)) a_in)
      (both (term_tables second) [] (subst Only (sym (tables-term second)) b_in) none))

  when_in : (c : SqlCond) (value : SqlScalar) → InCond c → InScalar value → Only (when_tables (when_so c value))
  when_in c value c_in value_in = subst Only (sym (tables-when (when_so c value))) (both (cond_tables c) (scalar_tables value) c_in value_in)

  cases_in : (whens : List SqlWhen) (last : SqlScalar) → ((w : SqlWhen) → Among whens w → Only (when_tables w)) → InScalar last → InScalar (cases whens last)
  cases_in whens last all last_in = subst Only (sym (tables-Case whens (Some last))) (both (flat_map when_tables whens) (scalar_tables last) (each when_tables whens all) last_in)

  -- ---- conditions

  pub and_in : (parts : List SqlCond) → ((c : SqlCond) → Among parts c → InCond c) → InCond (And parts)
  and_in parts all = subst Only (sym (tables-And parts)) (each cond_tables parts all)

  or_in : (parts : List SqlCond) → ((c : SqlCond) → Among parts c → InCond c) → InCond (Or parts)
  or_in parts all = subst Only (sym (tables-Or parts)) (each cond_tables parts all)

  two_in : (a b : SqlCond) → InCond a → InCond b → (c : SqlCond) → Among (a ∷ b ∷ []) c → InCond c
  two_in a b a_in b_in c (inl is) = subst InCond is a_in
  two_in a b a_in b_in c (inr (inl is)) = subst InCond is b_in
  two_in a b a_in b_in c (inr (inr past)) = absurd past

  pub both_in : (a b : SqlCond) → InCond a → InCond b → InCond (And (a ∷ b ∷ []))
  both_in a b a_in b_in = and_in (a ∷ b ∷ []) (two_in a b a_in b_in)

  either_in : (a b : SqlCond) → InCond a → InCond b → InCond (Or (a ∷ b ∷ []))
  either_in a b a_in b_in = or_in (a ∷ b ∷ []) (two_in a b a_in b_in)

  pub not_in : (part : SqlCond) → InCond part → InCond (Not part)
  not_in part part_in = subst Only (sym (tables-Not part)) part_in

  compare_in : (op : CompareOp) (a b : SqlScalar) → InScalar a → InScalar b → InCond (Compare op a b)
  compare_in op a b a_in b_in = subst Only (sym (tables-Compare op a b)) (both (scalar_tables a) (scalar_tables b) a_in b_in)

  one_of_in : (negate : Bool) (a : SqlScalar) (list : List SqlScalar) → InScalar a → ((b : SqlScalar) → Among list b → InScalar b) → InCond (OneOf negate a list)
  one_of_in negate a list a_in all = subst Only (sym (tables-OneOf negate a list)) (both (scalar_tables a) (flat_map scalar_tables list) a_in (each scalar_tables list all))

  between_in : (negate : Bool) (a low high : SqlScalar) → InScalar a → InScalar low → InScalar high → InCond (sql.Between negate a low high)
  between_in negate a low high a_in low_in high_in =
      subst Only (sym (tables-Between negate a low high))
      (both (scalar_tables a ++ scalar_tables low) (scalar_tables high) (both (scalar_tables a) (scalar_tables low) a_in low_in) high_in)

  is_null_in : (negate : Bool) (a : SqlScalar) → InScalar a → InCond (IsNull negate a)
  is_null_in negate a a_in = subst Only (sym (tables-IsNull negate a)) a_in

  -- what holds of each item holds of what a function makes of them
  mapped_in : {X Y : Type 0} (P : Y → Type 0) (f : X → Y) (xs : List X) → ((x : X) → P (f x)) → (y : Y) → Among (map f xs) y → P y
  mapped_in P f xs all y there = let found = among_map f xs y there in subst P found.2 (all found.0)

  -- ---- what a leaf ranks by

  module _ (x : SqlScalar) (x_in : InScalar x) where
    among_in : (values : List Value) → InCond (is_among x values)
    among_in values = one_of_in false x (map literal values) x_in (mapped_in InScalar literal values literal_in)

    set_in : (values : List Value) (n : ℕ) → Only (when_tables (when_so (is_among x values) (number n)))
    set_in values n = when_in (is_among x values) (number n) (among_in values) (number_in n)

    one_when : (v w : SqlWhen) → Only (when_tables v) → Among (v ∷ []) w → Only (when_tables w)
    one_when v w v_in (inl is) = subst (λ u. Only (when_tables u)) is v_in
    one_when v w v_in (inr past) = absurd past

    two_whens : (u v w : SqlWhen) → Only (when_tables u) → Only (when_tables v) → Among (u ∷ v ∷ []) w → Only (when_tables w)
    two_whens u v w u_in v_in (inl is) = subst (λ t. Only (when_tables t)) is u_in
    two_whens u v w u_in v_in (inr more) = one_when v w v_in more

    sets_in : (n : ℕ) (sets : List ValueSet) (w : SqlWhen) → Among (set_whens x n sets) w → Only (when_tables w)
    sets_in n [] w there = absurd there
    sets_in n (s ∷ sets) w (inl is) = subst (λ u. Only (when_tables u)) is (set_in s.values n)
    sets_in n (s ∷ sets) w (inr more) = sets_in (n + 1) sets w more

    one_set : (values : List Value) (n other : ℕ) → InScalar (cases (when_so (is_among x values) (number n) ∷ []) (number other))
    one_set values n other = cases_in _ (number other) (λ w there. one_when _ w (set_in values n) there) (number_in other)

    two_sets : (first second : List Value) (n m other : ℕ)
        → InScalar (cases (when_so (is_among x first) (number n) ∷ when_so (is_among x second) (number m) ∷ []) (number other))
    two_sets first second n m other = cases_in _ (number other) (λ w there. two_whens _ _ w (set_in first n) (set_in second m) there) (number_in other)

    pub rank_in : (kind : Kind) → InScalar (rank_scalar kind x)
    rank_in (Pos s) = one_set s.values 1 2
    rank_in (Neg s) = one_set s.values 2 1
    rank_in (PosPos first second) = two_sets first.values second.values 1 2 3
    rank_in (PosNeg good bad) = two_sets good.values bad.values 1 3 2
    rank_in (Layered before after) =
        cases_in (set_whens x 1 before ++ set_whens x (length before + 2) after) (number (length before + 1))
        (λ w there. elim (among_either (set_whens x 1 before) (set_whens x (length before + 2) after) w there) [
          | inl early ↦ sets_in 1 before w early
          | inr late ↦ sets_in (length before + 2) after w late
        ])
        (number_in (length before + 1))
    rank_in (Explicit g) =
        cases_in (level_whens x g.edges) (number (greatest_level g.edges + 1))
        (mapped_in (λ w. Only (when_tables w)) (level_when x g.edges) (range_with_len 1 (greatest_level g.edges)) (λ n. set_in (values_of_level g.edges n) n))
        (number_in (greatest_level g.edges + 1))
    rank_in (Around center) =
        cases_in _ (less x (Number center))
        (λ w there. one_when _ w (when_in (Compare Lt x (Number center)) (less (Number center) x) (compare_in Lt x (Number center) x_in (integer_in center)) (less_in (Number center) x (integer_in center) x_in)) there)
        (less_in x (Number center) x_in (integer_in center))
    rank_in (Between low up) =
        cases_in _ (number 0)
        (λ w there.
        two_whens _ _ w
        (when_in (Compare Lt x (Number low)) (less (Number low) x) (compare_in Lt x (Number low) x_in (integer_in low)) (less_in (Number low) x (integer_in low) x_in))
        (when_in (Compare Gt x (Number up)) (less x (Number up)) (compare_in Gt x (Number up) x_in (integer_in up)) (less_in x (Number up) x_in (integer_in up)))
        there)
        (number_in 0)
    rank_in Lowest = x_in
    rank_in Highest = x_in

    codes_in : (n : ℕ) (values : List Value) (w : SqlWhen) → Among (code_whens x n values) w → Only (when_tables w)
    codes_in n [] w there = absurd there
    codes_in n (v ∷ values) w (inl is) = subst (λ u. Only (when_tables u)) is (when_in (Compare Eq x (literal v)) (number n) (compare_in Eq x (literal v) x_in (literal_in v)) (number_in n))
    codes_in n (v ∷ values) w (inr more) = codes_in (n + 1) values w more

    pub code_in : (edges : List Edge) → InScalar (code_scalar edges x)
    code_in edges = cases_in (code_whens x 1 (graph_values edges)) (number 0) (codes_in 1 (graph_values edges)) (number_in 0)

  -- ---- conditions of the block

  module _ (column : ColumnPlace → SqlScalar) (quality : Quality → SqlScalar)
      (columns_in : (place : ColumnPlace) → InScalar (column place)) (qualities_in : (q : Quality) → InScalar (quality q)) where
    pub scalar_in : (s : Scalar) → InScalar (scalar_put column quality s)
    scalar_in (scalar.Column place) = columns_in place
    scalar_in (scalar.Literal value) = literal_in value
    scalar_in (scalar.Quality q) = qualities_in q

    abbrev IsPutIn : Cond → Type 0
    IsPutIn c = InCond (cond_put column quality c)

    parts_in : (parts : List Cond) → ((c : Cond) → Among parts c → IsPutIn c) → (s : SqlCond) → Among (map (cond_put column quality) parts) s → InCond s
    parts_in parts all s there = let found = among_map (cond_put column quality) parts s there in subst InCond found.2 (all found.0 found.1)

    pub put_in : (c : Cond) → IsPutIn c
    put_in = cond_induction_among IsPutIn
        (λ parts all. subst InCond (sym (put-And column quality parts)) (and_in (map (cond_put column quality) parts) (parts_in parts all)))
        (λ parts all. subst InCond (sym (put-Or column quality parts)) (or_in (map (cond_put column quality) parts) (parts_in parts all)))
        (λ part is. subst InCond (sym (put-Not column quality part)) (not_in (cond_put column quality part) is))
        (λ op a b. subst InCond (sym (put-Compare column quality op a b)) (compare_in op (put column quality a) (put column quality b) (scalar_in a) (scalar_in b)))
        (λ negate a low high.
        subst InCond (sym (put-Between column quality negate a low high))
        (between_in negate (put column quality a) (put column quality low) (put column quality high) (scalar_in a) (scalar_in low) (scalar_in high)))
        (λ negate a list.
        subst InCond (sym (put-OneOf column quality negate a list))
        (one_of_in negate (put column quality a) (map (put column quality) list) (scalar_in a) (mapped_in InScalar (put column quality) list scalar_in)))
        (λ negate a. subst InCond (sym (put-IsNull column quality negate a)) (is_null_in negate (put column quality a) (scalar_in a)))
        (λ q. subst InCond (sym (put-Top column quality q)) (compare_in Eq (quality q) (number (best_rank q.base)) (qualities_in q) (number_in (best_rank q.base))))

    pub puts_in : (conds : List Cond) (c : SqlCond) → Among (map (cond_put column quality) conds) c → InCond c
    puts_in conds = mapped_in InCond (cond_put column quality) conds put_in

  -- conditions joined by AND, or nothing
  pub conjunction_in : (conds : List SqlCond) → ((c : SqlCond) → Among conds c → InCond c) → Only (if_written (option_map cond_tables (conjunction conds)))
  conjunction_in [] all = none
  conjunction_in (c ∷ []) all = all c (inl refl)
  conjunction_in (c ∷ other ∷ more) all = and_in (c ∷ other ∷ more) all

  -- ---- conditions on a rival and a candidate

  rival_in : (k : ℕ) → InScalar (of_rival k)
  rival_in k = column_in (record { up = 0; item = 0; column = k })

  candidate_in : (k : ℕ) → InScalar (of_candidate k)
  candidate_in k = column_in (record { up = 1; item = 0; column = k })

  compared : (op : CompareOp) (k : ℕ) → InCond (Compare op (of_rival k) (of_candidate k))
  compared op k = compare_in op (of_rival k) (of_candidate k) (rival_in k) (candidate_in k)

  group_by : (k : ℕ) (b : Bool)
      → InCond (cond b (Or (Compare Eq (of_rival k) (of_candidate k) ∷ And (IsNull false (of_rival k) ∷ IsNull false (of_candidate k) ∷ []) ∷ [])) (Compare Eq (of_rival k) (of_candidate k)))
  group_by k true = either_in _ _ (compared Eq k) (both_in _ _ (is_null_in false (of_rival k) (rival_in k)) (is_null_in false (of_candidate k) (candidate_in k)))
  group_by k false = compared Eq k

  pub group_in : (places : List ColumnPlace) (from : List FromTable) (place : ColumnPlace) → InCond (group_cond places from place)
  group_in places from place = group_by (number_among places place) (admits_null from place)

  numbers_in : (codes : List ℕ) (b : SqlScalar) → Among (number 0 ∷ map number codes) b → InScalar b
  numbers_in codes b (inl is) = subst InScalar is (number_in 0)
  numbers_in codes b (inr more) = mapped_in InScalar number codes number_in b more

  -- of two columns, whichever is the upper one
  module _ (upper lower : ℕ → SqlScalar) (upper_in : (k : ℕ) → InScalar (upper k)) (lower_in : (k : ℕ) → InScalar (lower k)) where
    code_part_in : (edges : List Edge) (k n : ℕ) (v : Value) → InCond (code_part upper lower edges k n v)
    code_part_in edges k n v =
        let codes = codes_where (is_above edges v) 1 (graph_values edges) in
        both_in _ _ (compare_in Eq (upper k) (number n) (upper_in k) (number_in n)) (one_of_in false (lower k) (number 0 ∷ map number codes) (lower_in k) (numbers_in codes))

    code_parts_in : (edges : List Edge) (k n : ℕ) (values : List Value) (c : SqlCond) → Among (code_parts upper lower edges k n values) c → InCond c
    code_parts_in edges k n [] c there = absurd there
    code_parts_in edges k n (v ∷ values) c (inl is) = subst InCond is (code_part_in edges k n v)
    code_parts_in edges k n (v ∷ values) c (inr more) = code_parts_in edges k (n + 1) values c more

    kind_in : (kind : Kind) (k : ℕ) → InCond (kind_better upper lower kind k)
    kind_in (Explicit g) k = or_in (code_parts upper lower g.edges (k + 1) 1 (graph_values g.edges)) (code_parts_in g.edges (k + 1) 1 (graph_values g.edges))
    kind_in (Pos s) k = compare_in Lt (upper k) (lower k) (upper_in k) (lower_in k)
    kind_in (Neg s) k = compare_in Lt (upper k) (lower k) (upper_in k) (lower_in k)
    kind_in (PosPos s t) k = compare_in Lt (upper k) (lower k) (upper_in k) (lower_in k)
    kind_in (PosNeg s t) k = compare_in Lt (upper k) (lower k) (upper_in k) (lower_in k)
    kind_in (Layered before after) k = compare_in Lt (upper k) (lower k) (upper_in k) (lower_in k)
    kind_in (Around z) k = compare_in Lt (upper k) (lower k) (upper_in k) (lower_in k)
    kind_in (Between low up) k = compare_in Lt (upper k) (lower k) (upper_in k) (lower_in k)
    kind_in Lowest k = compare_in Lt (upper k) (lower k) (upper_in k) (lower_in k)
    kind_in Highest k = compare_in Gt (upper k) (lower k) (upper_in k) (lower_in k)

  -- the conditions of a term
  record InRanking (ranking : Ranking) : Type 0 where
    better : InCond ranking.better
    worse : InCond ranking.worse
    same : InCond ranking.same

  module _ (places : List ColumnPlace) (leaves : List Leaf) where
    leaf_in : (leaf : Leaf) → InRanking (leaf_ranking places leaves leaf)
    leaf_in leaf = record {
      better = kind_in of_rival of_candidate rival_in candidate_in leaf.base (rank_column places leaves leaf.number);
      worse = kind_in of_candidate of_rival candidate_in rival_in leaf.base (rank_column places leaves leaf.number);
      same = compared Eq (same_column places leaves leaf);
    }

    abbrev IsTermIn : Term → Type 0
    IsTermIn t = InRanking (ranking_of places leaves t)

    ranking_in : (t : Term) → IsTermIn t
    ranking_in = term_induction IsTermIn
        (λ leaf. subst InRanking (sym (ranking_of-Leaf places leaves leaf)) (leaf_in leaf))
        (λ p q first second. record {
          better =
              subst InCond (sym (better-Pareto places leaves p q))
              (either_in _ _ (both_in _ _ first.better (either_in _ _ second.better second.same)) (both_in _ _ first.same second.better));
          worse =
              subst InCond (sym (worse-Pareto places leaves p q))
              (either_in _ _ (both_in _ _ first.worse (either_in _ _ second.worse second.same)) (both_in _ _ first.same second.worse));
          same = subst InCond (sym (same-Pareto places leaves p q)) (both_in _ _ first.same second.same);
        })
        (λ p q first second. record {
          better = subst InCond (sym (better-Prior places leaves p q)) (either_in _ _ first.better (both_in _ _ first.same second.better));
          worse = subst InCond (sym (worse-Prior places leaves p q)) (either_in _ _ first.worse (both_in _ _ first.same second.worse));
          same = subst InCond (sym (same-Prior places leaves p q)) (both_in _ _ first.same second.same);
        })
        (λ p inner. record {
          better = subst InCond (sym (better-Dual places leaves p)) inner.worse;
          worse = subst InCond (sym (worse-Dual places leaves p)) inner.better;
          same = subst InCond (sym (same-Dual places leaves p)) inner.same;
        })

    pub better_in : (t : Term) → InCond (ranking_of places leaves t).better
    better_in t = (ranking_in t).better
