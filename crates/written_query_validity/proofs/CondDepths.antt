-- The text of the written query nests at most 256 deep: its conditions as deep as those of the block, the better condition by
-- the leaves of the term.
use Rattle.std.proofs.Common.{◌≡◌, ℕ, ◌+◌, ◌*◌, ◌≤◌, Bool, true, false, cond, Some, List, [], ◌∷◌, map, length, max, refl, sym, ap, subst, ◌∙◌, arith, inl, inr, length-append}
use Rattle.std.specs.List.{flat_map}
use Rattle.std.specs.Option.{option_map}
use Rattle.prefsql_values.specs.Nesting.{Standing, after_not, alone, deepest, in_and, in_or, wraps_and, wraps_not, wraps_or}
use Rattle.prefsql_values.specs.declared.value.CompareOp.{CompareOp}
use Rattle.prefsql_values.specs.declared.value.CompareOp.TheVariants.{Eq, Lt, Gt}
use Rattle.prefsql_values.specs.declared.value.Value.{Value}
use Rattle.prefsql_tables.specs.declared.place.ColumnPlace.{ColumnPlace}
use Rattle.order_laws.proofs.Members.{Among, among_flat_map, among_flat_mapped, among_map, among_mapped}
use Rattle.base_prefs.specs.Graph.{graph_values, is_above}
use Rattle.base_prefs.specs.declared.edge.Edge.{Edge}
use Rattle.base_prefs.specs.declared.kind.Kind.{Kind}
use Rattle.base_prefs.specs.declared.kind.Kind.TheVariants.{Pos, Neg, PosPos, PosNeg, Layered, Explicit, Around, Between, Lowest, Highest}
use Rattle.pref_terms.specs.Equations.{leaves_of-Leaf, leaves_of-Pareto, leaves_of-Prior, leaves_of-Dual}
use Rattle.pref_terms.specs.Induction.{term_induction}
use Rattle.pref_terms.specs.Terms.{leaves_of}
use Rattle.pref_terms.specs.declared.term.Leaf.{Leaf}
use Rattle.pref_terms.specs.declared.term.Term.{Term, Pareto, Prior, Dual}
use Rattle.pref_terms.specs.declared.term.Term as term
use Rattle.conditions.specs.Meaning.{scalars_of}
use Rattle.conditions.specs.declared.condition.Quality.{Quality}
use Rattle.conditions.specs.declared.condition.Scalar.{Scalar}
use Rattle.conditions.specs.declared.condition.Scalar.TheVariants as scalar
use Rattle.conditions.specs.declared.condition.Cond.{Cond}
use Rattle.conditions.specs.declared.condition.Cond as condition
use Rattle.conditions.proofs.CondInduction.{cond_induction_among}
use Rattle.conditions.proofs.CondReads.{scalars_of-And, scalars_of-Or, scalars_of-Not, scalars_of-Compare, scalars_of-Between, scalars_of-OneOf, scalars_of-IsNull, scalars_of-Top}
use Rattle.query_meaning.specs.Conjuncts.{joined}
use Rattle.query_meaning.specs.Nesting as block
use Rattle.query_meaning.specs.Nesting.{nesting_in}
use Rattle.query_meaning.proofs.CondParts.{nesting_in-And, nesting_in-Or, nesting_in-Not, nesting_in-Compare, nesting_in-Between, nesting_in-OneOf, nesting_in-IsNull, nesting_in-Top}
use Rattle.query_meaning.specs.declared.block.FromTable.{FromTable}
use Rattle.sql_tree.specs.declared.tree.SqlCond.{SqlCond, And, Or, Not, Exists}
use Rattle.sql_tree.specs.declared.tree.SqlCond as sql
use Rattle.sql_tree.specs.declared.tree.SqlScalar.{SqlScalar}
use Rattle.sql_tree.specs.Nesting.{where_depth}
use Rattle.rewritten_query.specs.Conditions.{best_rank, cond_put, conjunction, scalar_put}
use Rattle.rewritten_query.specs.Leaves.{less, number}
use Rattle.rewritten_query.specs.Names.{column_up}
use Rattle.rewritten_query.specs.Rankings.{Ranking, admits_null, code_part, code_parts, codes_where, group_cond, kind_better, of_candidate, of_rival, ranking_of, same_column}
use Rattle.rewritten_query.specs.Columns.{number_among, rank_column}
use Rattle.rewritten_query.proofs.ConditionReads.{put, put-And, put-Or, put-Not, put-Compare, put-Between, put-OneOf, put-IsNull, put-Top}
use Rattle.rewritten_query.proofs.RankingReads.{better-Pareto, better-Prior, better-Dual, worse-Pareto, worse-Prior, worse-Dual, ranking_of-Leaf, same-Pareto, same-Prior, same-Dual}
use Rattle.written_query_validity.proofs.Depths.{cond_depth, depth-And, depth-Between, depth-Column, depth-Compare, depth-IsNull, depth-Not, depth-OneOf, depth-Or, scalar_depth}
use Rattle.written_query_validity.proofs.RankDepths.{IsShallow, Or_shallow, both_shallow, count_depth, deeper, deepest_along, deepest_map, either_shallow, wrapped_along, wrapped_more}

-- ---- the conditions of a block

-- a condition nests at most one deeper where it is a part than where it stands alone
once_more : (c : Cond) (standing : Standing) → nesting_in c standing ≤ nesting_in c alone + 1
once_more = cond_induction_among (λ c. (standing : Standing) → nesting_in c standing ≤ nesting_in c alone + 1)
    (λ parts each standing. omega (arith, nesting_in-And parts standing, nesting_in-And parts alone, wrapped_more (wraps_and standing) (deepest (map (λ part. nesting_in part in_and) parts))))
    (λ parts each standing. omega (arith, nesting_in-Or parts standing, nesting_in-Or parts alone, wrapped_more (wraps_or standing) (deepest (map (λ part. nesting_in part in_or) parts))))
    (λ part is standing. omega (arith, nesting_in-Not part standing, nesting_in-Not part alone, wrapped_more (wraps_not standing) (nesting_in part after_not)))
    (λ op a b standing. omega (arith, nesting_in-Compare op a b standing))
    (λ negate a low high standing. omega (arith, nesting_in-Between negate a low high standing))
    (λ negate a list standing. omega (arith, nesting_in-OneOf negate a list standing, nesting_in-OneOf negate a list alone))
    (λ negate a standing. omega (arith, nesting_in-IsNull negate a standing))
    (λ quality standing. omega (arith, nesting_in-Top quality standing))

module _ (column : ColumnPlace → SqlScalar) (quality : Quality → SqlScalar) where
  -- each of the scalars is put as one without parentheses
  abbrev pub AreFlat : List Scalar → Type 0
  AreFlat scalars = (s : Scalar) → Among scalars s → scalar_depth (scalar_put column quality s) ≤ 0

  abbrev IsPutShallow : Cond → Type 0
  IsPutShallow c = AreFlat (scalars_of c) → (standing : Standing) → cond_depth (cond_put column quality c) standing ≤ nesting_in c standing

  part_flat : (parts : List Cond) (c : Cond) → Among parts c → AreFlat (flat_map (λ scalars. scalars) (map scalars_of parts)) → AreFlat (scalars_of c)
  part_flat parts c there flat s has = flat s (among_flat_mapped (λ scalars. scalars) (map scalars_of parts) (scalars_of c) s (among_mapped scalars_of parts c there) has)

  equal_depth : (c : Cond) (s : SqlCond) (standing : Standing) → cond_put column quality c ≡ s → cond_depth (cond_put column quality c) standing ≡ cond_depth s standing
  equal_depth c s standing is = ap (λ t. cond_depth t standing) is

  pub put_shallow : (c : Cond) → IsPutShallow c
  put_shallow = cond_induction_among IsPutShallow
      (λ parts each flat standing.
      let inner = deepest_along (λ part. cond_depth part in_and) (cond_put column quality) (λ part. nesting_in part in_and) parts (λ c there. each c there (part_flat parts c there (subst AreFlat (scalars_of-And parts) flat)) in_and) in
      let along = wrapped_along (wraps_and standing) _ _ inner in
      omega (arith, equal_depth (condition.And parts) _ standing (put-And column quality parts), depth-And (map (cond_put column quality) parts) standing, nesting_in-And parts standing, along))
      (λ parts each flat standing.
      let inner = deepest_along (λ part. cond_depth part in_or) (cond_put column quality) (λ part. nesting_in part in_or) parts (λ c there. each c there (part_flat parts c there (subst AreFlat (scalars_of-Or parts) flat)) in_or) in
      let along = wrapped_along (wraps_or standing) _ _ inner in
      omega (arith, equal_depth (condition.Or parts) _ standing (put-Or column quality parts), depth-Or (map (cond_put column quality) parts) standing, nesting_in-Or parts standing, along))
      (λ part is flat standing.
      let inner = is (subst AreFlat (scalars_of-Not part) flat) after_not in
      let along = wrapped_along (wraps_not standing) _ _ inner in
      omega (arith, equal_depth (condition.Not part) _ standing (put-Not column quality part), depth-Not (cond_put column quality part) standing, nesting_in-Not part standing, along))
      (λ op a b flat standing.
      let are = subst AreFlat (scalars_of-Compare op a b) flat in
      let a_is = are a (inl refl) in
      let b_is = are b (inr (inl refl)) in
      omega (arith, equal_depth (condition.Compare op a b) _ standing (put-Compare column quality op a b), depth-Compare op (put column quality a) (put column quality b) standing, a_is, b_is))
      (λ negate a low high flat standing.
      let are = subst AreFlat (scalars_of-Between negate a low high) flat in
      let a_is = are a (inl refl) in
      let low_is = are low (inr (inl refl)) in
      let high_is = are high (inr (inr (inl refl))) in
      omega (arith, equal_depth (condition.Between negate a low high) _ standing (put-Between column quality negate a low high), depth-Between negate (put column quality a) (put column quality low) (put column quality high) standing, a_is, low_is, high_is))
      (λ negate a list flat standing.
      let are = subst AreFlat (scalars_of-OneOf negate a list) flat in
      let a_is = are a (inl refl) in
      let inner = deepest_map scalar_depth (map (put column quality) list) 0 (λ s there. let found = among_map (put column quality) list s there in subst (λ t. scalar_depth t ≤ 0) found.2 (are found.0 (inr found.1))) in
      omega (arith, equal_depth (condition.OneOf negate a list) _ standing (put-OneOf column quality negate a list), depth-OneOf negate (put column quality a) (map (put column quality) list) standing, nesting_in-OneOf negate a list standing, a_is, inner))
      (λ negate a flat standing.
      let are = subst AreFlat (scalars_of-IsNull negate a) flat in
      let a_is = are a (inl refl) in
      omega (arith, equal_depth (condition.IsNull negate a) _ standing (put-IsNull column quality negate a), depth-IsNull negate (put column quality a) standing, a_is))
      (λ q flat standing.
      let are = subst AreFlat (scalars_of-Top q) flat in
      let q_is = are (scalar.Quality q) (inl refl) in
      omega (arith, equal_depth (condition.Top q) _ standing (put-Top column quality q), depth-Compare Eq (quality q) (number (best_rank q.base)) standing, count_depth (best_rank q.base), q_is))

  joined_flat : (conds : List Cond) → AreFlat (flat_map scalars_of conds) → AreFlat (flat_map (λ scalars. scalars) (map scalars_of conds))
  joined_flat conds flat s there =
      let list = among_flat_map (λ scalars. scalars) (map scalars_of conds) s there in
      let found = among_map scalars_of conds list.0 list.1 in
      flat s (among_flat_mapped scalars_of conds found.0 s found.1 (subst (λ scalars. Among scalars s) (sym found.2) list.2))

  -- conditions joined by AND, put into SQL and standing alone
  pub puts_alone : (conds : List Cond) → AreFlat (flat_map scalars_of conds) → where_depth (option_map cond_depth (conjunction (map (cond_put column quality) conds))) ≤ block.nesting (joined conds)
  puts_alone [] flat = omega arith
  puts_alone (c ∷ []) flat = put_shallow c (λ s there. flat s (among_flat_mapped scalars_of (c ∷ []) c s (inl refl) there)) alone
  puts_alone (c ∷ other ∷ more) flat =
      let conds = c ∷ other ∷ more in
      let whole = put_shallow (condition.And conds) (subst AreFlat (sym (scalars_of-And conds)) (joined_flat conds flat)) alone in
      omega (arith, equal_depth (condition.And conds) _ alone (put-And column quality conds), whole)

  -- the same as a part of a condition
  pub puts_shallow : (n : ℕ) (conds : List Cond) → AreFlat (flat_map scalars_of conds) → block.nesting (joined conds) ≤ n → (put_as : SqlCond) → conjunction (map (cond_put column quality) conds) ≡ Some put_as → IsShallow (n + 1) put_as
  puts_shallow n [] flat small put_as is standing = cc
  puts_shallow n (c ∷ []) flat small put_as is standing =
      let same : cond_put column quality c ≡ put_as = cc in
      let inner = put_shallow c (λ s there. flat s (among_flat_mapped scalars_of (c ∷ []) c s (inl refl) there)) standing in
      omega (arith, ap (λ t. cond_depth t standing) same, inner, once_more c standing, small)
  puts_shallow n (c ∷ other ∷ more) flat small put_as is standing =
      let conds = c ∷ other ∷ more in
      let same : And (map (cond_put column quality) conds) ≡ put_as = cc in
      let whole = put_shallow (condition.And conds) (subst AreFlat (sym (scalars_of-And conds)) (joined_flat conds flat)) standing in
      omega (arith, equal_depth (condition.And conds) _ standing (put-And column quality conds), ap (λ t. cond_depth t standing) same, whole, once_more (condition.And conds) standing, small)

-- ---- the conditions on a rival

pub column_up_depth : (up k : ℕ) → scalar_depth (column_up up k) ≡ 0
column_up_depth up k = depth-Column (record { up = up; item = 0; column = k })

compared_shallow : (op : CompareOp) (a b : SqlScalar) → scalar_depth a ≡ 0 → scalar_depth b ≡ 0 → IsShallow 0 (sql.Compare op a b)
compared_shallow op a b a_is b_is standing = omega (arith, depth-Compare op a b standing, a_is, b_is)

duel_shallow : (op : CompareOp) (k : ℕ) → IsShallow 0 (sql.Compare op (of_rival k) (of_candidate k))
duel_shallow op k = compared_shallow op (of_rival k) (of_candidate k) (column_up_depth 0 k) (column_up_depth 1 k)

null_shallow : (a : SqlScalar) → scalar_depth a ≡ 0 → IsShallow 0 (sql.IsNull false a)
null_shallow a a_is standing = omega (arith, depth-IsNull false a standing, a_is)

group_shallow_by : (k : ℕ) (b : Bool) → IsShallow 2 (cond b (Or (sql.Compare Eq (of_rival k) (of_candidate k) ∷ And (sql.IsNull false (of_rival k) ∷ sql.IsNull false (of_candidate k) ∷ []) ∷ [])) (sql.Compare Eq (of_rival k) (of_candidate k)))
group_shallow_by k true =
    either_shallow 1 _ _ (deeper 0 1 _ (omega arith) (duel_shallow Eq k)) (both_shallow 0 _ _ (null_shallow (of_rival k) (column_up_depth 0 k)) (null_shallow (of_candidate k) (column_up_depth 1 k)))
group_shallow_by k false = deeper 0 2 _ (omega arith) (duel_shallow Eq k)

pub group_shallow : (places : List ColumnPlace) (from : List FromTable) (place : ColumnPlace) → IsShallow 2 (group_cond places from place)
group_shallow places from place = group_shallow_by (number_among places place) (admits_null from place)

counts_depth : (codes : List ℕ) (s : SqlScalar) → Among (map number codes) s → scalar_depth s ≤ 0
counts_depth codes s there = let found = among_map number codes s there in subst (λ t. scalar_depth t ≤ 0) found.2 (omega (arith, count_depth found.0))

-- of two queries' columns, whichever is the upper one
module _ (u l : ℕ) where
  code_part_shallow : (edges : List Edge) (k n : ℕ) (v : Value) → IsShallow 2 (code_part (column_up u) (column_up l) edges k n v)
  code_part_shallow edges k n v =
      let codes = codes_where (is_above edges v) 1 (graph_values edges) in
      let list = number 0 ∷ map number codes in
      let inner = deepest_map scalar_depth list 0 (λ s there. elim there [
        | inl same ↦ subst (λ t. scalar_depth t ≤ 0) same (omega (arith, count_depth 0))
        | inr more ↦ counts_depth codes s more
      ]) in
      let among : IsShallow 1 (sql.OneOf false (column_up l k) list) = (λ standing. omega (arith, depth-OneOf false (column_up l k) list standing, column_up_depth l k, inner)) in
      both_shallow 1 _ _ (deeper 0 1 _ (omega arith) (compared_shallow Eq (column_up u k) (number n) (column_up_depth u k) (count_depth n))) among

  code_parts_shallow : (edges : List Edge) (k n : ℕ) (values : List Value) (c : SqlCond) → Among (code_parts (column_up u) (column_up l) edges k n values) c → IsShallow 2 c
  code_parts_shallow edges k n [] c there = absurd there
  code_parts_shallow edges k n (v ∷ values) c (inl same) = subst (IsShallow 2) same (code_part_shallow edges k n v)
  code_parts_shallow edges k n (v ∷ values) c (inr more) = code_parts_shallow edges k (n + 1) values c more

  lt_shallow : (op : CompareOp) (k : ℕ) → IsShallow 3 (sql.Compare op (column_up u k) (column_up l k))
  lt_shallow op k = deeper 0 3 _ (omega arith) (compared_shallow op (column_up u k) (column_up l k) (column_up_depth u k) (column_up_depth l k))

  kind_shallow : (kind : Kind) (k : ℕ) → IsShallow 3 (kind_better (column_up u) (column_up l) kind k)
  kind_shallow (Explicit g) k = Or_shallow 2 (code_parts (column_up u) (column_up l) g.edges (k + 1) 1 (graph_values g.edges)) (code_parts_shallow g.edges (k + 1) 1 (graph_values g.edges))
  kind_shallow (Pos s) k = lt_shallow Lt k
  kind_shallow (Neg s) k = lt_shallow Lt k
  kind_shallow (PosPos s t) k = lt_shallow Lt k
  kind_shallow (PosNeg s t) k = lt_shallow Lt k
  kind_shallow (Layered before after) k = lt_shallow Lt k
  kind_shallow (Around z) k = lt_shallow Lt k
  kind_shallow (Between low up) k = lt_shallow Lt k
  kind_shallow Lowest k = lt_shallow Lt k
  kind_shallow Highest k = lt_shallow Gt k

module _ (places : List ColumnPlace) (leaves : List Leaf) where
  -- each leaf adds three at most, to one leaf or more
  record IsRankingShallow (t : Term) : Type 0 where
    some : 1 ≤ length (leaves_of t)
    better : IsShallow (3 * length (leaves_of t)) (ranking_of places leaves t).better
    worse : IsShallow (3 * length (leaves_of t)) (ranking_of places leaves t).worse
    same : IsShallow (3 * length (leaves_of t)) (ranking_of places leaves t).same

  at : (n m : ℕ) (a b : SqlCond) → a ≡ b → n ≤ m → IsShallow n b → IsShallow m a
  at n m a b same less is = deeper n m a less (subst (IsShallow n) (sym same) is)

  leaf_shallow : (leaf : Leaf) → IsRankingShallow (term.Leaf leaf)
  leaf_shallow leaf =
      let one = ap length (leaves_of-Leaf leaf) in
      let is = ranking_of-Leaf places leaves leaf in
      record {
        some = omega (arith, one);
        better = at 3 _ _ _ (ap (λ (r : Ranking). r.better) is) (omega (arith, one)) (kind_shallow 0 1 leaf.base (rank_column places leaves leaf.number));
        worse = at 3 _ _ _ (ap (λ (r : Ranking). r.worse) is) (omega (arith, one)) (kind_shallow 1 0 leaf.base (rank_column places leaves leaf.number));
        same = at 0 _ _ _ (ap (λ (r : Ranking). r.same) is) (omega (arith, one)) (duel_shallow Eq (same_column places leaves leaf));
      }

  pareto_shallow : (p q : Term) → IsRankingShallow p → IsRankingShallow q → IsRankingShallow (Pareto p q)
  pareto_shallow p q p_is q_is =
      let a = length (leaves_of p) in
      let b = length (leaves_of q) in
      let n = max (3 * a) (3 * b) in
      let size : length (leaves_of (Pareto p q)) ≡ a + b = ap length (leaves_of-Pareto p q) ∙ length-append (leaves_of p) (leaves_of q) in
      let some = p_is.some in
      let also = q_is.some in
      record {
        some = omega (arith, size, some);
        better =
            at (n + 1 + 1 + 1) _ _ _ (better-Pareto places leaves p q) (omega (arith, size, some, also))
            (either_shallow (n + 1 + 1) _ _
            (both_shallow (n + 1) _ _ (deeper (3 * a) (n + 1) _ (omega arith) p_is.better) (either_shallow n _ _ (deeper (3 * b) n _ (omega arith) q_is.better) (deeper (3 * b) n _ (omega arith) q_is.same)))
            (both_shallow (n + 1) _ _ (deeper (3 * a) (n + 1) _ (omega arith) p_is.same) (deeper (3 * b) (n + 1) _ (omega arith) q_is.better)));
        worse =
            at (n + 1 + 1 + 1) _ _ _ (worse-Pareto places leaves p q) (omega (arith, size, some, also))
            (either_shallow (n + 1 + 1) _ _
            (both_shallow (n + 1) _ _ (deeper (3 * a) (n + 1) _ (omega arith) p_is.worse) (either_shallow n _ _ (deeper (3 * b) n _ (omega arith) q_is.worse) (deeper (3 * b) n _ (omega arith) q_is.same)))
            (both_shallow (n + 1) _ _ (deeper (3 * a) (n + 1) _ (omega arith) p_is.same) (deeper (3 * b) (n + 1) _ (omega arith) q_is.worse)));
        same = at (n + 1) _ _ _ (same-Pareto places leaves p q) (omega (arith, size, some, also)) (both_shallow n _ _ (deeper (3 * a) n _ (omega arith) p_is.same) (deeper (3 * b) n _ (omega arith) q_is.same));
      }

  prior_shallow : (p q : Term) → IsRankingShallow p → IsRankingShallow q → IsRankingShallow (Prior p q)
  prior_shallow p q p_is q_is =
      let a = length (leaves_of p) in
      let b = length (leaves_of q) in
      let n = max (3 * a) (3 * b) in
      let size : length (leaves_of (Prior p q)) ≡ a + b = ap length (leaves_of-Prior p q) ∙ length-append (leaves_of p) (leaves_of q) in
      let some = p_is.some in
      let also = q_is.some in
      record {
        some = omega (arith, size, some);
        better =
            at (n + 1 + 1) _ _ _ (better-Prior places leaves p q) (omega (arith, size, some, also))
            (either_shallow (n + 1) _ _ (deeper (3 * a) (n + 1) _ (omega arith) p_is.better) (both_shallow n _ _ (deeper (3 * a) n _ (omega arith) p_is.same) (deeper (3 * b) n _ (omega arith) q_is.better)));
        worse =
            at (n + 1 + 1) _ _ _ (worse-Prior places leaves p q) (omega (arith, size, some, also))
            (either_shallow (n + 1) _ _ (deeper (3 * a) (n + 1) _ (omega arith) p_is.worse) (both_shallow n _ _ (deeper (3 * a) n _ (omega arith) p_is.same) (deeper (3 * b) n _ (omega arith) q_is.worse)));
        same = at (n + 1) _ _ _ (same-Prior places leaves p q) (omega (arith, size, some, also)) (both_shallow n _ _ (deeper (3 * a) n _ (omega arith) p_is.same) (deeper (3 * b) n _ (omega arith) q_is.same));
      }

  dual_shallow : (p : Term) → IsRankingShallow p → IsRankingShallow (Dual p)
  dual_shallow p p_is =
      let size = ap length (leaves_of-Dual p) in
      let n = 3 * length (leaves_of p) in
      let some = p_is.some in
      record {
        some = omega (arith, size, some);
        better = at n _ _ _ (better-Dual places leaves p) (omega (arith, size)) p_is.worse;
        worse = at n _ _ _ (worse-Dual places leaves p) (omega (arith, size)) p_is.better;
        same = at n _ _ _ (same-Dual places leaves p) (omega (arith, size)) p_is.same;
      }

  pub better_shallow : (t : Term) → IsShallow (3 * length (leaves_of t)) (ranking_of places leaves t).better
  better_shallow t = (term_induction IsRankingShallow leaf_shallow pareto_shallow prior_shallow dual_shallow t).better
