-- The conditions of a term say which of two candidates is better, and which are the same.
use Rattle.std.proofs.Common.{◌≡◌, ℕ, ◌+◌, pos, Bool, true, false, ◌&&◌, ◌||◌, List, [], ◌∷◌, All, refl, sym, ap, ◌∙◌, subst}
use Rattle.std.specs.Ordering.{int_cmp, is_eq, is_lt}
use Rattle.std.proofs.lemmas.List.Elements.{All-head}
use Rattle.prefsql_values.specs.declared.truth.Truth.TheVariants as truths
use Rattle.prefsql_values.specs.declared.value.CompareOp.TheVariants.{Eq, Lt, Gt}
use Rattle.prefsql_values.specs.declared.value.Value.{Value}
use Rattle.prefsql_values.specs.declared.value.Value.TheVariants.{Num, Str, Null}
use Rattle.prefsql_values.specs.Truth.{both_true, either_true}
use Rattle.prefsql_values.specs.Value.{comparison, truth_of}
use Rattle.prefsql_tables.specs.Sight.{Sight}
use Rattle.prefsql_tables.specs.Table.{Tables}
use Rattle.prefsql_tables.specs.declared.place.ColumnPlace.{ColumnPlace}
use Rattle.base_prefs.specs.declared.kind.Kind.{Kind}
use Rattle.base_prefs.specs.declared.kind.Kind.TheVariants.{Pos, Neg, PosPos, PosNeg, Layered, Explicit, Around, Between, Lowest, Highest}
use Rattle.base_prefs.specs.Kind.{IsJudged, better_of, key_of}
use Rattle.pref_terms.specs.declared.term.Leaf.{Leaf}
use Rattle.pref_terms.specs.declared.term.Term.{Term, Pareto, Prior, Dual}
use Rattle.pref_terms.specs.declared.term.Term as term
use Rattle.pref_terms.specs.Equations.{order_of-Leaf, order_of-Pareto, order_of-Prior, order_of-Dual, leaves_of-Leaf, leaves_of-Pareto, leaves_of-Prior, leaves_of-Dual}
use Rattle.pref_terms.specs.Induction.{term_induction}
use Rattle.pref_terms.proofs.Standings.{same_turned}
use Rattle.pref_terms.specs.TermLaws.{All-first, All-second}
use Rattle.pref_terms.specs.Terms.{Order, leaf_order, leaves_of, order_of}
use Rattle.sql_tree.specs.declared.tree.SqlCond.{SqlCond, And, Or, Compare}
use Rattle.sql_tree.specs.declared.tree.SqlScalar.{SqlScalar}
use Rattle.sql_tree.specs.Meaning.{Scopes, truth_in, value_in}
use Rattle.sql_tree.proofs.MeaningLemmas.{truth_in-And, truth_in-Or, truth_in-Compare}
use Rattle.written_query_meaning.specs.Held.{rank_of, code_of}
use Rattle.rewritten_query.proofs.RankingReads.{ranking_of-Leaf, better-Pareto, better-Prior, better-Dual, worse-Pareto, worse-Prior, worse-Dual, same-Pareto, same-Prior, same-Dual}
use Rattle.rewritten_query.specs.Rankings.{Ranking, kind_better, leaf_ranking, pareto_cond, prior_cond, ranking_of}
use Rattle.written_query_meaning.proofs.Compared.{both_of, either_of, equal_numbers, equal_when_negated, greater_numbers, less_numbers}
use Rattle.written_query_meaning.proofs.Graphs.{both_last, explicit_read}

-- ---- truths of two parts

pub either_last : (b : Bool) → either_true (truth_of b) truths.False ≡ truth_of b
either_last true = refl
either_last false = refl

module _ (tables : Tables) (scopes : Scopes) where
  pub and_read : (p q : SqlCond) (a b : Bool) → truth_in tables p scopes ≡ truth_of a → truth_in tables q scopes ≡ truth_of b → truth_in tables (And (p ∷ q ∷ [])) scopes ≡ truth_of (a && b)
  and_read p q a b p_is q_is =
      truth_in-And tables (p ∷ q ∷ []) scopes
      ∙ (λ j. both_true (p_is j) (both_true (q_is j) truths.True))
      ∙ ap (both_true (truth_of a)) (both_last b)
      ∙ both_of a b

  pub or_read : (p q : SqlCond) (a b : Bool) → truth_in tables p scopes ≡ truth_of a → truth_in tables q scopes ≡ truth_of b → truth_in tables (Or (p ∷ q ∷ [])) scopes ≡ truth_of (a || b)
  or_read p q a b p_is q_is =
      truth_in-Or tables (p ∷ q ∷ []) scopes
      ∙ (λ j. either_true (p_is j) (either_true (q_is j) truths.False))
      ∙ ap (either_true (truth_of a)) (either_last b)
      ∙ either_of a b

-- ---- kinds

-- the rank of every kind but HIGHEST is its key
rank_key : (kind : Kind) (v : Value) → IsJudged kind v → (kind ≡ Highest → ⊥) → rank_of kind v ≡ Num (key_of kind v)
rank_key (Pos s) v judged other = refl
rank_key (Neg s) v judged other = refl
rank_key (PosPos s t) v judged other = refl
rank_key (PosNeg s t) v judged other = refl
rank_key (Layered before after) v judged other = refl
rank_key (Explicit g) v judged other = refl
rank_key (Around z) v judged other = refl
rank_key (Between low up) v judged other = refl
rank_key Lowest (Num n) judged other = refl
rank_key Lowest (Str s) judged other = absurd judged
rank_key Lowest Null judged other = absurd judged
rank_key Highest v judged other = absurd (other refl)

module _ (tables : Tables) (scopes : Scopes) (r c : SqlScalar) (y x : Value) where
  less_read : (kind : Kind) → value_in tables r scopes ≡ rank_of kind y → value_in tables c scopes ≡ rank_of kind x → IsJudged kind y → IsJudged kind x → (kind ≡ Highest → ⊥)
      → truth_in tables (Compare Lt r c) scopes ≡ truth_of (is_lt (int_cmp (key_of kind y) (key_of kind x)))
  less_read kind rival candidate y_judged x_judged other =
      truth_in-Compare tables Lt r c scopes
      ∙ (λ j. comparison Lt ((rival ∙ rank_key kind y y_judged other) j) ((candidate ∙ rank_key kind x x_judged other) j))
      ∙ less_numbers (key_of kind y) (key_of kind x)

  equal_read : (kind : Kind) → value_in tables r scopes ≡ rank_of kind y → value_in tables c scopes ≡ rank_of kind x → IsJudged kind y → IsJudged kind x → (kind ≡ Highest → ⊥)
      → truth_in tables (Compare Eq r c) scopes ≡ truth_of (is_eq (int_cmp (key_of kind y) (key_of kind x)))
  equal_read kind rival candidate y_judged x_judged other =
      truth_in-Compare tables Eq r c scopes
      ∙ (λ j. comparison Eq ((rival ∙ rank_key kind y y_judged other) j) ((candidate ∙ rank_key kind x x_judged other) j))
      ∙ equal_numbers (key_of kind y) (key_of kind x)

highest_read : (tables : Tables) (scopes : Scopes) (r c : SqlScalar) (y x : Value) → value_in tables r scopes ≡ y → value_in tables c scopes ≡ x → IsJudged Highest y → IsJudged Highest x
    → truth_in tables (Compare Gt r c) scopes ≡ truth_of (better_of Highest y x)
highest_read tables scopes r c (Num m) (Num n) rival candidate y_judged x_judged =
    truth_in-Compare tables Gt r c scopes ∙ (λ j. comparison Gt (rival j) (candidate j)) ∙ greater_numbers m n
highest_read tables scopes r c (Num m) (Str t) rival candidate y_judged x_judged = absurd x_judged
highest_read tables scopes r c (Num m) Null rival candidate y_judged x_judged = absurd x_judged
highest_read tables scopes r c (Str s) x rival candidate y_judged x_judged = absurd y_judged
highest_read tables scopes r c Null x rival candidate y_judged x_judged = absurd y_judged

highest_same : (tables : Tables) (scopes : Scopes) (r c : SqlScalar) (y x : Value) → value_in tables r scopes ≡ y → value_in tables c scopes ≡ x → IsJudged Highest y → IsJudged Highest x
    → truth_in tables (Compare Eq r c) scopes ≡ truth_of (is_eq (int_cmp (key_of Highest y) (key_of Highest x)))
highest_same tables scopes r c (Num m) (Num n) rival candidate y_judged x_judged =
    truth_in-Compare tables Eq r c scopes ∙ (λ j. comparison Eq (rival j) (candidate j)) ∙ equal_numbers m n ∙ ap truth_of (equal_when_negated m n)
highest_same tables scopes r c (Num m) (Str t) rival candidate y_judged x_judged = absurd x_judged
highest_same tables scopes r c (Num m) Null rival candidate y_judged x_judged = absurd x_judged
highest_same tables scopes r c (Str s) x rival candidate y_judged x_judged = absurd y_judged
highest_same tables scopes r c Null x rival candidate y_judged x_judged = absurd y_judged

-- where the values at the columns of the upper one and of the lower one are those that the kind ranks by
pub record AreRanks (tables : Tables) (scopes : Scopes) (upper lower : ℕ → SqlScalar) (column : ℕ) (kind : Kind) (y x : Value) : Type 0 where
  pub upper_is : value_in tables (upper column) scopes ≡ rank_of kind y
  pub lower_is : value_in tables (lower column) scopes ≡ rank_of kind x
  pub upper_judged : IsJudged kind y
  pub lower_judged : IsJudged kind x

-- and behind them the codes
abbrev pub AreCodes : Tables → Scopes → (ℕ → SqlScalar) → (ℕ → SqlScalar) → ℕ → Kind → Value → Value → Type 0
AreCodes tables scopes upper lower column (Explicit g) y x =
    (value_in tables (upper column) scopes ≡ Num (pos (code_of g.edges y))) × (value_in tables (lower column) scopes ≡ Num (pos (code_of g.edges x)))
AreCodes tables scopes upper lower column kind y x = Unit {0}

module _ (tables : Tables) (scopes : Scopes) (upper lower : ℕ → SqlScalar) (column : ℕ) (y x : Value) where
  pub better_read : (kind : Kind) → AreRanks tables scopes upper lower column kind y x → AreCodes tables scopes upper lower (column + 1) kind y x → truth_in tables (kind_better upper lower kind column) scopes ≡ truth_of (better_of kind y x)
  better_read (Explicit g) ranks codes = explicit_read g.edges y x tables scopes upper lower (column + 1) codes.0 codes.1
  better_read Highest ranks codes = highest_read tables scopes (upper column) (lower column) y x ranks.upper_is ranks.lower_is ranks.upper_judged ranks.lower_judged
  better_read (Pos s) ranks codes = less_read tables scopes (upper column) (lower column) y x (Pos s) ranks.upper_is ranks.lower_is ranks.upper_judged ranks.lower_judged (λ e. cc)
  better_read (Neg s) ranks codes = less_read tables scopes (upper column) (lower column) y x (Neg s) ranks.upper_is ranks.lower_is ranks.upper_judged ranks.lower_judged (λ e. cc)
  better_read (PosPos s t) ranks codes = less_read tables scopes (upper column) (lower column) y x (PosPos s t) ranks.upper_is ranks.lower_is ranks.upper_judged ranks.lower_judged (λ e. cc)
  better_read (PosNeg s t) ranks codes = less_read tables scopes (upper column) (lower column) y x (PosNeg s t) ranks.upper_is ranks.lower_is ranks.upper_judged ranks.lower_judged (λ e. cc)
  better_read (Layered before after) ranks codes = less_read tables scopes (upper column) (lower column) y x (Layered before after) ranks.upper_is ranks.lower_is ranks.upper_judged ranks.lower_judged (λ e. cc)
  better_read (Around z) ranks codes = less_read tables scopes (upper column) (lower column) y x (Around z) ranks.upper_is ranks.lower_is ranks.upper_judged ranks.lower_judged (λ e. cc)
  better_read (Between low up) ranks codes = less_read tables scopes (upper column) (lower column) y x (Between low up) ranks.upper_is ranks.lower_is ranks.upper_judged ranks.lower_judged (λ e. cc)
  better_read Lowest ranks codes = less_read tables scopes (upper column) (lower column) y x Lowest ranks.upper_is ranks.lower_is ranks.upper_judged ranks.lower_judged (λ e. cc)

  pub same_key_read : (kind : Kind) → AreRanks tables scopes upper lower column kind y x → truth_in tables (Compare Eq (upper column) (lower column)) scopes ≡ truth_of (is_eq (int_cmp (key_of kind y) (key_of kind x)))
  same_key_read Highest ranks = highest_same tables scopes (upper column) (lower column) y x ranks.upper_is ranks.lower_is ranks.upper_judged ranks.lower_judged
  same_key_read (Explicit g) ranks = equal_read tables scopes (upper column) (lower column) y x (Explicit g) ranks.upper_is ranks.lower_is ranks.upper_judged ranks.lower_judged (λ e. cc)
  same_key_read (Pos s) ranks = equal_read tables scopes (upper column) (lower column) y x (Pos s) ranks.upper_is ranks.lower_is ranks.upper_judged ranks.lower_judged (λ e. cc)
  same_key_read (Neg s) ranks = equal_read tables scopes (upper column) (lower column) y x (Neg s) ranks.upper_is ranks.lower_is ranks.upper_judged ranks.lower_judged (λ e. cc)
  same_key_read (PosPos s t) ranks = equal_read tables scopes (upper column) (lower column) y x (PosPos s t) ranks.upper_is ranks.lower_is ranks.upper_judged ranks.lower_judged (λ e. cc)
  same_key_read (PosNeg s t) ranks = equal_read tables scopes (upper column) (lower column) y x (PosNeg s t) ranks.upper_is ranks.lower_is ranks.upper_judged ranks.lower_judged (λ e. cc)
  same_key_read (Layered before after) ranks = equal_read tables scopes (upper column) (lower column) y x (Layered before after) ranks.upper_is ranks.lower_is ranks.upper_judged ranks.lower_judged (λ e. cc)
  same_key_read (Around z) ranks = equal_read tables scopes (upper column) (lower column) y x (Around z) ranks.upper_is ranks.lower_is ranks.upper_judged ranks.lower_judged (λ e. cc)
  same_key_read (Between low up) ranks = equal_read tables scopes (upper column) (lower column) y x (Between low up) ranks.upper_is ranks.lower_is ranks.upper_judged ranks.lower_judged (λ e. cc)
  same_key_read Lowest ranks = equal_read tables scopes (upper column) (lower column) y x Lowest ranks.upper_is ranks.lower_is ranks.upper_judged ranks.lower_judged (λ e. cc)

-- ---- terms

-- the conditions are True exactly where the order says better and same, and never Unknown
pub record AreDecided (tables : Tables) (scopes : Scopes) (ranking : Ranking) (order : Order) (y x : Sight) : Type 0 where
  pub better : truth_in tables ranking.better scopes ≡ truth_of (order.better y x)
  pub worse : truth_in tables ranking.worse scopes ≡ truth_of (order.better x y)
  pub same : truth_in tables ranking.same scopes ≡ truth_of (order.same y x)

pareto_test : (b s c t : Bool) → ((b && (c || t)) || (s && c)) ≡ ((b && (c || t)) || ((b || s) && c))
pareto_test true s true t = refl
pareto_test true true false true = refl
pareto_test true true false false = refl
pareto_test true false false true = refl
pareto_test true false false false = refl
pareto_test false s c t = refl

module _ (tables : Tables) (scopes : Scopes) (places : List ColumnPlace) (leaves : List Leaf) (y x : Sight) where
  abbrev IsDecidedLeaf : Leaf → Type 0
  IsDecidedLeaf leaf = AreDecided tables scopes (leaf_ranking places leaves leaf) (leaf_order leaf) y x

  abbrev IsDecided : Term → Type 0
  IsDecided t = All IsDecidedLeaf (leaves_of t) → AreDecided tables scopes (ranking_of places leaves t) (order_of t) y x

  decided_leaf : (leaf : Leaf) → IsDecided (term.Leaf leaf)
  decided_leaf leaf all =
      let is = All-head IsDecidedLeaf leaf [] (subst (All IsDecidedLeaf) (leaves_of-Leaf leaf) all) in
      record {
        better = ap (λ (r : Ranking). truth_in tables r.better scopes) (ranking_of-Leaf places leaves leaf) ∙ is.better ∙ ap (λ (o : Order). truth_of (o.better y x)) (sym (order_of-Leaf leaf));
        worse = ap (λ (r : Ranking). truth_in tables r.worse scopes) (ranking_of-Leaf places leaves leaf) ∙ is.worse ∙ ap (λ (o : Order). truth_of (o.better x y)) (sym (order_of-Leaf leaf));
        same = ap (λ (r : Ranking). truth_in tables r.same scopes) (ranking_of-Leaf places leaves leaf) ∙ is.same ∙ ap (λ (o : Order). truth_of (o.same y x)) (sym (order_of-Leaf leaf));
      }

  same_read : (p q : Term) → AreDecided tables scopes (ranking_of places leaves p) (order_of p) y x → AreDecided tables scopes (ranking_of places leaves q) (order_of q) y x
      → truth_in tables (And ((ranking_of places leaves p).same ∷ (ranking_of places leaves q).same ∷ [])) scopes ≡ truth_of ((order_of p).same y x && (order_of q).same y x)
  same_read p q first second = and_read tables scopes (ranking_of places leaves p).same (ranking_of places leaves q).same ((order_of p).same y x) ((order_of q).same y x) first.same second.same

  -- by both parts alike, and by the first before the second, whichever way round
  pareto_read : (pb ps qb qs : SqlCond) (b s c t : Bool) → truth_in tables pb scopes ≡ truth_of b → truth_in tables ps scopes ≡ truth_of s → truth_in tables qb scopes ≡ truth_of c → truth_in tables qs scopes ≡ truth_of t
      → truth_in tables (pareto_cond pb ps qb qs) scopes ≡ truth_of ((b && (c || t)) || ((b || s) && c))
  pareto_read pb ps qb qs b s c t pb_is ps_is qb_is qs_is =
      or_read tables scopes (And (pb ∷ Or (qb ∷ qs ∷ []) ∷ [])) (And (ps ∷ qb ∷ [])) (b && (c || t)) (s && c)
      (and_read tables scopes pb (Or (qb ∷ qs ∷ [])) b (c || t) pb_is (or_read tables scopes qb qs c t qb_is qs_is))
      (and_read tables scopes ps qb s c ps_is qb_is)
      ∙ ap truth_of (pareto_test b s c t)

  prior_read : (pb ps qb : SqlCond) (b s c : Bool) → truth_in tables pb scopes ≡ truth_of b → truth_in tables ps scopes ≡ truth_of s → truth_in tables qb scopes ≡ truth_of c → truth_in tables (prior_cond pb ps qb) scopes ≡ truth_of (b || (s && c))
  prior_read pb ps qb b s c pb_is ps_is qb_is = or_read tables scopes pb (And (ps ∷ qb ∷ [])) b (s && c) pb_is (and_read tables scopes ps qb s c ps_is qb_is)

  -- the same condition, which is not exchanged, says the same whichever comes first
  same_back : (t : Term) → AreDecided tables scopes (ranking_of places leaves t) (order_of t) y x → truth_in tables (ranking_of places leaves t).same scopes ≡ truth_of ((order_of t).same x y)
  same_back t is = is.same ∙ ap truth_of (same_turned t y x)

  decided_pareto : (p q : Term) → IsDecided p → IsDecided q → IsDecided (Pareto p q)
  decided_pareto p q p_is q_is all =
      let both = subst (All IsDecidedLeaf) (leaves_of-Pareto p q) all in
      let first = p_is (All-first IsDecidedLeaf (leaves_of p) (leaves_of q) both) in
      let second = q_is (All-second IsDecidedLeaf (leaves_of p) (leaves_of q) both) in
      record {
        better =
            ap (λ (r : SqlCond). truth_in tables r scopes) (better-Pareto places leaves p q)
            ∙ pareto_read _ _ _ _ _ _ _ _ first.better first.same second.better second.same
            ∙ ap (λ (o : Order). truth_of (o.better y x)) (sym (order_of-Pareto p q));
        worse =
            ap (λ (r : SqlCond). truth_in tables r scopes) (worse-Pareto places leaves p q)
            ∙ pareto_read _ _ _ _ _ _ _ _ first.worse (same_back p first) second.worse (same_back q second)
            ∙ ap (λ (o : Order). truth_of (o.better x y)) (sym (order_of-Pareto p q));
        same =
            ap (λ (r : SqlCond). truth_in tables r scopes) (same-Pareto places leaves p q)
            ∙ same_read p q first second
            ∙ ap (λ (o : Order). truth_of (o.same y x)) (sym (order_of-Pareto p q));
      }

  decided_prior : (p q : Term) → IsDecided p → IsDecided q → IsDecided (Prior p q)
  decided_prior p q p_is q_is all =
      let both = subst (All IsDecidedLeaf) (leaves_of-Prior p q) all in
      let first = p_is (All-first IsDecidedLeaf (leaves_of p) (leaves_of q) both) in
      let second = q_is (All-second IsDecidedLeaf (leaves_of p) (leaves_of q) both) in
      record {
        better =
            ap (λ (r : SqlCond). truth_in tables r scopes) (better-Prior places leaves p q)
            ∙ prior_read _ _ _ _ _ _ first.better first.same second.better
            ∙ ap (λ (o : Order). truth_of (o.better y x)) (sym (order_of-Prior p q));
        worse =
            ap (λ (r : SqlCond). truth_in tables r scopes) (worse-Prior places leaves p q)
            ∙ prior_read _ _ _ _ _ _ first.worse (same_back p first) second.worse
            ∙ ap (λ (o : Order). truth_of (o.better x y)) (sym (order_of-Prior p q));
        same =
            ap (λ (r : SqlCond). truth_in tables r scopes) (same-Prior places leaves p q)
            ∙ same_read p q first second
            ∙ ap (λ (o : Order). truth_of (o.same y x)) (sym (order_of-Prior p q));
      }

  decided_dual : (p : Term) → IsDecided p → IsDecided (Dual p)
  decided_dual p p_is all =
      let inner = p_is (subst (All IsDecidedLeaf) (leaves_of-Dual p) all) in
      record {
        better = ap (λ (r : SqlCond). truth_in tables r scopes) (better-Dual places leaves p) ∙ inner.worse ∙ ap (λ (o : Order). truth_of (o.better y x)) (sym (order_of-Dual p));
        worse = ap (λ (r : SqlCond). truth_in tables r scopes) (worse-Dual places leaves p) ∙ inner.better ∙ ap (λ (o : Order). truth_of (o.better x y)) (sym (order_of-Dual p));
        same = ap (λ (r : SqlCond). truth_in tables r scopes) (same-Dual places leaves p) ∙ inner.same ∙ ap (λ (o : Order). truth_of (o.same y x)) (sym (order_of-Dual p));
      }

  pub term_decided : (t : Term) → All IsDecidedLeaf (leaves_of t) → AreDecided tables scopes (ranking_of places leaves t) (order_of t) y x
  term_decided = term_induction IsDecided decided_leaf decided_pareto decided_prior decided_dual
