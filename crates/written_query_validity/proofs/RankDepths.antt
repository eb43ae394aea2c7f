-- How deep the text of the written query nests at most.
use Rattle.std.proofs.Common.{◌≡◌, pos, ℕ, ◌+◌, ◌≤◌, Bool, true, false, Option, List, [], ◌∷◌, ◌++◌, map, length, refl, subst, arith, inl, inr}
use Rattle.std.specs.List.{range_with_len}
use Rattle.std.specs.Option.{option_map}
use Rattle.prefsql_values.specs.Limits.{IsLiteralValue}
use Rattle.prefsql_values.specs.Nesting.{Standing, alone, deepest, in_and, in_or, in_parentheses, wraps_and, wraps_or}
use Rattle.prefsql_values.specs.declared.value.CompareOp.{CompareOp}
use Rattle.prefsql_values.specs.declared.value.CompareOp.TheVariants.{Eq, Lt, Gt}
use Rattle.prefsql_values.specs.declared.value.Value.{Value}
use Rattle.prefsql_values.specs.declared.value.Value.TheVariants.{Num, Str, Null}
use Rattle.prefsql_tables.specs.declared.place.SortKey.{SortKey}
use Rattle.order_laws.proofs.Members.{Among, among_either, among_map}
use Rattle.base_prefs.specs.Graph.{graph_values}
use Rattle.base_prefs.specs.declared.edge.Edge.{Edge}
use Rattle.base_prefs.specs.declared.edge.ValueSet.{ValueSet}
use Rattle.base_prefs.specs.declared.kind.Kind.{Kind}
use Rattle.base_prefs.specs.declared.kind.Kind.TheVariants.{Pos, Neg, PosPos, PosNeg, Layered, Explicit, Around, Between, Lowest, Highest}
use Rattle.sql_tree.specs.declared.tree.SqlCond.{SqlCond, And, Or, Not, Exists}
use Rattle.sql_tree.specs.declared.tree.SqlCond as sql
use Rattle.sql_tree.specs.declared.tree.SqlFrom.{SqlFrom}
use Rattle.sql_tree.specs.declared.tree.SqlItem.{SqlItem}
use Rattle.sql_tree.specs.declared.tree.SqlQuery.{SqlQuery}
use Rattle.sql_tree.specs.declared.tree.SqlScalar.{SqlScalar, Number}
use Rattle.sql_tree.specs.declared.tree.SqlSource.{Derived}
use Rattle.sql_tree.specs.declared.tree.SqlWhen.{SqlWhen}
use Rattle.sql_tree.specs.declared.tree.SumTerm.{SumTerm}
use Rattle.sql_tree.specs.Nesting.{nesting, where_depth}
use Rattle.sql_tree.specs.Select.{select}
use Rattle.rewritten_query.specs.Conditions.{conjunction}
use Rattle.rewritten_query.specs.Leaves.{cases, code_scalar, code_whens, greatest_level, is_among, less, level_when, level_whens, literal, number, rank_scalar, set_whens, values_of_level, when_so}
use Rattle.written_query_validity.proofs.Depths.{cond_depth, depth-And, depth-Case_None, depth-Case_Some, depth-Chars, depth-Compare, depth-Number, depth-OneOf, depth-Or, depth-Sum, depth-select, from_depth, from_depth_is, item_depth, item_depth_is, scalar_depth, source_depth-Derived, term_depth_is, when_depth, when_depth_is}

-- ---- small bounds

pub deepest_le : (depths : List ℕ) (n : ℕ) → ((d : ℕ) → Among depths d → d ≤ n) → deepest depths ≤ n
deepest_le [] n each = omega arith
deepest_le (d ∷ depths) n each = let here = each d (inl refl) in let more = deepest_le depths n (λ e there. each e (inr there)) in omega (arith, here, more)

pub deepest_map : {X : Type 0} (f : X → ℕ) (xs : List X) (n : ℕ) → ((x : X) → Among xs x → f x ≤ n) → deepest (map f xs) ≤ n
deepest_map f xs n each = deepest_le (map f xs) n (λ d there. let found = among_map f xs d there in let small = each found.0 found.1 in omega (arith, small, found.2))

pub deepest_along : {X Y : Type 0} (f : Y → ℕ) (h : X → Y) (g : X → ℕ) (xs : List X) → ((x : X) → Among xs x → f (h x) ≤ g x) → deepest (map f (map h xs)) ≤ deepest (map g xs)
deepest_along f h g [] each = omega arith
deepest_along f h g (x ∷ xs) each = let here = each x (inl refl) in let more = deepest_along f h g xs (λ y there. each y (inr there)) in omega (arith, here, more)

pub wrapped_more : (b : Bool) (d : ℕ) → in_parentheses b d ≤ d + 1
wrapped_more true d = omega arith
wrapped_more false d = omega arith

pub wrapped_along : (b : Bool) (d e : ℕ) → d ≤ e → in_parentheses b d ≤ in_parentheses b e
wrapped_along true d e less = omega (arith, less)
wrapped_along false d e less = less

-- the condition nests at most so deep wherever it stands
abbrev pub IsShallow : ℕ → SqlCond → Type 0
IsShallow n c = (standing : Standing) → cond_depth c standing ≤ n

And_shallow : (n : ℕ) (parts : List SqlCond) → ((c : SqlCond) → Among parts c → IsShallow n c) → IsShallow (n + 1) (And parts)
And_shallow n parts each standing =
    let inner = deepest_map (λ part. cond_depth part in_and) parts n (λ c there. each c there in_and) in
    omega (arith, depth-And parts standing, wrapped_more (wraps_and standing) (deepest (map (λ part. cond_depth part in_and) parts)), inner)

pub Or_shallow : (n : ℕ) (parts : List SqlCond) → ((c : SqlCond) → Among parts c → IsShallow n c) → IsShallow (n + 1) (Or parts)
Or_shallow n parts each standing =
    let inner = deepest_map (λ part. cond_depth part in_or) parts n (λ c there. each c there in_or) in
    omega (arith, depth-Or parts standing, wrapped_more (wraps_or standing) (deepest (map (λ part. cond_depth part in_or) parts)), inner)

two_shallow : (n : ℕ) (a b c : SqlCond) → IsShallow n a → IsShallow n b → Among (a ∷ b ∷ []) c → IsShallow n c
two_shallow n a b c a_is b_is (inl same) = subst (IsShallow n) same a_is
two_shallow n a b c a_is b_is (inr (inl same)) = subst (IsShallow n) same b_is
two_shallow n a b c a_is b_is (inr (inr none)) = absurd none

pub both_shallow : (n : ℕ) (a b : SqlCond) → IsShallow n a → IsShallow n b → IsShallow (n + 1) (And (a ∷ b ∷ []))
both_shallow n a b a_is b_is = And_shallow n (a ∷ b ∷ []) (λ c there. two_shallow n a b c a_is b_is there)

pub either_shallow : (n : ℕ) (a b : SqlCond) → IsShallow n a → IsShallow n b → IsShallow (n + 1) (Or (a ∷ b ∷ []))
either_shallow n a b a_is b_is = Or_shallow n (a ∷ b ∷ []) (λ c there. two_shallow n a b c a_is b_is there)

pub deeper : (n m : ℕ) (c : SqlCond) → n ≤ m → IsShallow n c → IsShallow m c
deeper n m c less is standing = let small = is standing in omega (arith, small, less)

pub conjunction_shallow : (n : ℕ) (conds : List SqlCond) → ((c : SqlCond) → Among conds c → IsShallow n c) → where_depth (option_map cond_depth (conjunction conds)) ≤ n + 1
conjunction_shallow n [] each = omega arith
conjunction_shallow n (c ∷ []) each = let small = each c (inl refl) alone in omega (arith, small)
conjunction_shallow n (c ∷ other ∷ more) each = And_shallow n (c ∷ other ∷ more) each alone

-- ---- queries

pub select_depth : (n : ℕ) (distinct : Bool) (items : List SqlItem) (from : List SqlFrom) (filter : Option SqlCond) (order : List SortKey)
    → ((item : SqlItem) → Among items item → scalar_depth item.value ≤ n) → ((f : SqlFrom) → Among from f → from_depth f ≤ n) → where_depth (option_map cond_depth filter) ≤ n
    → nesting (select distinct items from filter order) ≤ n
select_depth n distinct items from filter order each_item each_from filter_is =
    let first = deepest_map item_depth items n (λ item there. let small = each_item item there in omega (arith, item_depth_is item, small)) in
    let second = deepest_map from_depth from n each_from in
    omega (arith, depth-select distinct items from filter order, first, second, filter_is)

pub derived_depth : (n : ℕ) (name : List ℕ) (query : SqlQuery) → nesting query ≤ n → (f : SqlFrom) → Among (record { name = name; source = Derived query } ∷ []) f → from_depth f ≤ n + 1
derived_depth n name query small f (inl same) =
    let from : SqlFrom = record { name = name; source = Derived query } in
    subst (λ g. from_depth g ≤ n + 1) same (omega (arith, from_depth_is from, source_depth-Derived query, small))
derived_depth n name query small f (inr none) = absurd none

-- ---- what a leaf ranks by

literal_depth : (v : Value) → scalar_depth (literal v) ≤ 1
literal_depth (Num n) = omega (arith, depth-Number n)
literal_depth (Str text) = omega (arith, depth-Chars text)
literal_depth Null = omega (arith, depth-Case_None [])

pub kept_literal_depth : (v : Value) → IsLiteralValue v → scalar_depth (literal v) ≤ 0
kept_literal_depth (Num n) is = omega (arith, depth-Number n)
kept_literal_depth (Str text) is = omega (arith, depth-Chars text)
kept_literal_depth Null is = absurd is

pub count_depth : (n : ℕ) → scalar_depth (number n) ≡ 0
count_depth n = depth-Number (pos n)

less_depth : (a b : SqlScalar) → scalar_depth a ≡ 0 → scalar_depth b ≡ 0 → scalar_depth (less a b) ≤ 0
less_depth a b a_is b_is =
    let first : SumTerm = record { minus = false; scalar = a } in
    let second : SumTerm = record { minus = true; scalar = b } in
    omega (arith, depth-Sum (first ∷ second ∷ []), term_depth_is first, term_depth_is second, a_is, b_is)

cases_depth : (whens : List SqlWhen) (last : SqlScalar) → ((w : SqlWhen) → Among whens w → when_depth w ≤ 2) → scalar_depth last ≤ 2 → scalar_depth (cases whens last) ≤ 3
cases_depth whens last each small = let inner = deepest_map when_depth whens 2 each in omega (arith, depth-Case_Some whens last, inner, small)

module _ (x : SqlScalar) (x_is : scalar_depth x ≡ 0) where
  among_depth : (values : List Value) → cond_depth (is_among x values) alone ≤ 2
  among_depth values =
      let inner = deepest_map scalar_depth (map literal values) 1 (λ s there. let found = among_map literal values s there in let small = literal_depth found.0 in subst (λ t. scalar_depth t ≤ 1) found.2 small) in
      omega (arith, depth-OneOf false x (map literal values) alone, inner, x_is)

  set_depth : (values : List Value) (n : ℕ) → when_depth (when_so (is_among x values) (number n)) ≤ 2
  set_depth values n =
      let w : SqlWhen = when_so (is_among x values) (number n) in
      let inner = among_depth values in
      omega (arith, when_depth_is w, inner, count_depth n)

  sets_depth : (n : ℕ) (sets : List ValueSet) (w : SqlWhen) → Among (set_whens x n sets) w → when_depth w ≤ 2
  sets_depth n [] w there = absurd there
  sets_depth n (s ∷ sets) w (inl same) = subst (λ v. when_depth v ≤ 2) same (set_depth s.values n)
  sets_depth n (s ∷ sets) w (inr more) = sets_depth (n + 1) sets w more

  compare_depth : (op : CompareOp) (b value : SqlScalar) → scalar_depth b ≤ 1 → scalar_depth value ≤ 2 → when_depth (when_so (sql.Compare op x b) value) ≤ 2
  compare_depth op b value small value_is =
      let w : SqlWhen = when_so (sql.Compare op x b) value in
      omega (arith, when_depth_is w, depth-Compare op x b alone, x_is, small, value_is)

  one_when : (v w : SqlWhen) → when_depth v ≤ 2 → Among (v ∷ []) w → when_depth w ≤ 2
  one_when v w small (inl same) = subst (λ u. when_depth u ≤ 2) same small
  one_when v w small (inr none) = absurd none

  two_whens : (u v w : SqlWhen) → when_depth u ≤ 2 → when_depth v ≤ 2 → Among (u ∷ v ∷ []) w → when_depth w ≤ 2
  two_whens u v w first second (inl same) = subst (λ t. when_depth t ≤ 2) same first
  two_whens u v w first second (inr more) = one_when v w second more

  number_two : (n : ℕ) → scalar_depth (number n) ≤ 2
  number_two n = omega (arith, count_depth n)

  codes_depth : (n : ℕ) (values : List Value) (w : SqlWhen) → Among (code_whens x n values) w → when_depth w ≤ 2
  codes_depth n [] w there = absurd there
  codes_depth n (v ∷ values) w (inl same) = subst (λ u. when_depth u ≤ 2) same (compare_depth Eq (literal v) (number n) (literal_depth v) (number_two n))
  codes_depth n (v ∷ values) w (inr more) = codes_depth (n + 1) values w more

  pub code_depth : (edges : List Edge) → scalar_depth (code_scalar edges x) ≤ 3
  code_depth edges = cases_depth (code_whens x 1 (graph_values edges)) (number 0) (codes_depth 1 (graph_values edges)) (number_two 0)

  pub rank_depth : (kind : Kind) → scalar_depth (rank_scalar kind x) ≤ 3
  rank_depth (Pos s) = cases_depth _ (number 2) (λ w there. one_when _ w (set_depth s.values 1) there) (number_two 2)
  rank_depth (Neg s) = cases_depth _ (number 1) (λ w there. one_when _ w (set_depth s.values 2) there) (number_two 1)
  rank_depth (PosPos s t) = cases_depth _ (number 3) (λ w there. two_whens _ _ w (set_depth s.values 1) (set_depth t.values 2) there) (number_two 3)
  rank_depth (PosNeg s t) = cases_depth _ (number 2) (λ w there. two_whens _ _ w (set_depth s.values 1) (set_depth t.values 3) there) (number_two 2)
  rank_depth (Layered before after) =
      cases_depth (set_whens x 1 before ++ set_whens x (length before + 2) after) (number (length before + 1))
      (λ w there. elim (among_either (set_whens x 1 before) (set_whens x (length before + 2) after) w there) [
        | inl early ↦ sets_depth 1 before w early
        | inr late ↦ sets_depth (length before + 2) after w late
      ])
      (number_two (length before + 1))
  rank_depth (Explicit g) =
      cases_depth (level_whens x g.edges) (number (greatest_level g.edges + 1))
      (λ w there.
      let found = among_map (level_when x g.edges) (range_with_len 1 (greatest_level g.edges)) w there in
      subst (λ v. when_depth v ≤ 2) found.2 (set_depth (values_of_level g.edges found.0) found.0))
      (number_two (greatest_level g.edges + 1))
  rank_depth (Around z) =
      let first = less_depth (Number z) x (depth-Number z) x_is in
      let second = less_depth x (Number z) x_is (depth-Number z) in
      cases_depth _ (less x (Number z)) (λ w there. one_when _ w (compare_depth Lt (Number z) (less (Number z) x) (omega (arith, depth-Number z)) (omega (arith, first))) there) (omega (arith, second))
  rank_depth (Between low up) =
      let first = less_depth (Number low) x (depth-Number low) x_is in
      let second = less_depth x (Number up) x_is (depth-Number up) in
      cases_depth _ (number 0)
      (λ w there.
      two_whens _ _ w (compare_depth Lt (Number low) (less (Number low) x) (omega (arith, depth-Number low)) (omega (arith, first)))
      (compare_depth Gt (Number up) (less x (Number up)) (omega (arith, depth-Number up)) (omega (arith, second))) there)
      (number_two 0)
  rank_depth Lowest = omega (arith, x_is)
  rank_depth Highest = omega (arith, x_is)
