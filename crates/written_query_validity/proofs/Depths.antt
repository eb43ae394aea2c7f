-- How deep the text of each part of a query nests, by the parts below it.
use Rattle.std.proofs.Common.{◌≡◌, ℤ, ℕ, ◌+◌, Bool, Option, Some, None, List, map, max, refl, sym, ap, ◌∙◌, rules}
use Rattle.std.specs.Option.{option_map}
use Rattle.std.proofs.lemmas.Simd.{map-map}
use Rattle.prefsql_values.specs.Nesting.{Standing, after_not, alone, deepest, in_and, in_or, in_parentheses, wraps_and, wraps_not, wraps_or}
use Rattle.prefsql_values.specs.declared.value.CompareOp.{CompareOp}
use Rattle.prefsql_tables.specs.declared.place.SortKey.{SortKey}
use Rattle.sql_tree.specs.declared.tree.SqlCond.{SqlCond, And, Or, Not, Compare, Between, OneOf, IsNull, Exists, fold-SqlCond}
use Rattle.sql_tree.specs.declared.tree.SqlCond.TheFolds.{the_lemmas, fold-roll-SqlScalar, fold_out-SqlQuery}
use Rattle.sql_tree.specs.declared.tree.SqlCond.TheOpen.{SqlScalar-F, SqlQuery-F}
use Rattle.sql_tree.specs.declared.tree.SqlCond.TheShapes.{former-SqlQuery-filter}
use Rattle.sql_tree.specs.declared.tree.SqlCond.TheViews.{rolls-Case}
use Rattle.sql_tree.specs.declared.tree.SqlScalar.{SqlScalar, Column, Number, Chars, Sum, Case, fold-SqlScalar}
use Rattle.sql_tree.specs.declared.tree.SqlPlace.{SqlPlace}
use Rattle.sql_tree.specs.declared.tree.SqlTable.{SqlTable}
use Rattle.sql_tree.specs.declared.tree.SqlSource.{SqlSource, Table, Derived, fold-SqlSource}
use Rattle.sql_tree.specs.declared.tree.SqlFrom.{SqlFrom, fold-SqlFrom}
use Rattle.sql_tree.specs.declared.tree.SqlItem.{SqlItem, fold-SqlItem}
use Rattle.sql_tree.specs.declared.tree.SqlQuery.{SqlQuery, out-SqlQuery, out-roll-SqlQuery}
use Rattle.sql_tree.specs.declared.tree.SumTerm.{SumTerm, fold-SumTerm}
use Rattle.sql_tree.specs.declared.tree.SqlWhen.{SqlWhen, fold-SqlWhen}
use Rattle.sql_tree.specs.Nesting.{Level, cond_step, from_step, item_step, nesting, query_step, scalar_step, source_step, term_step, when_step, where_depth}
use Rattle.sql_tree.specs.Select.{select}

abbrev Parts : Type 0
Parts = SqlQuery-F SqlCond SqlScalar SqlSource SqlFrom SqlItem SqlQuery SqlWhen SumTerm

unfoldable pub cond_depth : SqlCond → Standing → ℕ
cond_depth = fold-SqlCond _ _ _ _ _ _ _ _ cond_step scalar_step source_step from_step item_step query_step when_step term_step

unfoldable pub scalar_depth : SqlScalar → ℕ
scalar_depth = fold-SqlScalar _ _ _ _ _ _ _ _ cond_step scalar_step source_step from_step item_step query_step when_step term_step

unfoldable pub source_depth : SqlSource → ℕ
source_depth = fold-SqlSource _ _ _ _ _ _ _ _ cond_step scalar_step source_step from_step item_step query_step when_step term_step

unfoldable pub from_depth : SqlFrom → ℕ
from_depth = fold-SqlFrom _ _ _ _ _ _ _ _ cond_step scalar_step source_step from_step item_step query_step when_step term_step

unfoldable pub item_depth : SqlItem → ℕ
item_depth = fold-SqlItem _ _ _ _ _ _ _ _ cond_step scalar_step source_step from_step item_step query_step when_step term_step

unfoldable pub when_depth : SqlWhen → ℕ
when_depth = fold-SqlWhen _ _ _ _ _ _ _ _ cond_step scalar_step source_step from_step item_step query_step when_step term_step

unfoldable pub term_depth : SumTerm → ℕ
term_depth = fold-SumTerm _ _ _ _ _ _ _ _ cond_step scalar_step source_step from_step item_step query_step when_step term_step

pub depth-And : (parts : List SqlCond) (standing : Standing) → cond_depth (And parts) standing ≡ in_parentheses (wraps_and standing) (deepest (map (λ part. cond_depth part in_and) parts))
unfolding cond_depth scalar_depth source_depth from_depth item_depth nesting when_depth term_depth
depth-And parts standing = search (rules, the_lemmas, map-map)

pub depth-Or : (parts : List SqlCond) (standing : Standing) → cond_depth (Or parts) standing ≡ in_parentheses (wraps_or standing) (deepest (map (λ part. cond_depth part in_or) parts))
unfolding cond_depth scalar_depth source_depth from_depth item_depth nesting when_depth term_depth
depth-Or parts standing = search (rules, the_lemmas, map-map)

pub depth-Not : (part : SqlCond) (standing : Standing) → cond_depth (Not part) standing ≡ in_parentheses (wraps_not standing) (cond_depth part after_not)
unfolding cond_depth scalar_depth source_depth from_depth item_depth nesting when_depth term_depth
depth-Not part standing = search (rules, the_lemmas)

pub depth-Compare : (op : CompareOp) (a b : SqlScalar) (standing : Standing) → cond_depth (Compare op a b) standing ≡ max (scalar_depth a) (scalar_depth b)
unfolding cond_depth scalar_depth source_depth from_depth item_depth nesting when_depth term_depth
depth-Compare op a b standing = search (rules, the_lemmas)

pub depth-Between : (negate : Bool) (a low high : SqlScalar) (standing : Standing) → cond_depth (Between negate a low high) standing ≡ max (scalar_depth a) (max (scalar_depth low) (scalar_depth high))
unfolding cond_depth scalar_depth source_depth from_depth item_depth nesting when_depth term_depth
depth-Between negate a low high standing = search (rules, the_lemmas)

pub depth-OneOf : (negate : Bool) (a : SqlScalar) (list : List SqlScalar) (standing : Standing) → cond_depth (OneOf negate a list) standing ≡ max (scalar_depth a) (deepest (map scalar_depth list) + 1)
unfolding cond_depth scalar_depth source_depth from_depth item_depth nesting when_depth term_depth
depth-OneOf negate a list standing = search (rules, the_lemmas)

pub depth-IsNull : (negate : Bool) (a : SqlScalar) (standing : Standing) → cond_depth (IsNull negate a) standing ≡ scalar_depth a
unfolding cond_depth scalar_depth source_depth from_depth item_depth nesting when_depth term_depth
depth-IsNull negate a standing = search (rules, the_lemmas)

pub depth-Exists : (query : SqlQuery) (standing : Standing) → cond_depth (Exists query) standing ≡ nesting query + 1
unfolding cond_depth scalar_depth source_depth from_depth item_depth nesting when_depth term_depth
depth-Exists query standing = search (rules, the_lemmas)

pub depth-Column : (place : SqlPlace) → scalar_depth (Column place) ≡ 0
unfolding cond_depth scalar_depth source_depth from_depth item_depth nesting when_depth term_depth
depth-Column place = search (rules, the_lemmas)

pub depth-Number : (n : ℤ) → scalar_depth (Number n) ≡ 0
unfolding cond_depth scalar_depth source_depth from_depth item_depth nesting when_depth term_depth
depth-Number n = search (rules, the_lemmas)

pub depth-Chars : (text : List ℕ) → scalar_depth (Chars text) ≡ 0
unfolding cond_depth scalar_depth source_depth from_depth item_depth nesting when_depth term_depth
depth-Chars text = search (rules, the_lemmas)

pub depth-Sum : (terms : List SumTerm) → scalar_depth (Sum terms) ≡ deepest (map term_depth terms)
unfolding cond_depth scalar_depth source_depth from_depth item_depth nesting when_depth term_depth
depth-Sum terms = search (rules, the_lemmas)

pub depth-Case_None : (whens : List SqlWhen) → scalar_depth (Case whens None) ≡ max (deepest (map when_depth whens)) 0 + 1
unfolding cond_depth scalar_depth source_depth from_depth item_depth nesting when_depth term_depth
depth-Case_None whens =
    ap scalar_depth (sym (rolls-Case whens None))
    ∙ fold-roll-SqlScalar _ _ _ _ _ _ _ _ cond_step scalar_step source_step from_step item_step query_step when_step term_step (SqlScalar-F.Case whens None)

pub depth-Case_Some : (whens : List SqlWhen) (last : SqlScalar) → scalar_depth (Case whens (Some last)) ≡ max (deepest (map when_depth whens)) (scalar_depth last) + 1
unfolding cond_depth scalar_depth source_depth from_depth item_depth nesting when_depth term_depth
depth-Case_Some whens last =
    ap scalar_depth (sym (rolls-Case whens (Some last)))
    ∙ fold-roll-SqlScalar _ _ _ _ _ _ _ _ cond_step scalar_step source_step from_step item_step query_step when_step term_step (SqlScalar-F.Case whens (Some last))

pub when_depth_is : (when : SqlWhen) → when_depth when ≡ max (cond_depth when.cond alone) (scalar_depth when.value)
unfolding cond_depth scalar_depth source_depth from_depth item_depth nesting when_depth term_depth
when_depth_is when = search (rules, the_lemmas)

pub term_depth_is : (term : SumTerm) → term_depth term ≡ scalar_depth term.scalar
unfolding cond_depth scalar_depth source_depth from_depth item_depth nesting when_depth term_depth
term_depth_is term = search (rules, the_lemmas)

pub item_depth_is : (item : SqlItem) → item_depth item ≡ scalar_depth item.value
unfolding cond_depth scalar_depth source_depth from_depth item_depth nesting when_depth term_depth
item_depth_is item = search (rules, the_lemmas)

pub from_depth_is : (from : SqlFrom) → from_depth from ≡ source_depth from.source
unfolding cond_depth scalar_depth source_depth from_depth item_depth nesting when_depth term_depth
from_depth_is from = search (rules, the_lemmas)

pub source_depth-Table : (table : SqlTable) → source_depth (Table table) ≡ 0
unfolding cond_depth scalar_depth source_depth from_depth item_depth nesting when_depth term_depth
source_depth-Table table = search (rules, the_lemmas)

pub source_depth-Derived : (query : SqlQuery) → source_depth (Derived query) ≡ nesting query + 1
unfolding cond_depth scalar_depth source_depth from_depth item_depth nesting when_depth term_depth
source_depth-Derived query = search (rules, the_lemmas)

-- ---- queries

abbrev layer : Parts → Level SqlQuery-F
layer parts = record {
  distinct = parts.distinct;
  items = map item_depth parts.items;
  from = map from_depth parts.from;
  filter = option_map cond_depth parts.filter;
  order = parts.order;
}

abbrev with_filter : SqlQuery → Option (Standing → ℕ) → Level SqlQuery-F
with_filter query filter = record {
  distinct = (out-SqlQuery query).distinct;
  items = map item_depth (out-SqlQuery query).items;
  from = map from_depth (out-SqlQuery query).from;
  filter = filter;
  order = (out-SqlQuery query).order;
}

mapped_filter : (o : Option SqlCond) → former-SqlQuery-filter.map SqlCond (Standing → ℕ) cond_depth o ≡ option_map cond_depth o
mapped_filter None = refl
mapped_filter (Some cond) = refl

depth_out : (query : SqlQuery) → nesting query ≡ query_step (layer (out-SqlQuery query))
unfolding cond_depth scalar_depth source_depth from_depth item_depth nesting when_depth term_depth
depth_out query =
    fold_out-SqlQuery _ _ _ _ _ _ _ _ cond_step scalar_step source_step from_step item_step query_step when_step term_step query
    ∙ ap (λ filter. query_step (with_filter query filter)) (mapped_filter (out-SqlQuery query).filter)

pub depth-select : (distinct : Bool) (items : List SqlItem) (from : List SqlFrom) (filter : Option SqlCond) (order : List SortKey)
    → nesting (select distinct items from filter order) ≡ max (deepest (map item_depth items)) (max (deepest (map from_depth from)) (where_depth (option_map cond_depth filter)))
depth-select distinct items from filter order =
    depth_out (select distinct items from filter order)
    ∙ ap (λ (parts : Parts). query_step (layer parts)) (out-roll-SqlQuery (record { distinct = distinct; items = items; from = from; filter = filter; order = order }))
