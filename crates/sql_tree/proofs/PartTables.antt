-- The tables that each part of a query names, by those of the parts below it.
use Rattle.std.proofs.Common.{◌≡◌, ◌+◌, ℕ, ℤ, Bool, Option, Some, None, List, [], ◌∷◌, ◌++◌, map, refl, sym, ap, ◌∙◌, rules}
use Rattle.std.specs.List.{flat_map}
use Rattle.prefsql_values.specs.declared.value.CompareOp.{CompareOp}
use Rattle.sql_tree.specs.declared.tree.SqlCond.{SqlCond, And, Or, Not, Compare, Between, OneOf, IsNull, Exists}
use Rattle.sql_tree.specs.declared.tree.SqlCond.TheFolds.{the_lemmas, fold-roll-SqlScalar, fold_out-SqlQuery}
use Rattle.sql_tree.specs.declared.tree.SqlCond.TheOpen.{SqlScalar-F}
use Rattle.sql_tree.specs.declared.tree.SqlCond.TheShapes.{former-SqlQuery-filter}
use Rattle.sql_tree.specs.declared.tree.SqlCond.TheViews.{rolls-Case}
use Rattle.sql_tree.specs.declared.tree.SqlScalar.{SqlScalar, Number, Sum, Case}
use Rattle.sql_tree.specs.declared.tree.SqlScalar as scalar
use Rattle.sql_tree.specs.declared.tree.SqlPlace.{SqlPlace}
use Rattle.sql_tree.specs.declared.tree.SqlTable.{SqlTable}
use Rattle.sql_tree.specs.declared.tree.SqlSource.{Table, Derived}
use Rattle.sql_tree.specs.declared.tree.SqlFrom.{SqlFrom}
use Rattle.sql_tree.specs.declared.tree.SqlItem.{SqlItem}
use Rattle.sql_tree.specs.declared.tree.SqlQuery.{SqlQuery, out-SqlQuery}
use Rattle.sql_tree.specs.declared.tree.SumTerm.{SumTerm}
use Rattle.sql_tree.specs.declared.tree.SqlWhen.{SqlWhen}
use Rattle.sql_tree.specs.Fits.{cond_step, cond_tables, filter_tables, from_step, from_tables, if_written, item_step, item_tables, otherwise_tables, query_step, scalar_step, scalar_tables, source_step, source_tables, tables_of, term_step, term_tables, when_step, when_tables}
use Rattle.std.proofs.lemmas.List.Folds.{flat_map-map}
use Rattle.std.specs.Option.{option_map}

pub tables-And : (parts : List SqlCond) → cond_tables (And parts) ≡ flat_map cond_tables parts
unfolding cond_tables scalar_tables source_tables from_tables item_tables tables_of when_tables term_tables
tables-And parts = search (rules, the_lemmas, flat_map-map)

pub tables-Or : (parts : List SqlCond) → cond_tables (Or parts) ≡ flat_map cond_tables parts
unfolding cond_tables scalar_tables source_tables from_tables item_tables tables_of when_tables term_tables
tables-Or parts = search (rules, the_lemmas, flat_map-map)

pub tables-Not : (part : SqlCond) → cond_tables (Not part) ≡ cond_tables part
unfolding cond_tables scalar_tables source_tables from_tables item_tables tables_of when_tables term_tables
tables-Not part = search (rules, the_lemmas)

pub tables-Compare : (op : CompareOp) (a b : SqlScalar) → cond_tables (Compare op a b) ≡ scalar_tables a ++ scalar_tables b
unfolding cond_tables scalar_tables source_tables from_tables item_tables tables_of when_tables term_tables
tables-Compare op a b = search (rules, the_lemmas)

pub tables-Between : (negate : Bool) (a low high : SqlScalar) → cond_tables (Between negate a low high) ≡ scalar_tables a ++ scalar_tables low ++ scalar_tables high
unfolding cond_tables scalar_tables source_tables from_tables item_tables tables_of when_tables term_tables
tables-Between negate a low high = search (rules, the_lemmas)

pub tables-OneOf : (negate : Bool) (a : SqlScalar) (list : List SqlScalar) → cond_tables (OneOf negate a list) ≡ scalar_tables a ++ flat_map scalar_tables list
unfolding cond_tables scalar_tables source_tables from_tables item_tables tables_of when_tables term_tables
tables-OneOf negate a list = search (rules, the_lemmas, flat_map-map)

pub tables-IsNull : (negate : Bool) (a : SqlScalar) → cond_tables (IsNull negate a) ≡ scalar_tables a
unfolding cond_tables scalar_tables source_tables from_tables item_tables tables_of when_tables term_tables
tables-IsNull negate a = search (rules, the_lemmas)

pub tables-Exists : (query : SqlQuery) → cond_tables (Exists query) ≡ tables_of query
unfolding cond_tables scalar_tables source_tables from_tables item_tables tables_of when_tables term_tables
tables-Exists query = search (rules, the_lemmas)

pub tables-Column : (place : SqlPlace) → scalar_tables (scalar.Column place) ≡ []
unfolding cond_tables scalar_tables source_tables from_tables item_tables tables_of when_tables term_tables
tables-Column place = search (rules, the_lemmas)

pub tables-Number : (n : ℤ) → scalar_tables (Number n) ≡ []
unfolding cond_tables scalar_tables source_tables from_tables item_tables tables_of when_tables term_tables
tables-Number n = search (rules, the_lemmas)

pub tables-Chars : (text : List ℕ) → scalar_tables (scalar.Chars text) ≡ []
unfolding cond_tables scalar_tables source_tables from_tables item_tables tables_of when_tables term_tables
tables-Chars text = search (rules, the_lemmas)

pub tables-Sum : (terms : List SumTerm) → scalar_tables (Sum terms) ≡ flat_map term_tables terms
unfolding cond_tables scalar_tables source_tables from_tables item_tables tables_of when_tables term_tables
tables-Sum terms = search (rules, the_lemmas, flat_map-map)

pub tables-Table : (table : SqlTable) → source_tables (Table table) ≡ table ∷ []
unfolding cond_tables scalar_tables source_tables from_tables item_tables tables_of when_tables term_tables
tables-Table table = search (rules, the_lemmas)

pub tables-Derived : (query : SqlQuery) → source_tables (Derived query) ≡ tables_of query
unfolding cond_tables scalar_tables source_tables from_tables item_tables tables_of when_tables term_tables
tables-Derived query = search (rules, the_lemmas)

pub tables-when : (when : SqlWhen) → when_tables when ≡ cond_tables when.cond ++ scalar_tables when.value
unfolding cond_tables scalar_tables source_tables from_tables item_tables tables_of when_tables term_tables
tables-when when = search (rules, the_lemmas)

pub tables-term : (term : SumTerm) → term_tables term ≡ scalar_tables term.scalar
unfolding cond_tables scalar_tables source_tables from_tables item_tables tables_of when_tables term_tables
tables-term term = search (rules, the_lemmas)

pub tables-item : (item : SqlItem) → item_tables item ≡ scalar_tables item.value
unfolding cond_tables scalar_tables source_tables from_tables item_tables tables_of when_tables term_tables
tables-item item = search (rules, the_lemmas)

pub tables-from : (from : SqlFrom) → from_tables from ≡ source_tables from.source
unfolding cond_tables scalar_tables source_tables from_tables item_tables tables_of when_tables term_tables
tables-from from = search (rules, the_lemmas)

tables-Case_None : (whens : List SqlWhen) → scalar_tables (Case whens None) ≡ flat_map when_tables whens ++ []
unfolding cond_tables scalar_tables source_tables from_tables item_tables tables_of when_tables term_tables
tables-Case_None whens = search (rules, the_lemmas, flat_map-map)

tables-Case_Some : (whens : List SqlWhen) (last : SqlScalar) → scalar_tables (Case whens (Some last)) ≡ flat_map when_tables whens ++ scalar_tables last
unfolding cond_tables scalar_tables source_tables from_tables item_tables tables_of when_tables term_tables
tables-Case_Some whens last =
    ap scalar_tables (sym (rolls-Case whens (Some last)))
    ∙ fold-roll-SqlScalar _ _ _ _ _ _ _ _ cond_step scalar_step source_step from_step item_step query_step when_step term_step (SqlScalar-F.Case whens (Some last))
    ∙ ap (λ front. front ++ scalar_tables last) (flat_map-map (λ below. below) when_tables whens)

filter_written : (filter : Option SqlCond) → if_written (former-SqlQuery-filter.map SqlCond (List SqlTable) cond_tables filter) ≡ filter_tables filter
filter_written None = refl
filter_written (Some cond) = refl

pub tables-query : (query : SqlQuery) → tables_of query ≡ flat_map item_tables (out-SqlQuery query).items ++ flat_map from_tables (out-SqlQuery query).from ++ filter_tables (out-SqlQuery query).filter
unfolding cond_tables scalar_tables source_tables from_tables item_tables tables_of when_tables term_tables
tables-query query =
    fold_out-SqlQuery _ _ _ _ _ _ _ _ cond_step scalar_step source_step from_step item_step query_step when_step term_step query
    ∙ (λ j. flat_map-map (λ below. below) item_tables (out-SqlQuery query).items j ++ flat_map-map (λ below. below) from_tables (out-SqlQuery query).from j ++ filter_written (out-SqlQuery query).filter j)

pub tables-Case : (whens : List SqlWhen) (last : Option SqlScalar) → scalar_tables (Case whens last) ≡ flat_map when_tables whens ++ if_written (option_map scalar_tables last)
tables-Case whens None = tables-Case_None whens
tables-Case whens (Some last) = tables-Case_Some whens last

pub tables_case : (whens : List SqlWhen) (last : Option SqlScalar) → scalar_tables (Case whens last) ≡ flat_map when_tables whens ++ otherwise_tables last
tables_case whens None = tables-Case_None whens
tables_case whens (Some last) = tables-Case_Some whens last
