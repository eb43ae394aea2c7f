-- The tables that each form of a part names, as the fold rolls it, by those of the parts below it.
use Rattle.std.proofs.Common.{◌≡◌, ℕ, ℤ, Bool, rules, Option, Some, None, List, [], ◌∷◌, ◌++◌, map}
use Rattle.std.specs.List.{flat_map}
use Rattle.sql_tree.specs.Fits.{cond_tables, scalar_tables, source_tables, from_tables, item_tables, when_tables, term_tables, tables_of, if_written, cond_step, scalar_step, source_step, from_step, item_step, query_step, when_step, term_step}
use Rattle.std.specs.Option.{option_map}
use Rattle.prefsql_values.specs.declared.value.CompareOp.{CompareOp}
use Rattle.prefsql_tables.specs.declared.place.SortKey.{SortKey}
use Rattle.sql_tree.specs.declared.tree.SqlCond.{SqlCond, roll-SqlCond}
use Rattle.sql_tree.specs.declared.tree.SqlCond.TheOpen.{SqlCond-F, SqlScalar-F, SqlSource-F}
use Rattle.sql_tree.specs.declared.tree.SqlCond.TheFolds.{the_lemmas, fold-roll-SqlCond, fold-roll-SqlScalar, fold-roll-SqlSource, fold-roll-SqlQuery}
use Rattle.sql_tree.specs.declared.tree.SqlScalar.{SqlScalar, roll-SqlScalar}
use Rattle.sql_tree.specs.declared.tree.SqlPlace.{SqlPlace}
use Rattle.sql_tree.specs.declared.tree.SqlTable.{SqlTable}
use Rattle.sql_tree.specs.declared.tree.SqlSource.{roll-SqlSource}
use Rattle.sql_tree.specs.declared.tree.SqlFrom.{SqlFrom}
use Rattle.sql_tree.specs.declared.tree.SqlItem.{SqlItem}
use Rattle.sql_tree.specs.declared.tree.SqlQuery.{SqlQuery, roll-SqlQuery}
use Rattle.sql_tree.specs.declared.tree.SumTerm.{SumTerm}
use Rattle.sql_tree.specs.declared.tree.SqlWhen.{SqlWhen}

pub tables-And : (parts : List SqlCond) → cond_tables (roll-SqlCond (SqlCond-F.And parts)) ≡ flat_map (λ below. below) (map cond_tables parts)
unfolding cond_tables scalar_tables source_tables from_tables item_tables tables_of when_tables term_tables
tables-And parts = (λ j. fold-roll-SqlCond _ _ _ _ _ _ _ _ cond_step scalar_step source_step from_step item_step query_step when_step term_step (SqlCond-F.And parts) j)

pub tables-Or : (parts : List SqlCond) → cond_tables (roll-SqlCond (SqlCond-F.Or parts)) ≡ flat_map (λ below. below) (map cond_tables parts)
unfolding cond_tables scalar_tables source_tables from_tables item_tables tables_of when_tables term_tables
tables-Or parts = (λ j. fold-roll-SqlCond _ _ _ _ _ _ _ _ cond_step scalar_step source_step from_step item_step query_step when_step term_step (SqlCond-F.Or parts) j)

pub tables-Not : (part : SqlCond) → cond_tables (roll-SqlCond (SqlCond-F.Not part)) ≡ cond_tables part
unfolding cond_tables scalar_tables source_tables from_tables item_tables tables_of when_tables term_tables
tables-Not part = (λ j. fold-roll-SqlCond _ _ _ _ _ _ _ _ cond_step scalar_step source_step from_step item_step query_step when_step term_step (SqlCond-F.Not part) j)

pub tables-Compare : (op : CompareOp) (a b : SqlScalar) → cond_tables (roll-SqlCond (SqlCond-F.Compare op a b)) ≡ scalar_tables a ++ scalar_tables b
unfolding cond_tables scalar_tables source_tables from_tables item_tables tables_of when_tables term_tables
tables-Compare op a b = (λ j. fold-roll-SqlCond _ _ _ _ _ _ _ _ cond_step scalar_step source_step from_step item_step query_step when_step term_step (SqlCond-F.Compare op a b) j)

pub tables-Between : (negated : Bool) (a low high : SqlScalar) → cond_tables (roll-SqlCond (SqlCond-F.Between negated a low high)) ≡ scalar_tables a ++ scalar_tables low ++ scalar_tables high
unfolding cond_tables scalar_tables source_tables from_tables item_tables tables_of when_tables term_tables
tables-Between negated a low high = (λ j. fold-roll-SqlCond _ _ _ _ _ _ _ _ cond_step scalar_step source_step from_step item_step query_step when_step term_step (SqlCond-F.Between negated a low high) j)

pub tables-OneOf : (negated : Bool) (a : SqlScalar) (list : List SqlScalar) → cond_tables (roll-SqlCond (SqlCond-F.OneOf negated a list)) ≡ scalar_tables a ++ flat_map (λ below. below) (map scalar_tables list)
unfolding cond_tables scalar_tables source_tables from_tables item_tables tables_of when_tables term_tables
tables-OneOf negated a list = (λ j. fold-roll-SqlCond _ _ _ _ _ _ _ _ cond_step scalar_step source_step from_step item_step query_step when_step term_step (SqlCond-F.OneOf negated a list) j)

pub tables-IsNull : (negated : Bool) (a : SqlScalar) → cond_tables (roll-SqlCond (SqlCond-F.IsNull negated a)) ≡ scalar_tables a
unfolding cond_tables scalar_tables source_tables from_tables item_tables tables_of when_tables term_tables
tables-IsNull negated a = (λ j. fold-roll-SqlCond _ _ _ _ _ _ _ _ cond_step scalar_step source_step from_step item_step query_step when_step term_step (SqlCond-F.IsNull negated a) j)

pub tables-Exists : (query : SqlQuery) → cond_tables (roll-SqlCond (SqlCond-F.Exists query)) ≡ tables_of query
unfolding cond_tables scalar_tables source_tables from_tables item_tables tables_of when_tables term_tables
tables-Exists query = (λ j. fold-roll-SqlCond _ _ _ _ _ _ _ _ cond_step scalar_step source_step from_step item_step query_step when_step term_step (SqlCond-F.Exists query) j)

pub tables-Column : (place : SqlPlace) → scalar_tables (roll-SqlScalar (SqlScalar-F.Column place)) ≡ []
unfolding cond_tables scalar_tables source_tables from_tables item_tables tables_of when_tables term_tables
tables-Column place = (λ j. fold-roll-SqlScalar _ _ _ _ _ _ _ _ cond_step scalar_step source_step from_step item_step query_step when_step term_step (SqlScalar-F.Column place) j)

pub tables-Number : (n : ℤ) → scalar_tables (roll-SqlScalar (SqlScalar-F.Number n)) ≡ []
unfolding cond_tables scalar_tables source_tables from_tables item_tables tables_of when_tables term_tables
tables-Number n = (λ j. fold-roll-SqlScalar _ _ _ _ _ _ _ _ cond_step scalar_step source_step from_step item_step query_step when_step term_step (SqlScalar-F.Number n) j)

pub tables-Chars : (text : List ℕ) → scalar_tables (roll-SqlScalar (SqlScalar-F.Chars text)) ≡ []
unfolding cond_tables scalar_tables source_tables from_tables item_tables tables_of when_tables term_tables
tables-Chars text = (λ j. fold-roll-SqlScalar _ _ _ _ _ _ _ _ cond_step scalar_step source_step from_step item_step query_step when_step term_step (SqlScalar-F.Chars text) j)

pub tables-Sum : (terms : List SumTerm) → scalar_tables (roll-SqlScalar (SqlScalar-F.Sum terms)) ≡ flat_map (λ below. below) (map term_tables terms)
unfolding cond_tables scalar_tables source_tables from_tables item_tables tables_of when_tables term_tables
tables-Sum terms = (λ j. fold-roll-SqlScalar _ _ _ _ _ _ _ _ cond_step scalar_step source_step from_step item_step query_step when_step term_step (SqlScalar-F.Sum terms) j)

pub tables-Case : (whens : List SqlWhen) (last : Option SqlScalar) → scalar_tables (roll-SqlScalar (SqlScalar-F.Case whens last)) ≡ flat_map (λ below. below) (map when_tables whens) ++ if_written (option_map scalar_tables last)
unfolding cond_tables scalar_tables source_tables from_tables item_tables tables_of when_tables term_tables
tables-Case whens None = (λ j. fold-roll-SqlScalar _ _ _ _ _ _ _ _ cond_step scalar_step source_step from_step item_step query_step when_step term_step (SqlScalar-F.Case whens None) j)
tables-Case whens (Some value) = (λ j. fold-roll-SqlScalar _ _ _ _ _ _ _ _ cond_step scalar_step source_step from_step item_step query_step when_step term_step (SqlScalar-F.Case whens (Some value)) j)

pub tables-Table : (table : SqlTable) → source_tables (roll-SqlSource (SqlSource-F.Table table)) ≡ table ∷ []
unfolding cond_tables scalar_tables source_tables from_tables item_tables tables_of when_tables term_tables
tables-Table table = (λ j. fold-roll-SqlSource _ _ _ _ _ _ _ _ cond_step scalar_step source_step from_step item_step query_step when_step term_step (SqlSource-F.Table table) j)

pub tables-Derived : (query : SqlQuery) → source_tables (roll-SqlSource (SqlSource-F.Derived query)) ≡ tables_of query
unfolding cond_tables scalar_tables source_tables from_tables item_tables tables_of when_tables term_tables
tables-Derived query = (λ j. fold-roll-SqlSource _ _ _ _ _ _ _ _ cond_step scalar_step source_step from_step item_step query_step when_step term_step (SqlSource-F.Derived query) j)

pub tables_from_is : (from0 : SqlFrom) → from_tables from0 ≡ source_tables from0.source
unfolding cond_tables scalar_tables source_tables from_tables item_tables tables_of when_tables term_tables
tables_from_is from0 = search (rules, the_lemmas)

pub tables_item_is : (item0 : SqlItem) → item_tables item0 ≡ scalar_tables item0.value
unfolding cond_tables scalar_tables source_tables from_tables item_tables tables_of when_tables term_tables
tables_item_is item0 = search (rules, the_lemmas)

pub tables_when_is : (when0 : SqlWhen) → when_tables when0 ≡ cond_tables when0.cond ++ scalar_tables when0.value
unfolding cond_tables scalar_tables source_tables from_tables item_tables tables_of when_tables term_tables
tables_when_is when0 = search (rules, the_lemmas)

pub tables_term_is : (term0 : SumTerm) → term_tables term0 ≡ scalar_tables term0.scalar
unfolding cond_tables scalar_tables source_tables from_tables item_tables tables_of when_tables term_tables
tables_term_is term0 = search (rules, the_lemmas)

pub tables_query_is : (distinct : Bool) (items : List SqlItem) (from : List SqlFrom) (filter : Option SqlCond) (order : List SortKey) →
    tables_of (roll-SqlQuery (record { distinct = distinct; items = items; from = from; filter = filter; order = order })) ≡ flat_map (λ below. below) (map item_tables items) ++ flat_map (λ below. below) (map from_tables from) ++ if_written (option_map cond_tables filter)
unfolding cond_tables scalar_tables source_tables from_tables item_tables tables_of when_tables term_tables
tables_query_is distinct items from None order = (λ j. fold-roll-SqlQuery _ _ _ _ _ _ _ _ cond_step scalar_step source_step from_step item_step query_step when_step term_step (record { distinct = distinct; items = items; from = from; filter = None; order = order }) j)
tables_query_is distinct items from (Some cond) order = (λ j. fold-roll-SqlQuery _ _ _ _ _ _ _ _ cond_step scalar_step source_step from_step item_step query_step when_step term_step (record { distinct = distinct; items = items; from = from; filter = (Some cond); order = order }) j)
