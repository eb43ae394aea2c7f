-- Which sets of tables a query fits: a matter of the tables that it names, at every depth. The rule
-- is this project's own.
use Rattle.std.specs.Prelude.{Option, Some, None, List, [], ◌∷◌, ◌++◌, All}
use Rattle.std.specs.List.{flat_map}
use Rattle.prefsql_tables.specs.Table.{Tables, IsTableAt}
use Rattle.sql_tree.specs.declared.tree.SqlCond.TheOpen.{SqlCond-F, SqlScalar-F, SqlSource-F}
use Rattle.sql_tree.specs.declared.tree.SqlCond.TheOpen.{SqlFrom-F, SqlItem-F, SqlQuery-F}
use Rattle.sql_tree.specs.declared.tree.SqlCond.TheOpen.{SqlWhen-F, SumTerm-F}
use Rattle.sql_tree.specs.declared.tree.SqlCond.{SqlCond, fold-SqlCond}
use Rattle.sql_tree.specs.declared.tree.SqlScalar.{SqlScalar, fold-SqlScalar}
use Rattle.sql_tree.specs.declared.tree.SqlSource.{SqlSource, fold-SqlSource}
use Rattle.sql_tree.specs.declared.tree.SqlFrom.{SqlFrom, fold-SqlFrom}
use Rattle.sql_tree.specs.declared.tree.SqlItem.{SqlItem, fold-SqlItem}
use Rattle.sql_tree.specs.declared.tree.SqlQuery.{SqlQuery, fold-SqlQuery}
use Rattle.sql_tree.specs.declared.tree.SqlWhen.{SqlWhen, fold-SqlWhen}
use Rattle.sql_tree.specs.declared.tree.SumTerm.{SumTerm, fold-SumTerm}
use Rattle.sql_tree.specs.declared.tree.SqlTable.{SqlTable}

-- the table has, at its position in the set, this name and these columns
abbrev pub IsTableOf : Tables → SqlTable → Type 0
IsTableOf tables table = IsTableAt tables table.index table.name table.schema.columns

-- one level of each part, with the tables of the parts below it in their place
abbrev pub Level
    : (Type 0 → Type 0 → Type 0 → Type 0 → Type 0 → Type 0 → Type 0 → Type 0 → Type 0) → Type 0
Level F = F Found Found Found Found Found Found Found Found
  where
    Found : Type 0
    Found = List SqlTable

abbrev pub if_written : Option (List SqlTable) → List SqlTable
if_written None = []
if_written (Some tables) = tables

abbrev pub cond_step : Level SqlCond-F → List SqlTable
cond_step (SqlCond-F.And parts) = flat_map (λ below. below) parts
cond_step (SqlCond-F.Or parts) = flat_map (λ below. below) parts
cond_step (SqlCond-F.Not part) = part
cond_step (SqlCond-F.Compare op a b) = a ++ b
cond_step (SqlCond-F.Between negate a low high) = a ++ low ++ high
cond_step (SqlCond-F.OneOf negate a list) = a ++ flat_map (λ below. below) list
cond_step (SqlCond-F.IsNull negate a) = a
cond_step (SqlCond-F.Exists query) = query

abbrev pub scalar_step : Level SqlScalar-F → List SqlTable
scalar_step (SqlScalar-F.Column place) = []
scalar_step (SqlScalar-F.Number n) = []
scalar_step (SqlScalar-F.Chars text) = []
scalar_step (SqlScalar-F.Sum terms) = flat_map (λ below. below) terms
scalar_step (SqlScalar-F.Case whens last) = flat_map (λ below. below) whens ++ if_written last

abbrev pub source_step : Level SqlSource-F → List SqlTable
source_step (SqlSource-F.Table table) = table ∷ []
source_step (SqlSource-F.Derived query) = query

abbrev pub from_step : Level SqlFrom-F → List SqlTable
from_step from = from.source

abbrev pub item_step : Level SqlItem-F → List SqlTable
item_step item = item.value

abbrev pub query_step : Level SqlQuery-F → List SqlTable
query_step query =
    flat_map (λ below. below) query.items ++ flat_map (λ below. below) query.from
    ++ if_written query.filter

abbrev pub when_step : Level SqlWhen-F → List SqlTable
when_step w = w.cond ++ w.value

abbrev pub term_step : Level SumTerm-F → List SqlTable
term_step term = term.scalar

-- the tables that each part names, at every depth
unfoldable pub cond_tables : SqlCond → List SqlTable
cond_tables =
    fold-SqlCond _ _ _ _ _ _ _ _ cond_step scalar_step source_step
    from_step item_step query_step when_step term_step

unfoldable pub scalar_tables : SqlScalar → List SqlTable
scalar_tables =
    fold-SqlScalar _ _ _ _ _ _ _ _ cond_step scalar_step source_step
    from_step item_step query_step when_step term_step

unfoldable pub source_tables : SqlSource → List SqlTable
source_tables =
    fold-SqlSource _ _ _ _ _ _ _ _ cond_step scalar_step source_step
    from_step item_step query_step when_step term_step

unfoldable pub from_tables : SqlFrom → List SqlTable
from_tables =
    fold-SqlFrom _ _ _ _ _ _ _ _ cond_step scalar_step source_step
    from_step item_step query_step when_step term_step

unfoldable pub item_tables : SqlItem → List SqlTable
item_tables =
    fold-SqlItem _ _ _ _ _ _ _ _ cond_step scalar_step source_step
    from_step item_step query_step when_step term_step

unfoldable pub when_tables : SqlWhen → List SqlTable
when_tables =
    fold-SqlWhen _ _ _ _ _ _ _ _ cond_step scalar_step source_step
    from_step item_step query_step when_step term_step

unfoldable pub term_tables : SumTerm → List SqlTable
term_tables =
    fold-SumTerm _ _ _ _ _ _ _ _ cond_step scalar_step source_step
    from_step item_step query_step when_step term_step

-- the tables that the query names, at every depth
unfoldable pub tables_of : SqlQuery → List SqlTable
tables_of =
    fold-SqlQuery _ _ _ _ _ _ _ _ cond_step scalar_step source_step
    from_step item_step query_step when_step term_step

-- the tables in the part that may be left out
abbrev pub filter_tables : Option SqlCond → List SqlTable
filter_tables None = []
filter_tables (Some cond) = cond_tables cond

abbrev pub otherwise_tables : Option SqlScalar → List SqlTable
otherwise_tables None = []
otherwise_tables (Some scalar) = scalar_tables scalar

abbrev pub FitsTables : Tables → SqlQuery → Type 0
FitsTables tables query = All (IsTableOf tables) (tables_of query)

-- each of these tables is there
unfoldable pub AreThere : Tables → List SqlTable → Type 0
AreThere tables named = All (IsTableOf tables) named
