-- The names that are in scope in a part of an SQL query, and what a column's name means there.
-- These rules follow SQL-92 (ISO/IEC 9075:1992); the profile is this project's own.
use Rattle.std.specs.Prelude.{ℕ, List, [], map, Option, None, slice_index_or}
use Rattle.prefsql_values.specs.declared.value.Domain.{Domain}
use Rattle.sql_tree.specs.declared.tree.SqlPlace.{SqlPlace}
use Rattle.sql_text.specs.Text.{ItemNames, Names}

-- A column of a FROM item: its name, what it holds, and a bound of its numbers. A derived column
-- that was made of a column whose name has no single meaning may have neither.
pub record ScopeColumn : Type 0 where
  pub name : List ℕ
  pub domain : Option Domain
  pub bound : Option ℕ

-- a FROM item: its correlation name and its columns
pub record ScopeItem : Type 0 where
  pub name : List ℕ
  pub columns : List ScopeColumn

abbrev pub Scope : Type 0
Scope = List ScopeItem

-- the scopes of a query and of those round it, the innermost first
abbrev pub Scopes : Type 0
Scopes = List Scope

-- a scope by its names alone
abbrev pub scope_names : Scope → List ItemNames
scope_names =
    map
    (λ
    (item : ScopeItem). record {
      name = item.name;
      columns = map (λ (column : ScopeColumn). column.name) item.columns;
    })

abbrev pub names_in : Scopes → Names
names_in = map scope_names

abbrev pub no_column : ScopeColumn
no_column = record { name = []; domain = None; bound = None }

abbrev pub no_scope_item : ScopeItem
no_scope_item = record { name = []; columns = [] }

abbrev pub column_at : Scopes → SqlPlace → ScopeColumn
column_at scopes place =
    slice_index_or
    (slice_index_or
    (slice_index_or scopes place.up []) place.item no_scope_item).columns place.column no_column
