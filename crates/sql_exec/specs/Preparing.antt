-- The rows of a query, before DISTINCT, with sums and signs in the range of a 128-bit number.
use Rattle.std.specs.Prelude.{Bool, List, ◌∷◌, map}
use Rattle.std.specs.List.{filter}
use Rattle.std.specs.Option.{option_map}
use Rattle.prefsql_tables.specs.declared.table.AnswerRow.{AnswerRow}
use Rattle.prefsql_tables.specs.Product.{product}
use Rattle.prefsql_tables.specs.Table.{Tables}
use Rattle.sql_tree.specs.declared.tree.SqlQuery.{SqlQuery, out-SqlQuery}
use Rattle.sql_tree.specs.Meaning.{Scope, Scopes, is_kept}
use Rattle.sql_exec.specs.Wrapping.{from_rows, item_value, truth_in}

-- the scopes that its WHERE keeps
abbrev pub scopes_kept : Tables → SqlQuery → Scopes → List Scope
scopes_kept tables query scopes =
    let is_kept_in : Scope → Bool =
    λ scope. is_kept (option_map (truth_in tables) (out-SqlQuery query).filter) (scope ∷ scopes) in
    filter is_kept_in (product (map (from_rows tables) (out-SqlQuery query).from))

-- and the rows that its items show of them
abbrev pub rows_selected : Tables → SqlQuery → Scopes → List AnswerRow
rows_selected tables query scopes =
    map
    (λ scope. record {
      cells = map (λ item. item_value tables item (scope ∷ scopes)) (out-SqlQuery query).items;
    })
    (scopes_kept tables query scopes)
