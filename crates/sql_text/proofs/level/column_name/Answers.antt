use Rattle.std.proofs.Common.{sym, ap, ◌∙◌}
use Rattle.sql_tree.specs.declared.tree.SqlQuery.{out-SqlQuery}
use Rattle.prefsql_tables.specs.declared.schema.Column.{Column}
use Rattle.sql_tree.specs.declared.tree.SqlItem.{SqlItem}
use Rattle.sql_text.proofs.NamesInScope.{table_columns, derived_columns, column_there, column_past}
use Rattle.sql_text.proofs.level.column_name.Goals as goal

pub returns-in-Some : goal.returns-in-Some
returns-in-Some c =
    let h = c.in-Some.ensures.lookup in
    c.as_str.ensures ∙ sym (column_there (λ (column : Column). column.name) _ c.as_slice.result.now _ c.args.column c.in-Some.column.now (table_columns c.args.item.now c.in-Table.table c.in-Table.is) c.as_slice.ensures h.3.0 h.1)

pub returns-in-None : goal.returns-in-None
returns-in-None c =
    let h = c.in-None.ensures.lookup in
    sym (column_past (λ (column : Column). column.name) _ c.as_slice.result.now _ c.args.column (table_columns c.args.item.now c.in-Table.table c.in-Table.is) c.as_slice.ensures h.3)

pub returns-in-Some-get : goal.returns-in-Some-get
returns-in-Some-get c =
    let h = c.in-Some-get.ensures.lookup in
    c.as_str-in-Some-get.ensures ∙ sym (column_there (λ (i : SqlItem). i.name) _ c.as_slice-in-Derived.result.now _ c.args.column c.in-Some-get.item.now (derived_columns c.args.item.now c.in-Derived.query c.in-Derived.is) (c.as_slice-in-Derived.ensures ∙ ap (λ q. (out-SqlQuery q).items) c.get-in-Derived.ensures) h.3.0 h.1)

pub returns-in-None-get : goal.returns-in-None-get
returns-in-None-get c =
    let h = c.in-None-get.ensures.lookup in
    sym (column_past (λ (i : SqlItem). i.name) _ c.as_slice-in-Derived.result.now _ c.args.column (derived_columns c.args.item.now c.in-Derived.query c.in-Derived.is) (c.as_slice-in-Derived.ensures ∙ ap (λ q. (out-SqlQuery q).items) c.get-in-Derived.ensures) h.3)
