-- A table as contracts see it, and a table with its name.
use Rattle.std.specs.Prelude.{ℕ, List}
use Rattle.prefsql_tables.specs.declared.schema.Column.{Column}
use Rattle.prefsql_tables.specs.declared.table.AnswerRow.{AnswerRow}

pub record TableData : Type 0 where
  pub columns : List Column
  pub rows : List AnswerRow

pub record NamedTable : Type 0 where
  pub name : List ℕ
  pub table : TableData
