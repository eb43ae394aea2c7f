-- The texts of queries, one after the other: a script as it is written. The limits of a script are
-- this project's own.
use Rattle.std.specs.Prelude.{ℕ, ◌≤◌, List, length, All, IsUtf8}
use Rattle.std.specs.List.{flat_map}
use Rattle.prefsql_tables.specs.Table.{Tables}
use Rattle.sql_tree.specs.Fits.{FitsTables}
use Rattle.sql_tree.specs.WellFormed.{IsValid}
use Rattle.sql_tree.specs.declared.tree.SqlQuery.{SqlQuery}
use Rattle.sql_text.specs.Scripts.{max_statements}
use Rattle.sql_text.specs.Text.{text_of}

abbrev pub texts_of : List SqlQuery → List ℕ
texts_of = flat_map text_of

-- how many bytes a script may have that is read
abbrev pub max_bytes : ℕ
max_bytes = 268435456

-- The queries are no more than a script may have, each is valid and fits the tables, and their
-- texts, one after the other, are UTF-8 and no longer than a script may be.
pub record AreWritable (tables : Tables) (queries : List SqlQuery) : Type 0 where
  pub few : length queries ≤ max_statements
  pub valid : All IsValid queries
  pub fits : All (FitsTables tables) queries
  pub utf8 : IsUtf8 (texts_of queries)
  pub within : length (texts_of queries) ≤ max_bytes
