-- The statement that is asked of each part of a table.
use Rattle.std.specs.Prelude.{◌≡◌, false, None, [], ◌∷◌}
use Rattle.prefsql_tables.specs.Table.{Tables}
use Rattle.query_tree.specs.declared.query.FromTree.{FromTree}
use Rattle.query_tree.specs.declared.query.QueryTree.{QueryTree}
use Rattle.query_tree.specs.declared.query.SelectTree.TheVariants as select
use Rattle.query_meaning.specs.declared.block.Block.{Block}
use Rattle.query_typing.specs.Resolution.{from_table}
use Rattle.query_typing.specs.Typing.{IsTyped}
use Rattle.table_parts.specs.JoinAnswers.{best_choices_block}
use Rattle.table_parts.specs.Parts.{best_rows_block}

-- SELECT * with the same FROM, WHERE, PREFERRING and GROUPING
abbrev pub best_rows_query : QueryTree → QueryTree
best_rows_query query = record {
  distinct = false;
  select = select.All;
  from = query.from;
  filter = query.filter;
  prefer = query.prefer;
  groups = query.groups;
  only = None;
  order = [];
}

-- where a statement over one table is accepted, this one is, and it asks for the best rows
abbrev pub TypesBestRows : Type 0
TypesBestRows =
    (tables : Tables) (query : QueryTree) (item : FromTree) (block : Block)
    → query.from ≡ item ∷ [] → IsTyped tables query block
    → (block.from ≡ from_table tables item ∷ [])
    × IsTyped tables (best_rows_query query) (best_rows_block block (from_table tables item))

-- and so it is with a statement over several tables, and the best choices
abbrev pub TypesBestChoices : Type 0
TypesBestChoices =
    (tables : Tables) (query : QueryTree) (block : Block) → IsTyped tables query block
    → IsTyped tables (best_rows_query query) (best_choices_block block)
