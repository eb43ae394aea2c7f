-- What is asked of each part of a table beside others is accepted, and is the query for the best choices.
use Rattle.std.proofs.Common.{◌≡◌, ℕ, ◌+◌, ◌*◌, ◌≤◌, false, Option, Some, None, List, [], ◌∷◌, ◌++◌, length, length-append, map, All, refl, ap, ◌∙◌, arith}
use Rattle.std.specs.Prelude.{IfNone}
use Rattle.std.proofs.lemmas.List.Elements.{All-append, All-cons, All-nil, All-head, All-tail}
use Rattle.prefsql_values.specs.Limits.{IsName}
use Rattle.prefsql_tables.specs.Names.{names_of}
use Rattle.prefsql_tables.specs.Table.{Tables}
use Rattle.prefsql_tables.specs.declared.schema.Column.{Column}
use Rattle.pref_terms.specs.declared.term.Leaf.{Leaf}
use Rattle.pref_terms.specs.declared.term.Term.{Term}
use Rattle.conditions.specs.declared.condition.Scalar.TheVariants as scalar
use Rattle.query_tree.specs.declared.query.FromTree.{FromTree}
use Rattle.query_tree.specs.declared.query.QueryTree.{QueryTree}
use Rattle.query_meaning.specs.declared.block.Block.{Block}
use Rattle.query_meaning.specs.declared.block.FromTable.{FromTable}
use Rattle.query_meaning.specs.Valid.{IsFromTable, IsOutput, IsValidBlock, block_leaves}
use Rattle.query_meaning.proofs.CondParts.{no_conjuncts}
use Rattle.query_typing.specs.Columns.{item_columns}
use Rattle.query_typing.specs.Resolution.{IsBlockOf, all_outputs, column_outputs, from_table, resolved_block}
use Rattle.table_parts.specs.JoinAnswers.{best_choices_block, table_outputs, tables_outputs}
use Rattle.table_parts.specs.PartQueries.{TypesBestChoices, best_rows_query}
use Rattle.table_parts.proofs.JoinOutputs.{choices_placed}
use Rattle.table_parts.proofs.PartTyping.{met_still}

-- ---- the block is valid

table_valid : (leaves : List Leaf) (table first : ℕ) (columns : List Column) → All IsName (names_of columns) → All (IsOutput leaves) (table_outputs table first columns)
table_valid leaves table first [] names = All-nil _
table_valid leaves table first (column ∷ columns) names =
    All-cons (IsOutput leaves) (record { name = column.name; scalar = scalar.Column (record { table = table; column = first }) }) (table_outputs table (first + 1) columns)
    (record { name = All-head IsName column.name (names_of columns) names; scalar = tt })
    (table_valid leaves table (first + 1) columns (All-tail IsName column.name (names_of columns) names))

tables_valid : (leaves : List Leaf) (first : ℕ) (from : List FromTable) → All IsFromTable from → All (IsOutput leaves) (tables_outputs first from)
tables_valid leaves first [] all = All-nil _
tables_valid leaves first (table ∷ from) all =
    All-append (IsOutput leaves) (table_outputs first 0 table.schema.columns) (tables_outputs (first + 1) from)
    (table_valid leaves first 0 table.schema.columns ((All-head IsFromTable table from all).schema.names))
    (tables_valid leaves (first + 1) from (All-tail IsFromTable table from all))

length-table : (table first : ℕ) (columns : List Column) → length (table_outputs table first columns) ≡ length columns
length-table table first [] = refl
length-table table first (column ∷ columns) = let rest = length-table table (first + 1) columns in omega (arith, rest)

-- each table has one to 64 columns
length-tables : (first : ℕ) (from : List FromTable) → All IsFromTable from → (length from ≤ length (tables_outputs first from)) × (length (tables_outputs first from) ≤ 64 * length from)
length-tables first [] all = (omega arith, omega arith)
length-tables first (table ∷ from) all =
    let schema = (All-head IsFromTable table from all).schema in
    let some = schema.not_empty in
    let few = schema.few in
    let rest = length-tables (first + 1) from (All-tail IsFromTable table from all) in
    let own = length-table first 0 table.schema.columns in
    let both = length-append (table_outputs first 0 table.schema.columns) (tables_outputs (first + 1) from) in
    (omega (arith, some, rest.0, own, both), omega (arith, few, rest.1, own, both))

best_choices_valid : (block : Block) → IsValidBlock block → IsValidBlock (best_choices_block block)
best_choices_valid block valid =
    let long = length-tables 0 block.from valid.from in
    record {
      some_from = valid.some_from;
      few_from = valid.few_from;
      from = valid.from;
      some_output = (let some = valid.some_from in omega (arith, some, long.0));
      few_output = (let few = valid.few_from in omega (arith, few, long.1));
      output = tables_valid (block_leaves block) 0 block.from valid.from;
      places = choices_placed block valid.places;
      few_leaves = valid.few_leaves;
      numbered = valid.numbered;
      leaves = valid.leaves;
      filter = valid.filter;
      only = no_conjuncts block.from (block_leaves block);
      groups = valid.groups;
      ungrouped = ungrouped_by block.term valid.ungrouped;
      order = All-nil _;
    }
  where
    ungrouped_by : (term : Option Term) → IfNone term ((block.groups ≡ []) × (block.only ≡ [])) → IfNone term ((block.groups ≡ []) × ((best_choices_block block).only ≡ []))
    ungrouped_by None both = (both.0, refl)
    ungrouped_by (Some term) both = tt

-- ---- it is the one that the statement says

table_same : (table number : ℕ) (columns : List Column) → table_outputs table number columns ≡ column_outputs table number columns
table_same table number [] = refl
table_same table number (column ∷ columns) = ap (λ more. record { name = column.name; scalar = scalar.Column (record { table = table; column = number }) } ∷ more) (table_same table (number + 1) columns)

tables_same : (tables : Tables) (number : ℕ) (items : List FromTree) → tables_outputs number (map (from_table tables) items) ≡ all_outputs tables number items
tables_same tables number [] = refl
tables_same tables number (item ∷ items) = λ j. table_same number 0 (item_columns tables item) j ++ tables_same tables (number + 1) items j

resolved_still : (tables : Tables) (query : QueryTree) (block : Block) → IsBlockOf tables query block → IsBlockOf tables (best_rows_query query) (best_choices_block block)
unfolding resolved_block
resolved_still tables query block is =
    let leaves = is.0 in (
      leaves,
      is.1,
      ap best_choices_block is.2 ∙ (λ j. record {
        distinct = false;
        output = tables_same tables 0 query.from j;
        from = (resolved_block tables query leaves).from;
        filter = (resolved_block tables query leaves).filter;
        term = (resolved_block tables query leaves).term;
        groups = (resolved_block tables query leaves).groups;
        only = [];
        order = [];
      }),
    )

pub types_choices : TypesBestChoices
types_choices tables query block typed = record {
  met = met_still tables query typed.met;
  resolved = resolved_still tables query block typed.resolved;
  valid = best_choices_valid block typed.valid;
  fits = typed.fits;
}
