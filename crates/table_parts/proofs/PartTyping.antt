-- What is asked of each part of a table is accepted, and is the query for the best rows.
use Rattle.std.proofs.Common.{◌≡◌, ℕ, ◌+◌, false, Option, Some, None, List, [], ◌∷◌, length, map, All, refl, sym, ap, ◌∙◌, subst, arith, append-nil}
use Rattle.std.specs.Prelude.{IfNone}
use Rattle.std.proofs.lemmas.List.Elements.{All-cons, All-nil, All-head, All-tail}
use Rattle.prefsql_values.specs.Limits.{IsName}
use Rattle.prefsql_tables.specs.Names.{names_of}
use Rattle.prefsql_tables.specs.Table.{Tables}
use Rattle.prefsql_tables.specs.declared.schema.Column.{Column}
use Rattle.pref_terms.specs.declared.term.Leaf.{Leaf}
use Rattle.pref_terms.specs.declared.term.Term.{Term}
use Rattle.conditions.specs.declared.condition.Scalar.TheVariants as scalar
use Rattle.query_tree.specs.declared.query.FromTree.{FromTree}
use Rattle.query_tree.specs.declared.query.QueryTree.{QueryTree}
use Rattle.query_meaning.specs.declared.block.Block.{Block}
use Rattle.query_meaning.specs.declared.block.FromTable.{FromTable}
use Rattle.query_meaning.specs.Valid.{IsFromTable, IsOutput, IsValidBlock, block_leaves}
use Rattle.query_meaning.proofs.CondParts.{no_conjuncts}
use Rattle.query_typing.specs.Obligations.{AllClausesMet}
use Rattle.query_typing.specs.Resolution.{IsBlockOf, all_outputs, column_outputs, from_table, resolved_block}
use Rattle.query_typing.specs.Statements.{obligations}
use Rattle.table_parts.specs.PartQueries.{TypesBestRows, best_rows_query}
use Rattle.table_parts.specs.Parts.{best_rows_block, columns_shown}
use Rattle.table_parts.proofs.PartRows.{inner_places}

-- ---- the block is valid

outputs_valid : (leaves : List Leaf) (first : ℕ) (columns : List Column) → All IsName (names_of columns) → All (IsOutput leaves) (columns_shown first columns)
outputs_valid leaves first [] names = All-nil _
outputs_valid leaves first (column ∷ columns) names =
    All-cons (IsOutput leaves) (record { name = column.name; scalar = scalar.Column (record { table = 0; column = first }) }) (columns_shown (first + 1) columns)
    (record { name = All-head IsName column.name (names_of columns) names; scalar = tt })
    (outputs_valid leaves (first + 1) columns (All-tail IsName column.name (names_of columns) names))

length-shown : (first : ℕ) (columns : List Column) → length (columns_shown first columns) ≡ length columns
length-shown first [] = refl
length-shown first (column ∷ columns) = let rest = length-shown (first + 1) columns in omega (arith, rest)

module _ (block : Block) (table : FromTable) (one : block.from ≡ table ∷ []) (valid : IsValidBlock block) where
  from_valid : IsFromTable table
  from_valid = All-head IsFromTable table [] (subst (All IsFromTable) one valid.from)

  best_rows_valid : IsValidBlock (best_rows_block block table)
  best_rows_valid =
      let columns = table.schema.columns in
      let schema = from_valid.schema in
      record {
        some_from = valid.some_from;
        few_from = valid.few_from;
        from = valid.from;
        some_output = (let some = schema.not_empty in omega (arith, some, length-shown 0 columns));
        few_output = (let few = schema.few in omega (arith, few, length-shown 0 columns));
        output = outputs_valid (block_leaves block) 0 columns schema.names;
        places = inner_places block table valid.places one;
        few_leaves = valid.few_leaves;
        numbered = valid.numbered;
        leaves = valid.leaves;
        filter = valid.filter;
        only = no_conjuncts block.from (block_leaves block);
        groups = valid.groups;
        ungrouped = ungrouped_by block.term valid.ungrouped;
        order = All-nil _;
      }
    where
      ungrouped_by : (term : Option Term) → IfNone term ((block.groups ≡ []) × (block.only ≡ [])) → IfNone term ((block.groups ≡ []) × ((best_rows_block block table).only ≡ []))
      ungrouped_by None both = (both.0, refl)
      ungrouped_by (Some term) both = tt

-- ---- it is the one that the statement says

outputs_same : (number : ℕ) (columns : List Column) → columns_shown number columns ≡ column_outputs 0 number columns
outputs_same number [] = refl
outputs_same number (column ∷ columns) = ap (λ more. record { name = column.name; scalar = scalar.Column (record { table = 0; column = number }) } ∷ more) (outputs_same (number + 1) columns)

pub met_still : (tables : Tables) (query : QueryTree) → AllClausesMet (obligations tables query) → AllClausesMet (obligations tables (best_rows_query query))
unfolding obligations
met_still tables query met = (met.0, (All-nil _, (met.1.1.0, (met.1.1.1.0, (met.1.1.1.1.0, (All-nil _, (All-nil _, tt)))))))

resolved_still : (tables : Tables) (query : QueryTree) (item : FromTree) (block : Block) → query.from ≡ item ∷ [] → IsBlockOf tables query block → IsBlockOf tables (best_rows_query query) (best_rows_block block (from_table tables item))
unfolding resolved_block
resolved_still tables query item block one is =
    let leaves = is.0 in
    let table = from_table tables item in
    let shown : columns_shown 0 table.schema.columns ≡ (resolved_block tables (best_rows_query query) leaves).output =
    outputs_same 0 table.schema.columns ∙ sym (append-nil (column_outputs 0 0 table.schema.columns)) ∙ ap (all_outputs tables 0) (sym one) in (
      leaves,
      is.1,
      ap (λ b. best_rows_block b table) is.2 ∙ (λ j. record {
        distinct = false;
        output = shown j;
        from = (resolved_block tables query leaves).from;
        filter = (resolved_block tables query leaves).filter;
        term = (resolved_block tables query leaves).term;
        groups = (resolved_block tables query leaves).groups;
        only = [];
        order = [];
      }),
    )

from_one : (tables : Tables) (query : QueryTree) (item : FromTree) (block : Block) → query.from ≡ item ∷ [] → IsBlockOf tables query block → block.from ≡ from_table tables item ∷ []
unfolding resolved_block
from_one tables query item block one is = ap (λ (b : Block). b.from) is.2 ∙ ap (map (from_table tables)) one

pub types_best : TypesBestRows
types_best tables query item block one typed =
    let table = from_table tables item in
    let from_is = from_one tables query item block one typed.resolved in (
      from_is,
      record {
        met = met_still tables query typed.met;
        resolved = resolved_still tables query item block one typed.resolved;
        valid = best_rows_valid block table from_is typed.valid;
        fits = typed.fits;
      },
    )
