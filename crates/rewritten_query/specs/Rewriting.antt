-- The SQL query that a block is written as: by level columns and NOT EXISTS, after Kießling and
-- Köstler (2002). Its exact form is this project's own.
use Rattle.std.specs.Prelude.{ℕ, ◌+◌, false, Option, Some, None, List, [], ◌∷◌, ◌++◌, map}
use Rattle.prefsql_tables.specs.declared.place.ColumnPlace.{ColumnPlace}
use Rattle.pref_terms.specs.declared.term.Term.{Term}
use Rattle.pref_terms.specs.Terms.{leaves_of}
use Rattle.conditions.specs.declared.condition.Quality.{Quality}
use Rattle.query_meaning.specs.declared.block.Block.{Block}
use Rattle.query_meaning.specs.declared.block.FromTable.{FromTable}
use Rattle.query_meaning.specs.declared.block.Output.{Output}
use Rattle.sql_tree.specs.declared.tree.SqlCond.{SqlCond, And, Not, Exists}
use Rattle.sql_tree.specs.declared.tree.SqlFrom.{SqlFrom}
use Rattle.sql_tree.specs.declared.tree.SqlItem.{SqlItem}
use Rattle.sql_tree.specs.declared.tree.SqlQuery.{SqlQuery}
use Rattle.sql_tree.specs.declared.tree.SqlScalar.{SqlScalar}
use Rattle.sql_tree.specs.declared.tree.SqlSource.{Table, Derived}
use Rattle.sql_tree.specs.Select.{select}
use Rattle.rewritten_query.specs.Columns.{auxiliary_items, number_among, rank_column, used}
use Rattle.rewritten_query.specs.Conditions.{cond_put, conjunction, scalar_put}
use Rattle.rewritten_query.specs.Leaves.{number, rank_scalar}
use Rattle.rewritten_query.specs.Names.{table_name, candidates_name, rivals_name, rival_name}
use Rattle.rewritten_query.specs.Names.{of_tables, column_up}
use Rattle.rewritten_query.specs.Rankings.{group_cond, ranking_of}

-- the FROM table of a number
abbrev pub table_item : ℕ → FromTable → SqlFrom
table_item n table = record {
  name = table_name n;
  source = Table (record { index = table.index; name = table.name; schema = table.schema });
}

-- the FROM tables, with the numbers from n on
abbrev pub table_items : ℕ → List FromTable → List SqlFrom
table_items n [] = []
table_items n (table ∷ tables) = table_item n table ∷ table_items (n + 1) tables

-- a quality over the tables, as what its leaf would rank by
abbrev pub quality_of_tables : Quality → SqlScalar
quality_of_tables quality = rank_scalar quality.base (of_tables quality.place)

-- the conditions of WHERE, over the tables
abbrev pub where_over_tables : Block → Option SqlCond
where_over_tables block = conjunction (map (cond_put of_tables quality_of_tables) block.filter)

-- the output items, with the columns and qualities as those scalars
abbrev pub output_items
    : (ColumnPlace → SqlScalar) → (Quality → SqlScalar) → List Output → List SqlItem
output_items column quality = map (λ (output : Output). record {
  value = scalar_put column quality output.scalar;
  name = output.name;
})

-- without a preference
abbrev pub plain_query : Block → SqlQuery
plain_query block =
    select block.distinct (output_items of_tables quality_of_tables block.output)
    (table_items 1 block.from) (where_over_tables block) block.order

-- the candidates, with the used columns and what each leaf ranks by
abbrev pub auxiliary_query : Block → Term → SqlQuery
auxiliary_query block term =
    select false (auxiliary_items (used block term) (leaves_of term)) (table_items 1 block.from)
    (where_over_tables block) []

-- the conditions that a rival is of the candidate's group and better
abbrev pub rival_conds : Block → Term → List SqlCond
rival_conds block term =
    map (group_cond (used block term) block.from) block.groups
    ++ (ranking_of (used block term) (leaves_of term) term).better ∷ []

-- the candidates that are of the group of the one round it and better
abbrev pub rivals_query : Block → Term → SqlQuery
rivals_query block term =
    select false (record { value = number 1; name = rival_name } ∷ [])
    (record { name = rivals_name; source = Derived (auxiliary_query block term) } ∷ [])
    (conjunction (rival_conds block term)) []

-- a used column, and a quality, of the candidate
abbrev pub own_place : Block → Term → ColumnPlace → SqlScalar
own_place block term place = column_up 0 (number_among (used block term) place)

abbrev pub own_quality : Block → Term → Quality → SqlScalar
own_quality block term quality =
    column_up 0 (rank_column (used block term) (leaves_of term) quality.leaf)

-- with what BUT ONLY asks for, if it asks for something
abbrev pub and_only : SqlCond → Option SqlCond → SqlCond
and_only cond None = cond
and_only cond (Some only) = And (cond ∷ only ∷ [])

-- what BUT ONLY asks of the candidate
abbrev pub only_cond : Block → Term → Option SqlCond
only_cond block term =
    conjunction (map (cond_put (own_place block term) (own_quality block term)) block.only)

-- no rival is better, and what BUT ONLY asks for
abbrev pub best_cond : Block → Term → SqlCond
best_cond block term = and_only (Not (Exists (rivals_query block term))) (only_cond block term)

-- with a preference
abbrev pub best_query : Block → Term → SqlQuery
best_query block term =
    select block.distinct
    (output_items (own_place block term) (own_quality block term) block.output)
    (record { name = candidates_name; source = Derived (auxiliary_query block term) } ∷ [])
    (Some (best_cond block term)) block.order

abbrev pub rewritten_by : Option Term → Block → SqlQuery
rewritten_by None block = plain_query block
rewritten_by (Some term) block = best_query block term

-- the query that the block is written as
unfoldable pub rewritten : Block → SqlQuery
rewritten block = rewritten_by block.term block
