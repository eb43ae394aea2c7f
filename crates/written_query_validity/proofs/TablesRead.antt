-- The tables of a query that is written, by those of its parts.
use Rattle.std.proofs.Common.{◌≡◌, Bool, Option, Some, None, List, [], ◌++◌, ◌∙◌}
use Rattle.std.specs.List.{flat_map}
use Rattle.std.specs.Option.{option_map}
use Rattle.prefsql_tables.specs.declared.place.SortKey.{SortKey}
use Rattle.sql_tree.specs.declared.tree.SqlCond.{SqlCond}
use Rattle.sql_tree.specs.declared.tree.SqlCond.TheFolds.{fold-roll-SqlQuery}
use Rattle.sql_tree.specs.declared.tree.SqlFrom.{SqlFrom}
use Rattle.sql_tree.specs.declared.tree.SqlItem.{SqlItem}
use Rattle.sql_tree.specs.Fits.{cond_tables, scalar_tables, source_tables, from_tables, item_tables, when_tables, term_tables, tables_of, if_written, cond_step, scalar_step, source_step, from_step, item_step, query_step, when_step, term_step}
use Rattle.sql_tree.specs.Select.{select}
use Rattle.std.proofs.lemmas.List.Folds.{flat_map-map}

pub tables-select : (distinct : Bool) (items : List SqlItem) (from : List SqlFrom) (filter : Option SqlCond) (order : List SortKey)
    → tables_of (select distinct items from filter order) ≡ flat_map item_tables items ++ flat_map from_tables from ++ if_written (option_map cond_tables filter)
unfolding cond_tables scalar_tables source_tables from_tables item_tables tables_of when_tables term_tables
tables-select distinct items from None order =
    fold-roll-SqlQuery _ _ _ _ _ _ _ _ cond_step scalar_step source_step from_step item_step query_step when_step term_step (record { distinct = distinct; items = items; from = from; filter = None; order = order })
    ∙ (λ j. flat_map-map (λ below. below) item_tables items j ++ flat_map-map (λ below. below) from_tables from j ++ [])
tables-select distinct items from (Some cond) order =
    fold-roll-SqlQuery _ _ _ _ _ _ _ _ cond_step scalar_step source_step from_step item_step query_step when_step term_step (record { distinct = distinct; items = items; from = from; filter = Some cond; order = order })
    ∙ (λ j. flat_map-map (λ below. below) item_tables items j ++ flat_map-map (λ below. below) from_tables from j ++ cond_tables cond)
