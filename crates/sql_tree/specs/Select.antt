-- A query by its parts (ISO/IEC 9075:1992, query specification).
use Rattle.std.specs.Prelude.{Bool, Option, List}
use Rattle.prefsql_tables.specs.declared.place.SortKey.{SortKey}
use Rattle.sql_tree.specs.declared.tree.SqlCond.{SqlCond}
use Rattle.sql_tree.specs.declared.tree.SqlFrom.{SqlFrom}
use Rattle.sql_tree.specs.declared.tree.SqlItem.{SqlItem}
use Rattle.sql_tree.specs.declared.tree.SqlQuery.{SqlQuery, roll-SqlQuery}

abbrev pub select
    : Bool → List SqlItem → List SqlFrom → Option SqlCond → List SortKey → SqlQuery
select distinct items from filter order = roll-SqlQuery (record {
  distinct = distinct;
  items = items;
  from = from;
  filter = filter;
  order = order;
})
