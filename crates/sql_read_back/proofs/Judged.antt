-- What is found of each part of a query that is to be written.
use Rattle.std.specs.Prelude.{Bool, true}
use Rattle.sql_tree.specs.Shown.{View}
use Rattle.sql_tree.specs.WellFormed.{JudgedWhen, JudgedTerm, JudgedItem, JudgedSource, JudgedFrom, JudgedScalar, JudgedQuery, judged_cond as cond_judged, judged_scalar as scalar_judged, judged_query as query_judged, cond_step, scalar_step, source_step, from_step, item_step, query_step, when_step, term_step}
use Rattle.sql_tree.specs.declared.tree.SqlCond.{SqlCond}
use Rattle.sql_tree.specs.declared.tree.SqlScalar.{SqlScalar}
use Rattle.sql_tree.specs.declared.tree.SqlQuery.{SqlQuery}
use Rattle.sql_tree.specs.declared.tree.SqlSource.{SqlSource, fold-SqlSource}
use Rattle.sql_tree.specs.declared.tree.SqlFrom.{SqlFrom, fold-SqlFrom}
use Rattle.sql_tree.specs.declared.tree.SqlItem.{SqlItem, fold-SqlItem}
use Rattle.sql_tree.specs.declared.tree.SqlWhen.{SqlWhen, fold-SqlWhen}
use Rattle.sql_tree.specs.declared.tree.SumTerm.{SumTerm, fold-SumTerm}

unfoldable pub judged_source : SqlSource → JudgedSource
judged_source = fold-SqlSource _ _ _ _ _ _ _ _ cond_step (scalar_step true) source_step from_step item_step query_step when_step term_step

unfoldable pub judged_from : SqlFrom → JudgedFrom
judged_from = fold-SqlFrom _ _ _ _ _ _ _ _ cond_step (scalar_step true) source_step from_step item_step query_step when_step term_step

unfoldable pub judged_item : SqlItem → View → JudgedItem
judged_item = fold-SqlItem _ _ _ _ _ _ _ _ cond_step (scalar_step true) source_step from_step item_step query_step when_step term_step

unfoldable pub judged_when : SqlWhen → View → JudgedWhen
judged_when = fold-SqlWhen _ _ _ _ _ _ _ _ cond_step (scalar_step true) source_step from_step item_step query_step when_step term_step

unfoldable pub judged_term : SumTerm → View → JudgedTerm
judged_term = fold-SumTerm _ _ _ _ _ _ _ _ cond_step (scalar_step true) source_step from_step item_step query_step when_step term_step

abbrev pub judged_cond : SqlCond → View → Bool
judged_cond = cond_judged true

abbrev pub judged_scalar : SqlScalar → View → JudgedScalar
judged_scalar = scalar_judged true

abbrev pub judged_query : SqlQuery → View → JudgedQuery
judged_query = query_judged true
