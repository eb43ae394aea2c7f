-- The answer of a query, from its rows.
use Rattle.std.proofs.Common.{◌≡◌, Bool, true, false, List, [], cond, map, refl, sym, ap, ◌∙◌}
use Rattle.prefsql_tables.specs.declared.answer.Answer.{Answer}
use Rattle.prefsql_tables.specs.declared.place.SortKey.{SortKey}
use Rattle.prefsql_tables.specs.declared.table.AnswerRow.{AnswerRow}
use Rattle.prefsql_tables.specs.Arranged.{IsArranged}
use Rattle.prefsql_tables.specs.Arrangement.{arranged}
use Rattle.prefsql_tables.specs.Distinct.{each_once}
use Rattle.prefsql_tables.specs.Table.{Tables}
use Rattle.prefsql_tables.specs.Valid.{IsTableSet}
use Rattle.prefsql_tables.proofs.ArrangementLemmas.{arranged_only}
use Rattle.sql_tree.specs.declared.tree.SqlItem.{SqlItem}
use Rattle.sql_tree.specs.declared.tree.SqlQuery.{SqlQuery, out-SqlQuery}
use Rattle.sql_tree.specs.Fits.{FitsTables}
use Rattle.sql_tree.specs.Meaning.{answer_of, rows_in}
use Rattle.sql_tree.specs.WellFormed.{IsWellFormed}
use Rattle.sql_exec.specs.Preparing.{rows_selected}
use Rattle.sql_exec.proofs.Exact.{rows_exact}
use Rattle.sql_exec.proofs.WrappingReads.{rows_in_is}

-- rows without repetition are those that are kept once
arranged_once : (distinct : Bool) (keys : List SortKey) (rows : List AnswerRow) → arranged distinct keys rows ≡ arranged false keys (cond distinct (each_once rows) rows)
unfolding arranged
arranged_once true keys rows = refl
arranged_once false keys rows = refl

pub answer_is : (tables : Tables) (query : SqlQuery) (keys : List SortKey) (given : List AnswerRow) (answer : Answer)
    → IsTableSet tables → IsWellFormed query → FitsTables tables query → answer.names ≡ map (λ (item : SqlItem). item.name) (out-SqlQuery query).items → keys ≡ (out-SqlQuery query).order → given ≡ rows_selected tables query []
    → IsArranged (out-SqlQuery query).distinct keys given answer.rows → answer ≡ answer_of tables query
unfolding answer_of
answer_is tables query keys given answer valid formed fits names same are is =
    λ j. record { names = names j; rows = rows j }
  where
    rows : answer.rows ≡ arranged false (out-SqlQuery query).order (rows_in tables query [])
    rows =
        arranged_only (out-SqlQuery query).distinct keys given answer.rows is
        ∙ ap (λ (ks : List SortKey). arranged (out-SqlQuery query).distinct ks given) same
        ∙ ap (λ (rs : List AnswerRow). arranged (out-SqlQuery query).distinct (out-SqlQuery query).order rs) are
        ∙ arranged_once (out-SqlQuery query).distinct (out-SqlQuery query).order (rows_selected tables query [])
        ∙ ap (λ (rs : List AnswerRow). arranged false (out-SqlQuery query).order rs) (sym (rows_in_is tables query []) ∙ rows_exact tables valid query formed fits)
