use Rattle.std.proofs.Common.{◌∷◌, true, get_or}
use Rattle.prefsql_tables.specs.Table.{cell_in, no_row}
use Rattle.prefsql_values.specs.Value.{value_eq}
use Rattle.sql_tree.specs.Meaning.{place_value}
use Rattle.sql_exec.specs.declared.ready.ReadyScalar.{Column}
use Rattle.sql_exec.specs.Ready.{value}
use Rattle.sql_exec.specs.RowKeys.{is_found}
use Rattle.sql_exec.proofs.AlikeColumns.{own_column}
use Rattle.sql_exec.proofs.Judging.{judged_as}
use Rattle.sql_exec.proofs.ReadyReads.{value-Column}
use Rattle.sql_exec.proofs.Reaches.{along, more}
use Rattle.sql_exec.proofs.preparing.find_by_other.Goals as goal

pub find_by-requires-clause-speaks : goal.find_by-requires-clause-speaks
find_by-requires-clause-speaks c =
    along 0 c.args.place.item (λ scopes. place_value scopes c.args.other) (value (Column c.args.other)) (λ seen. value-Column c.args.other seen)
    (more 0 c.place_reach.result c.args.place.item (λ scopes. place_value scopes c.args.other) c.if-place_reach-item.false c.place_reach.ensures)

pub returns-clause-found : goal.returns-clause-found
returns-clause-found c = λ _.
    judged_as (λ scope scopes. is_found true (cell_in (get_or scope c.args.place.item no_row) c.args.place.column) (value (Column c.args.other) (scope ∷ scopes)))
    (λ scope scopes. value_eq (place_value (scope ∷ scopes) c.args.place) (place_value (scope ∷ scopes) c.args.other)) c.args.plan.now c.find_by.new.self
    (own_column c.args.place c.args.other c.if-place-ne0.false) c.find_by.ensures.judged
