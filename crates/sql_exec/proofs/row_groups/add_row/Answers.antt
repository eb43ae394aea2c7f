use Rattle.std.proofs.Common.{◌≡◌, ◌++◌, ◌∷◌, [], List, ap, ◌∙◌, sym}
use Rattle.prefsql_tables.specs.declared.table.AnswerRow.{AnswerRow}
use Rattle.sql_exec.specs.RowKeys.{group_at, listed}
use Rattle.sql_exec.proofs.Grouping.{one_added}
use Rattle.sql_exec.proofs.row_groups.add_row.Goals.{in-Some, in-None}
use Rattle.sql_exec.proofs.row_groups.add_row.Goals as goal

pub returns : goal.returns
returns c =
    let had : c.match-swap_remove.group ≡ group_at c.args.groups.now c.args.value =
    elim c.match-swap_remove.branch [
      | in-Some w ↦ w.group-is ∙ ap listed (sym w.in-Some.is ∙ c.swap_remove.ensures.value)
      | in-None w ↦ w.group-is ∙ w.new-group.ensures ∙ ap listed (sym w.in-None.is ∙ c.swap_remove.ensures.value)
    ]
    in
    one_added c.args.groups.now c.swap_remove.new.self c.insert.new.self c.args.value c.push.new.self c.args.row
    c.swap_remove.ensures.updates c.in_ok-insert.ensures.updates
    (c.in_ok-push.ensures.ok ∙ ap (λ (xs : List AnswerRow). xs ++ c.args.row ∷ []) had)
