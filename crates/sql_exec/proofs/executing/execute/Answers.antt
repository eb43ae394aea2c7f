use Rattle.std.proofs.Common.{map, ap, ◌∙◌}
use Rattle.sql_tree.specs.declared.tree.SqlItem.{SqlItem}
use Rattle.sql_exec.proofs.Executed.{answer_is}
use Rattle.sql_exec.proofs.executing.execute.Goals as goal

pub returns : goal.returns
returns c =
    answer_is c.args.tables.now c.args.query.now c.as_slice-2.result.now c.in_ok-rows.rows c.in_ok-answer.answer
    c.keeps_limits.ensures c.requires.formed c.requires.fits
    (c.in_ok-answer.ensures.names ∙ c.in_ok-names.ensures ∙ ap (map (λ (item : SqlItem). item.name)) c.as_slice.ensures)
    c.as_slice-2.ensures c.in_ok-rows.ensures c.in_ok-answer.ensures.rows
