use Rattle.std.proofs.Common.{◌∙◌, ap, map}
use Rattle.query_meaning.specs.declared.block.Output.{Output}
use Rattle.query_meaning.proofs.AnswerLemmas.{arranged_is_answer}
use Rattle.query_meaning.proofs.asking.Asked.answer.Goals as goal

pub returns : goal.returns
returns c =
    arranged_is_answer c.args.self.now.tables.now c.args.self.now.block.now c.args.combos.now c.has_one_arrangement.ensures
    c.arrange.result c.as_slice-2.result.now c.in_ok-names.names c.in_ok-rows.rows
    c.as_slice-2.ensures
    (c.in_ok-names.ensures ∙ ap (map (λ (output : Output). output.name)) c.as_slice.ensures)
    c.in_ok-rows.ensures
    c.arrange.ensures.names c.arrange.ensures.rows
