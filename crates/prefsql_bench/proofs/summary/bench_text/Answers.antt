use Rattle.std.proofs.Common.{◌+◌, ◌++◌, codes, decimal, take, get_or, ap, sym, ◌∙◌, append_assoc, length-take-le, arith}
use Rattle.std.proofs.lemmas.List.{take_more}
use Rattle.prefsql_bench.specs.Summary.{statement_line, statement_lines}
use Rattle.prefsql_bench.proofs.LineLemmas.{lines_more}
use Rattle.prefsql_bench.proofs.summary.bench_text.Goals as goal

pub loop-place-preserved : goal.loop-place-preserved
loop-place-preserved c =
    let answers = c.args.answer_rows.now in
    let place = c.loop-place.place in
    let head = codes "bench " ++ decimal c.args.row_count ++ codes "\n" in
    let rows = get_or answers place 0 in
    let before = statement_lines 1 (take place answers) in
    let line = statement_line (place + 1) rows in
    let count = length-take-le place answers (omega arith) in
    c.in_ok-add_line.ensures
    ∙ ap (λ text. text ++ line) c.loop-place.invariant
    ∙ append_assoc head before line
    ∙ ap (λ lines. head ++ lines)
    (sym (lines_more 1 (place + 1) (take place answers) rows (omega (arith, count)))
    ∙ ap (statement_lines 1) (sym (take_more answers place 0 c.loop-place-test.true)))
