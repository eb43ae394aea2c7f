use Rattle.std.proofs.Common.{◌≡◌, ◌∙◌, ◌+◌, ◌<◌, ◌≤◌, ◌++◌, ◌∷◌, [], List, ap, get_or, length, rules, subst, sym}
use Rattle.prefsql_tables.specs.Table.{Tables}
use Rattle.query_meaning.specs.Answers.{answer_of}
use Rattle.prefsql_bench.specs.Statements.{bench_blocks}
use Rattle.prefsql_bench.specs.Summary.{answer_rows}
use Rattle.prefsql_session.specs.Counts.{IsTestCount}
use Rattle.prefsql_session.proofs.BenchLemmas.{HasCounted, all_counted, one_counted}
use Rattle.prefsql_session.proofs.benching.summary.Goals as goal

pub loop-block-preserved : goal.loop-block-preserved
loop-block-preserved g c =
    let blocks = c.as_slice-block-items.result.now in
    let lt : c.loop-block.block-index < length blocks = search rules in
    let item : get_or blocks c.loop-block.block-index c.block-item.result ≡ c.block-item.result = search rules in
    let pushed : c.push.new.self.items ≡ c.loop-block.rows.items ++ c.in_ok-found.found ∷ [] = search rules in
    let rows : c.in_ok-found.found ≡ answer_rows c.args.count c.block-item.result =
    c.in_ok-found.ensures.rows ∙ ap (λ (tables : Tables). length (answer_of tables c.block-item.result).rows) c.in_ok-tables.ensures in
    subst (λ (rows : List _). HasCounted c.args.count blocks (c.loop-block.block-index + 1) rows c.args.steps.now c.row_count.new.steps) (sym pushed)
    (one_counted c.args.count blocks c.loop-block.block-index c.block-item.result item lt c.loop-block.rows.items c.args.steps.now c.loop-block.steps c.loop-block.invariant
    c.in_ok-found.found c.in_ok-found.field-0-1 c.row_count.new.steps rows
    (subst (λ (tables : Tables). IsTestCount tables c.block-item.result c.in_ok-found.field-0-1) c.in_ok-tables.ensures c.in_ok-found.ensures.tests)
    c.in_ok-found.ensures.least_steps c.in_ok-found.ensures.most_steps)

pub returns-clause-counted : goal.returns-clause-counted
returns-clause-counted g c =
    let blocks = c.as_slice-block-items.result.now in
    let over : length blocks ≤ c.loop-block.block-index = search rules in
    let are : blocks ≡ bench_blocks = search rules in
    all_counted c.args.count blocks c.loop-block.block-index c.loop-block.rows.items c.args.steps.now c.loop-block.steps c.loop-block.invariant over are c.bench_text.result
