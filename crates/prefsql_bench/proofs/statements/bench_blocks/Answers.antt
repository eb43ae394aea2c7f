use Rattle.std.proofs.Common.{◌≡◌, All, sym, subst, rules}
use Rattle.query_meaning.specs.Valid.{IsValidBlock}
use Rattle.prefsql_bench.specs.Statements.{bench_blocks}
use Rattle.prefsql_bench.proofs.BlockLemmas.{blocks_valid}
use Rattle.prefsql_bench.proofs.statements.bench_blocks.Goals as goal

pub returns-clause-valid : goal.returns-clause-valid
returns-clause-valid c =
    let exact : c.push-3.new.self ≡ bench_blocks = search rules in
    subst (All IsValidBlock) (sym exact) blocks_valid
