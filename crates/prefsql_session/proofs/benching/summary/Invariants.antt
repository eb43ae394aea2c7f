use Rattle.prefsql_session.proofs.BenchLemmas.{HasCounted}
use Rattle.prefsql_session.proofs.benching.summary.Given as goal

abbrev pub invariant-loop-block : goal.invariant-loop-block
invariant-loop-block g l =
    HasCounted l.count l.block-items l.block-index l.rows.items l.initial.steps l.steps
