use Rattle.std.proofs.Common.{◌≡◌, take, string_bytes}
use Rattle.prefsql_bench.specs.Summary.{bench_text}
use Rattle.prefsql_bench.proofs.summary.bench_text.Given as goal

abbrev pub invariant-loop-place : goal.invariant-loop-place
invariant-loop-place l = string_bytes l.text ≡ bench_text l.row_count (take l.place l.answer_rows)
