use Rattle.std.proofs.Common.{[], ◌∷◌, ◌++◌, map, ap, ◌∙◌, sym, arith}
use Rattle.std.proofs.lemmas.List.FromFn.{length-map-range_with_len, map-range_with_len_more}
use Rattle.prefsql_bench.specs.BenchTable.{bench_columns, bench_row, number_value}
use Rattle.prefsql_bench.proofs.DrawLemmas.{state_after_none}
use Rattle.prefsql_bench.proofs.NameLemmas.{bench_is_schema}
use Rattle.prefsql_bench.proofs.table.bench_table.Goals as goal

pub new-table-requires : goal.new-table-requires
new-table-requires c = rw c.in_ok-schema.ensures bench_is_schema

pub loop-place-init : goal.loop-place-init
loop-place-init c = record {
  rows = let columns = c.in_ok-schema.ensures in cc;
  state = c.new-draws.ensures ∙ sym state_after_none;
}

pub push_row-requires-clause-room : goal.push_row-requires-clause-room
push_row-requires-clause-room c =
    let count = c.loop-place.place in
    rw (c.loop-place.invariant.rows, length-map-range_with_len bench_row 0 count) (omega arith)

pub loop-place-preserved : goal.loop-place-preserved
loop-place-preserved c =
    let place = c.loop-place.place in
    let before = c.loop-place.invariant.rows in
    let cells = c.in_ok-row.ensures ∙ ap (map number_value) c.numbers-numbers.ensures.numbers in
    let more = map-range_with_len_more bench_row 0 place place (omega arith) in
    record {
      rows = c.in_ok-push_row.ensures.ok
          ∙ (λ i. record { columns = (before i).columns; rows = (before i).rows ++ record { cells = cells i } ∷ [] })
          ∙ (λ i. record { columns = bench_columns; rows = sym more i });
      state = c.numbers-numbers.ensures.after;
    }
