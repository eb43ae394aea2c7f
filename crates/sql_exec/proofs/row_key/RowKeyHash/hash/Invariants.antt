use Rattle.std.proofs.Common.{◌≡◌, drop, fold}
use Rattle.std.specs.List.{flat_map}
use Rattle.sql_exec.specs.RowKeys.{value_writes, row_writes}
use Rattle.sql_exec.proofs.row_key.RowKeyHash.hash.Given as goal

abbrev pub invariant-loop-value : goal.invariant-loop-value
invariant-loop-value g l =
    fold g.H.Hasher.write l.fn.state (row_writes l.fn.self) ≡ fold g.H.Hasher.write l.state (flat_map value_writes (drop l.value-index l.value-items))
