use Rattle.std.proofs.Common.{◌≡◌, ◌++◌, take}
use Rattle.std.specs.List.{flat_map}
use Rattle.query_meaning.specs.declared.block.Output.{Output}
use Rattle.rewritten_query.specs.Columns.{own_column}
use Rattle.sql_rewriter.proofs.used.mentioned.Given as goal

abbrev pub invariant-loop-output : goal.invariant-loop-output
invariant-loop-output l = l.places ≡ flat_map (λ (output : Output). own_column output.scalar) (take l.output-index l.output-items)

abbrev pub invariant-loop-group : goal.invariant-loop-group
invariant-loop-group l = l.places ≡ l.initial.places ++ take l.group-index l.group-items
