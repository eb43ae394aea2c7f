use Rattle.std.proofs.Common.{◌≡◌, map, take}
use Rattle.query_meaning.specs.declared.block.Output.{Output}
use Rattle.query_meaning.proofs.asking.names.Given as goal

abbrev pub invariant-loop-output : goal.invariant-loop-output
invariant-loop-output l = l.names ≡ map (λ (output : Output). output.name) (take l.output-index l.outputs)
