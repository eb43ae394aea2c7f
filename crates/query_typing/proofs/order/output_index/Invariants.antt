use Rattle.std.proofs.Common.{take}
use Rattle.query_typing.specs.NamePlaces.{IsIndexOf}
use Rattle.query_typing.specs.Outputs.{names_in}
use Rattle.query_typing.proofs.order.output_index.Given as goal

abbrev pub invariant-loop-place : goal.invariant-loop-place
invariant-loop-place l = IsIndexOf (names_in (take l.place l.outputs)) l.index
