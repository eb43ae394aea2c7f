use Rattle.std.proofs.Common.{◌≡◌, map, take}
use Rattle.pref_terms.specs.Terms.{shown}
use Rattle.conditions.specs.Meaning.{scalar_value}
use Rattle.query_meaning.specs.declared.block.Output.{Output}
use Rattle.query_meaning.proofs.asking.Asked.answer_row.Given as goal

abbrev pub invariant-loop-output : goal.invariant-loop-output
invariant-loop-output l =
    l.cells ≡ map (λ (output : Output). scalar_value (shown l.self.tables.now l.self.from.now 0 l.combo) output.scalar) (take l.output-index l.output-items)
