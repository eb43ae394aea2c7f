use Rattle.std.proofs.Common.{◌≡◌, ◌+◌, ◌++◌, map, take, drop}
use Rattle.sql_resolver.specs.Found.{cond_found, from_found, outputs_of, scalar_found, term_found, when_found}
use Rattle.sql_resolver.proofs.resolver.+resolve.Given as goal

abbrev pub invariant-terms-loop-part : goal.invariant-terms-loop-part
invariant-terms-loop-part l = l.found.items ≡ map (λ part. term_found l.tables part l.levels) (take l.part-index l.parts)

abbrev pub invariant-whens-loop-part : goal.invariant-whens-loop-part
invariant-whens-loop-part l = l.found.items ≡ map (λ part. when_found l.tables part l.levels) (take l.part-index l.parts)

abbrev pub invariant-scalars-loop-part : goal.invariant-scalars-loop-part
invariant-scalars-loop-part l = l.found.items ≡ map (λ part. scalar_found l.tables part l.levels) (take l.part-index l.parts)

abbrev pub invariant-conds-loop-part : goal.invariant-conds-loop-part
invariant-conds-loop-part l = l.found.items ≡ map (λ part. cond_found l.tables part l.levels) (take l.part-index l.parts)

abbrev pub invariant-items-loop-at : goal.invariant-items-loop-at
invariant-items-loop-at l =
    l.outputs.items ++ outputs_of l.tables (l.at + 1) (drop l.at l.parts) l.levels
    ≡ outputs_of l.tables 1 l.parts l.levels

abbrev pub invariant-froms-loop-part : goal.invariant-froms-loop-part
invariant-froms-loop-part l = l.froms.items ≡ map (from_found l.tables) (take l.part-index l.parts)
