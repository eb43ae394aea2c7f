use Rattle.std.proofs.Common.{◌≡◌, drop}
use Rattle.pref_terms.specs.Cascades.{nested}
use Rattle.plan_stages.proofs.cascades.nested.Given as goal

abbrev pub invariant-loop-part : goal.invariant-loop-part
invariant-loop-part l = nested l.term (drop l.part-index l.parts) ≡ nested l.fn.first l.parts
