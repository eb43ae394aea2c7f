use Rattle.std.proofs.Common.{◌≡◌, ◌++◌, take}
use Rattle.std.specs.List.{flat_map}
use Rattle.std.specs.String.{string_bytes}
use Rattle.plan_algebra.specs.PlanText.{conjunct_text}
use Rattle.plan_algebra.proofs.explain.add_conjuncts.Given as goal

abbrev pub invariant-loop-conjunct : goal.invariant-loop-conjunct
invariant-loop-conjunct l = string_bytes l.text ≡ string_bytes l.fn.text ++ flat_map conjunct_text (take l.conjunct-index l.conjuncts)
