use Rattle.std.proofs.Common.{◌≡◌, drop}
use Rattle.plan_stages.specs.Sinking.{is_place_in}
use Rattle.plan_stages.proofs.sinking.is_place_in.Given as goal

abbrev pub invariant-loop-other : goal.invariant-loop-other
invariant-loop-other l = is_place_in l.places l.place ≡ is_place_in (drop l.other-index l.places) l.place
