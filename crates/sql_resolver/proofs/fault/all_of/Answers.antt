use Rattle.std.proofs.Common.{sym, ◌∙◌}
use Rattle.std.specs.Vec.Iter.{into_iter_items}
use Rattle.sql_resolver.proofs.OutcomeLaws.{all_done}
use Rattle.sql_resolver.proofs.fault.all_of.Goals as goal

pub returns : goal.returns
returns g c =
    all_done c.loop-part.found (into_iter_items c.loop-part.part-iterator) _
    (sym c.loop-part.part-iterator.rest.ok.0 ∙ c.in-None.ensures.steps.0) c.loop-part.invariant
