use Rattle.std.proofs.Common.{sym, ◌∙◌}
use Rattle.plan_stages.proofs.SinkReads.{closed_then}
use Rattle.plan_stages.proofs.sinking.is_closed.Goals as goal

pub returns-then-is_upper : goal.returns-then-is_upper
returns-then-is_upper c =
    closed_then c.args.term.now c.args.cond.now c.in-Compare.op c.in-Compare.a c.in-Compare.b c.is_bound.result c.in-Compare.is
    (sym c.is_upper.ensures ∙ c.if-is_upper.true) c.is_bound.ensures
