use Rattle.std.proofs.Common.{◌∙◌, sym, ap}
use Rattle.prefsql_values.specs.Value.{value_of}
use Rattle.query_typing.specs.Pairs.{has_pair}
use Rattle.query_typing.proofs.PairSteps.{pair_put, pair_there}
use Rattle.query_typing.proofs.edges.put_pair.Goals as goal

pub returns-then-is_above : goal.returns-then-is_above
returns-then-is_above c = λ u v.
    pair_there c.args.above.now.items (value_of c.args.upper) (value_of c.args.lower)
    (ap (λ ps. has_pair ps (value_of c.args.upper) (value_of c.args.lower)) (sym c.as_slice.ensures.value) ∙ sym c.is_above.ensures ∙ c.if-is_above.true) u v

pub returns : goal.returns
returns c = λ u v. ap (λ ps. has_pair ps u v) c.in_ok-push.ensures.items ∙ pair_put c.args.above.now.items _ u v
