use Rattle.std.proofs.Common.{◌^◌, ◌<◌, sym, subst, length}
use Rattle.query_typing.proofs.order.sort_keys.Goals as goal

pub returns-in-Some-clause-fault : goal.returns-in-Some-clause-fault
returns-in-Some-clause-fault c = sym (rw c.in_ok-names.ensures at c.in-Some.ensures)

pub order_keys-requires : goal.order_keys-requires
order_keys-requires c = subst (λ os. length os < 2 ^ 32) (sym c.in_ok-names.ensures) c.requires

pub returns-clause-met : goal.returns-clause-met
returns-clause-met c = sym (rw c.in_ok-names.ensures at c.in_default.ensures)

pub returns-clause-keys : goal.returns-clause-keys
returns-clause-keys c = rw c.in_ok-names.ensures at c.in_ok-order_keys.ensures
