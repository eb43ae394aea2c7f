use Rattle.std.proofs.Common.{◌≡◌, take}
use Rattle.plan_groups.specs.Ranks.{keys_of_rows}
use Rattle.plan_groups.proofs.leaf_keys.keys_of_rows.Given as goal

abbrev pub invariant-loop-combo : goal.invariant-loop-combo
invariant-loop-combo l = l.keys.items ≡ keys_of_rows l.bound (take l.combo-index l.combos)
