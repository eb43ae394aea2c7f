use Rattle.std.proofs.Common.{◌≡◌, map, take}
use Rattle.sql_tree.specs.declared.tree.SqlItem.{SqlItem}
use Rattle.sql_exec.proofs.executing.item_names.Given as goal

abbrev pub invariant-loop-item : goal.invariant-loop-item
invariant-loop-item l = l.names ≡ map (λ (item : SqlItem). item.name) (take l.item-index l.items)
