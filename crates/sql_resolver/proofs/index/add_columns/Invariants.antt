use Rattle.std.proofs.Common.{◌≡◌, ◌++◌, ◌∷◌, [], List, length, take}
use Rattle.sql_text.specs.Text.{ItemNames}
use Rattle.sql_resolver.specs.Index.{IsIndexOf, column_names}
use Rattle.sql_resolver.proofs.index.add_columns.Given as goal

abbrev pub invariant-loop-at : goal.invariant-loop-at
invariant-loop-at l =
    (before : List ItemNames) → length before ≡ l.item_at → IsIndexOf before l.fn.columns
    → IsIndexOf (before ++ record { name = l.item.name; columns = column_names (take l.at l.item.columns) } ∷ []) l.columns
