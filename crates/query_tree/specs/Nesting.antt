-- How deep parentheses nest in a condition that is written with as few of them as its text allows
-- (ISO/IEC 9075:1992).
use Rattle.std.specs.Prelude.{ℕ, map}
use Rattle.prefsql_values.specs.Nesting.{Standing, alone, in_and, in_or, after_not, wraps_and}
use Rattle.prefsql_values.specs.Nesting.{wraps_or, wraps_not, in_parentheses, deepest}
use Rattle.query_tree.specs.declared.condition.CondTree.{CondTree, fold-CondTree}
use Rattle.query_tree.specs.declared.condition.CondTree.TheOpen.{CondTree-F}

-- one layer of a condition, with the depth of each part, by where it stands, in its place. The list
-- of an IN stands in parentheses too
abbrev pub nesting_step : CondTree-F (Standing → ℕ) → Standing → ℕ
nesting_step (CondTree-F.And parts) standing =
    in_parentheses (wraps_and standing) (deepest (map (λ part. part in_and) parts))
nesting_step (CondTree-F.Or parts) standing =
    in_parentheses (wraps_or standing) (deepest (map (λ part. part in_or) parts))
nesting_step (CondTree-F.Not part) standing = in_parentheses (wraps_not standing) (part after_not)
nesting_step (CondTree-F.Compare op a b) standing = 0
nesting_step (CondTree-F.Between negated a low high) standing = 0
nesting_step (CondTree-F.OneOf negated a list) standing = 1
nesting_step (CondTree-F.IsNull negated a) standing = 0
nesting_step (CondTree-F.Top name) standing = 0

-- the depth where it stands so
unfoldable pub nesting_in : CondTree → Standing → ℕ
nesting_in = fold-CondTree (Standing → ℕ) nesting_step

abbrev pub nesting : CondTree → ℕ
nesting cond = nesting_in cond alone
