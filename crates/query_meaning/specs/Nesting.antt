-- How deep parentheses nest in a condition that is written with as few of them as its text allows
-- (ISO/IEC 9075:1992). That a quality is written as a column and TOP as a comparison is this
-- project's own.
use Rattle.std.specs.Prelude.{ℕ, map}
use Rattle.prefsql_values.specs.Nesting.{Standing, alone, in_and, in_or, after_not, wraps_and}
use Rattle.prefsql_values.specs.Nesting.{wraps_or, wraps_not, in_parentheses, deepest}
use Rattle.conditions.specs.declared.condition.Cond.{Cond, fold-Cond}
use Rattle.conditions.specs.declared.condition.Cond.TheOpen.{Cond-F}

-- one layer of a condition, with the depth of each part, by where it stands, in its place. The list
-- of an IN stands in parentheses too
abbrev pub nesting_step : Cond-F (Standing → ℕ) → Standing → ℕ
nesting_step (Cond-F.And parts) standing =
    in_parentheses (wraps_and standing) (deepest (map (λ part. part in_and) parts))
nesting_step (Cond-F.Or parts) standing =
    in_parentheses (wraps_or standing) (deepest (map (λ part. part in_or) parts))
nesting_step (Cond-F.Not part) standing = in_parentheses (wraps_not standing) (part after_not)
nesting_step (Cond-F.Compare op a b) standing = 0
nesting_step (Cond-F.Between negate a low high) standing = 0
nesting_step (Cond-F.OneOf negate a list) standing = 1
nesting_step (Cond-F.IsNull negate a) standing = 0
nesting_step (Cond-F.Top quality) standing = 0

-- the depth where it stands so
unfoldable pub nesting_in : Cond → Standing → ℕ
nesting_in = fold-Cond (Standing → ℕ) nesting_step

abbrev pub nesting : Cond → ℕ
nesting cond = nesting_in cond alone
