-- How deep the text of a query nests: by parentheses, those round an EXISTS query, a derived table
-- and the list of an IN among them, and by CASE up to its END. Conditions have as few parentheses
-- as their text allows: AND binds before OR (ISO/IEC 9075:1992), and a part that is of its own
-- kind, or that follows NOT, keeps its own.
use Rattle.std.specs.Prelude.{ℕ, ◌+◌, Option, Some, None, map, max}
use Rattle.prefsql_values.specs.Nesting.{Standing, alone, in_and, in_or, after_not, wraps_and}
use Rattle.prefsql_values.specs.Nesting.{wraps_or, wraps_not, in_parentheses, deepest}
use Rattle.sql_tree.specs.declared.tree.SqlCond.TheOpen.{SqlCond-F, SqlScalar-F, SqlSource-F}
use Rattle.sql_tree.specs.declared.tree.SqlCond.TheOpen.{SqlFrom-F, SqlItem-F, SqlQuery-F}
use Rattle.sql_tree.specs.declared.tree.SqlCond.TheOpen.{SqlWhen-F, SumTerm-F}
use Rattle.sql_tree.specs.declared.tree.SqlQuery.{SqlQuery, fold-SqlQuery}

-- one layer of each part, with the depths of the parts below it in their place
abbrev pub Level
    : (Type 0 → Type 0 → Type 0 → Type 0 → Type 0 → Type 0 → Type 0 → Type 0 → Type 0) → Type 0
Level F = F (Standing → ℕ) ℕ ℕ ℕ ℕ ℕ ℕ ℕ

abbrev pub cond_step : Level SqlCond-F → Standing → ℕ
cond_step (SqlCond-F.And parts) standing =
    in_parentheses (wraps_and standing) (deepest (map (λ part. part in_and) parts))
cond_step (SqlCond-F.Or parts) standing =
    in_parentheses (wraps_or standing) (deepest (map (λ part. part in_or) parts))
cond_step (SqlCond-F.Not part) standing = in_parentheses (wraps_not standing) (part after_not)
cond_step (SqlCond-F.Compare op a b) standing = max a b
cond_step (SqlCond-F.Between negate a low high) standing = max a (max low high)
cond_step (SqlCond-F.OneOf negate a list) standing = max a (deepest list + 1)
cond_step (SqlCond-F.IsNull negate a) standing = a
cond_step (SqlCond-F.Exists query) standing = query + 1

abbrev pub depth_if : Option ℕ → ℕ
depth_if None = 0
depth_if (Some depth) = depth

abbrev pub scalar_step : Level SqlScalar-F → ℕ
scalar_step (SqlScalar-F.Column place) = 0
scalar_step (SqlScalar-F.Number n) = 0
scalar_step (SqlScalar-F.Chars text) = 0
scalar_step (SqlScalar-F.Sum terms) = deepest terms
scalar_step (SqlScalar-F.Case whens last) = max (deepest whens) (depth_if last) + 1

abbrev pub source_step : Level SqlSource-F → ℕ
source_step (SqlSource-F.Table table) = 0
source_step (SqlSource-F.Derived query) = query + 1

abbrev pub from_step : Level SqlFrom-F → ℕ
from_step from = from.source

abbrev pub item_step : Level SqlItem-F → ℕ
item_step item = item.value

abbrev pub where_depth : Option (Standing → ℕ) → ℕ
where_depth None = 0
where_depth (Some cond) = cond alone

abbrev pub query_step : Level SqlQuery-F → ℕ
query_step query =
    max (deepest query.items) (max (deepest query.from) (where_depth query.filter))

abbrev pub when_step : Level SqlWhen-F → ℕ
when_step w = max (w.cond alone) w.value

abbrev pub term_step : Level SumTerm-F → ℕ
term_step term = term.scalar

unfoldable pub nesting : SqlQuery → ℕ
nesting =
    fold-SqlQuery _ _ _ _ _ _ _ _ cond_step scalar_step source_step
    from_step item_step query_step when_step term_step
