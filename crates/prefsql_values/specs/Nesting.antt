-- Which conditions stand in parentheses where a text has as few of them as it allows: AND binds
-- before OR (ISO/IEC 9075:1992), and a part that is of its own kind, or that follows NOT, keeps its
-- parentheses.
use Rattle.std.specs.Prelude.{ℕ, ◌+◌, Bool, true, false, List, [], ◌∷◌, max}

-- where a condition stands: by itself, as a part of an And, as a part of an Or, or after NOT
pub data Standing : Type 0 where
  alone : Standing
  in_and : Standing
  in_or : Standing
  after_not : Standing

-- whether an And, an Or and a Not stand in parentheses there; no other condition does
abbrev pub wraps_and : Standing → Bool
wraps_and alone = false
wraps_and in_and = true
wraps_and in_or = false
wraps_and after_not = true

abbrev pub wraps_or : Standing → Bool
wraps_or alone = false
wraps_or in_and = true
wraps_or in_or = true
wraps_or after_not = true

abbrev pub wraps_not : Standing → Bool
wraps_not alone = false
wraps_not in_and = false
wraps_not in_or = false
wraps_not after_not = true

abbrev pub in_parentheses : Bool → ℕ → ℕ
in_parentheses true depth = depth + 1
in_parentheses false depth = depth

-- the greatest of the numbers
abbrev pub deepest : List ℕ → ℕ
deepest [] = 0
deepest (depth ∷ depths) = max depth (deepest depths)
