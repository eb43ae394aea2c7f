-- Joins whose conditions ask for equal values. This is this project's own.
use Rattle.std.specs.Prelude.{◌≡◌, ◌+◌, ◌<◌, ◌≤◌, ◌⊎◌, ℕ, Option, Some, List, Contains, All, length}
use Rattle.prefsql_values.specs.declared.value.CompareOp.TheVariants.{Eq}
use Rattle.prefsql_tables.specs.declared.place.ColumnPlace.{ColumnPlace}
use Rattle.prefsql_tables.specs.declared.place.Combo.{Combo}
use Rattle.conditions.specs.declared.condition.Cond.{Cond}
use Rattle.conditions.specs.declared.condition.Cond.TheVariants.{Compare}
use Rattle.conditions.specs.declared.condition.Scalar.TheVariants.{Column}
use Rattle.query_meaning.specs.declared.block.Block.{Block}
use Rattle.plan_algebra.specs.Conjuncts.{cond_of}
use Rattle.plan_algebra.specs.declared.plan.Conjunct.{Conjunct}
use Rattle.native_plan.specs.declared.equating.Equated.{Equated}

-- the condition that two columns are equal
abbrev pub equality : ColumnPlace → ColumnPlace → Cond
equality a b = Compare Eq (Column a) (Column b)

-- the condition is that the two are equal, in whichever order they are written
abbrev pub IsEquality : Option Cond → Equated → Type 0
IsEquality cond columns =
    (cond ≡ Some (equality columns.left columns.right))
    ⊎ (cond ≡ Some (equality columns.right columns.left))

-- a column of the tables before `middle`, and one of those from it on
pub record IsOnBothSides (middle : ℕ) (columns : Equated) : Type 0 where
  pub left : columns.left.table < middle
  pub right : middle ≤ columns.right.table

-- one of the conditions is that a column of the tables before `middle` equals one of those from it
-- on
pub record IsEquated (block : Block) (conjuncts : List Conjunct) (middle : ℕ)
    (columns : Equated) : Type 0 where
  pub conjunct : Conjunct
  pub there : Contains conjuncts conjunct
  pub equality : IsEquality (cond_of block conjunct) columns
  pub sides : IsOnBothSides middle columns

-- each combination of the FROM tables from position `first` on ends before `middle`
abbrev pub AllEndAt : ℕ → ℕ → List Combo → Type 0
AllEndAt first middle = All (λ (combo : Combo). first + length combo.rows ≡ middle)
