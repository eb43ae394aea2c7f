-- How many tests of the preference answering queries takes, and the lines that tell it. This is
-- this project's own.
use Rattle.std.specs.Prelude.{ℕ, ◌≡◌, ◌+◌, ◌*◌, ◌-◌, ◌^◌, ◌<◌, ◌≤◌, ⊤, min, Bool, true, false, List}
use Rattle.std.specs.Prelude.{[], ◌∷◌, ◌++◌, All, codes, decimal, take}
use Rattle.std.specs.List.{flat_map, sum}
use Rattle.prefsql_tables.specs.Table.{Tables}
use Rattle.query_meaning.specs.declared.block.Block.{Block}
use Rattle.plan_algebra.specs.Tests.{Tested, tested_by}
use Rattle.plan_stages.specs.Stages.{block_plan}

-- a count stays at its last value
abbrev pub last_count : ℕ
last_count = 2 ^ 64 - 1

-- the floor and the bound of the tests of a query's plan over these tables
abbrev pub tests_of : Tables → Block → Tested
tests_of tables block = tested_by tables block (block_plan block)

-- answering the query may take so many tests
pub record IsTestCount (tables : Tables) (block : Block) (tests : ℕ) : Type 0 where
  pub least : min (tests_of tables block).floor last_count ≤ tests
  pub most : tests ≤ (tests_of tables block).bound

-- answering the queries may take so many tests, each in its turn
abbrev pub AreTestCounts : Tables → List Block → List ℕ → Type 0
AreTestCounts tables [] [] = ⊤
AreTestCounts tables (block ∷ blocks) (tests ∷ more) =
    IsTestCount tables block tests × AreTestCounts tables blocks more
AreTestCounts tables blocks tests = ⊥

-- answering the queries took so many tests, each in its turn, and the steps went from one count to
-- another: one to eight steps a test
pub record Takes (tables : Tables) (blocks : List Block) (tests : List ℕ) (before after : ℕ)
    : Type 0 where
  pub counts : AreTestCounts tables blocks tests
  pub least : before + sum tests ≤ after
  pub most : All (λ count. count < last_count) tests → after ≤ before + 8 * sum tests

-- as `tests 7`
abbrev pub tests_line : ℕ → List ℕ
tests_line tests = codes "tests " ++ decimal tests ++ codes "\n"

-- the line for a count, where counts are told
abbrev pub told_line : Bool → ℕ → List ℕ
told_line true tests = tests_line tests
told_line false tests = []

-- the lines for counts, where counts are told
abbrev pub told_lines : Bool → List ℕ → List ℕ
told_lines true tests = flat_map tests_line tests
told_lines false tests = []

-- the lines that are due after the queries
abbrev pub AreLinesOf : Tables → List Block → List ℕ → Type 0
AreLinesOf tables blocks lines =
    (tests : List ℕ) × AreTestCounts tables blocks tests × (lines ≡ flat_map tests_line tests)

-- the lines that are due after some of the queries, from the first on
abbrev pub AreFirstLinesOf : Tables → List Block → List ℕ → Type 0
AreFirstLinesOf tables blocks lines = (n : ℕ) × AreLinesOf tables (take n blocks) lines
