-- A plan as text: one line for each node, the top first, and an empty line at the end. The form is
-- this project's own.
use Rattle.std.specs.Prelude.{ℕ, ◌+◌, Option, Some, None, List, [], ◌∷◌, ◌++◌, codes, decimal}
use Rattle.std.specs.Prelude.{slice_get}
use Rattle.std.specs.List.{flat_map}
use Rattle.prefsql_tables.specs.declared.place.ColumnPlace.{ColumnPlace}
use Rattle.prefsql_tables.specs.declared.schema.Column.{Column}
use Rattle.pref_terms.specs.declared.term.Term.{Term, fold-Term}
use Rattle.pref_terms.specs.declared.term.Term.TheOpen.{Term-F}
use Rattle.query_meaning.specs.declared.block.Block.{Block}
use Rattle.query_meaning.specs.declared.block.FromTable.{FromTable}
use Rattle.plan_algebra.specs.declared.plan.Conjunct.{Conjunct}
use Rattle.plan_algebra.specs.declared.plan.Conjunct.TheVariants as conjunct
use Rattle.plan_algebra.specs.declared.plan.Plan.{Plan, fold-Plan}
use Rattle.plan_algebra.specs.declared.plan.Plan.TheOpen.{Plan-F}

-- the number that is shown for a position, which counts from 0
abbrev pub number_text : ℕ → List ℕ
number_text position = decimal (position + 1)

-- a leaf by its number, the parts of a Pareto node, of a prioritised one and of a dual one in
-- parentheses
abbrev pub term_step : Term-F (List ℕ) → List ℕ
term_step (Term-F.Leaf leaf) = codes "P" ++ decimal leaf.number
term_step (Term-F.Pareto p q) = codes "(" ++ p ++ codes " and " ++ q ++ codes ")"
term_step (Term-F.Prior p q) = codes "(" ++ p ++ codes " cascade " ++ q ++ codes ")"
term_step (Term-F.Dual p) = codes "(dual " ++ p ++ codes ")"

unfoldable pub term_text : Term → List ℕ
term_text = fold-Term (List ℕ) term_step

-- the names in the block of a table and of its columns
abbrev pub name_of_table : Option FromTable → List ℕ
name_of_table None = []
name_of_table (Some table) = table.name

abbrev pub name_of_column : Option Column → List ℕ
name_of_column None = []
name_of_column (Some column) = column.name

abbrev pub column_of : Option FromTable → ℕ → Option Column
column_of None column = None
column_of (Some table) column = slice_get table.schema.columns column

-- a condition of WHERE or of BUT ONLY
abbrev pub conjunct_text : Conjunct → List ℕ
conjunct_text (conjunct.Filter i) = codes " W" ++ number_text i
conjunct_text (conjunct.Only i) = codes " B" ++ number_text i

abbrev pub filter_text : List Conjunct → List ℕ
filter_text conjuncts = codes "filter" ++ flat_map conjunct_text conjuncts

-- a line behind its indentation
abbrev pub line : List ℕ → List ℕ → List ℕ
line indent text = indent ++ text ++ codes "\n"

-- two spaces more
abbrev pub deeper : List ℕ → List ℕ
deeper indent = indent ++ codes "  "

module _ (block : Block) where
  abbrev pub scan_text : ℕ → List ℕ
  scan_text table =
      codes "scan T" ++ number_text table ++ codes " "
      ++ name_of_table (slice_get block.from table)

  abbrev pub group_text : ColumnPlace → List ℕ
  group_text place =
      codes " T" ++ number_text place.table ++ codes "."
      ++ name_of_column (column_of (slice_get block.from place.table) place.column)

  abbrev pub groups_text : List ColumnPlace → List ℕ
  groups_text [] = []
  groups_text (place ∷ places) = codes " by" ++ flat_map group_text (place ∷ places)

  abbrev pub best_text : Term → List ColumnPlace → List ℕ
  best_text term groups = codes "best " ++ term_text term ++ groups_text groups

  -- a node and those below it, by the indentation at which it stands
  abbrev pub lines_step : Plan-F (List ℕ → List ℕ) → List ℕ → List ℕ
  lines_step (Plan-F.Scan table) indent = line indent (scan_text table)
  lines_step (Plan-F.Filter conjuncts below) indent =
      line indent (filter_text conjuncts) ++ below (deeper indent)
  lines_step (Plan-F.Join left right) indent =
      line indent (codes "join") ++ left (deeper indent) ++ right (deeper indent)
  lines_step (Plan-F.Best term groups below) indent =
      line indent (best_text term groups) ++ below (deeper indent)

  unfoldable pub plan_lines : Plan → List ℕ → List ℕ
  plan_lines = fold-Plan (List ℕ → List ℕ) lines_step

  -- the text of the plan
  abbrev pub plan_text : Plan → List ℕ
  plan_text plan = plan_lines plan [] ++ codes "\n"
