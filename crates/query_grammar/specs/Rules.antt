-- The productions of preference scripts that nest.
use Rattle.std.specs.Prelude.{Bool}
use Rattle.query_tree.specs.declared.condition.CondTree.{CondTree}
use Rattle.query_tree.specs.declared.preference.PrefTree.{PrefTree}
use Rattle.token_forms.specs.Forms.{GrammarOf}

pub data Rule : Type 0 → Type 1 where
  -- a condition, and whether it may speak of qualities
  condition_rule : Bool → Rule CondTree
  preference_rule : Rule PrefTree

abbrev pub Grammar : Type 0 → Type 1
Grammar A = GrammarOf Rule A
