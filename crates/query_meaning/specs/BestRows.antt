-- Best rows in the words of the preference itself (best matches only: Kießling and Köstler 2002).
use Rattle.std.specs.Prelude.{◌≡◌, ◌↔◌, ⊤, Option, Some, None, List, All, Contains}
use Rattle.prefsql_tables.specs.Sight.{Sight}
use Rattle.prefsql_tables.specs.Table.{Tables}
use Rattle.prefsql_tables.specs.declared.place.ColumnPlace.{ColumnPlace}
use Rattle.prefsql_tables.specs.declared.place.Combo.{Combo}
use Rattle.pref_terms.specs.declared.term.Term.{Term}
use Rattle.pref_terms.specs.Betters.{IsBetterByTerm, IsSoundLeaf}
use Rattle.pref_terms.specs.Terms.{leaves_of}
use Rattle.query_meaning.specs.declared.block.Block.{Block}
use Rattle.query_meaning.specs.Answers.{best_rows, candidates, seen}

-- not distinct on every group column
abbrev pub IsOfGroup : List ColumnPlace → Sight → Sight → Type 0
IsOfGroup groups y x = All (λ place. y place ≡ x place) groups

-- better by the preference
abbrev pub IsBetterBy : Option Term → Sight → Sight → Type 0
IsBetterBy None y x = ⊥
IsBetterBy (Some term) y x = IsBetterByTerm term y x

-- its base preferences keep their limits, as each one does
abbrev pub IsSoundPreference : Option Term → Type 0
IsSoundPreference None = ⊤
IsSoundPreference (Some term) = All IsSoundLeaf (leaves_of term)

-- a candidate that no candidate of its group is better than
pub record IsBestRow (tables : Tables) (block : Block) (x : Combo) : Type 0 where
  pub candidate : Contains (candidates tables block) x
  pub unbettered : (y : Combo) → Contains (candidates tables block) y
      → IsOfGroup block.groups (seen tables block y) (seen tables block x)
      → ¬ IsBetterBy block.term (seen tables block y) (seen tables block x)

-- the best rows are the candidates of this kind
abbrev pub HasBestRows : Type 0
HasBestRows = (tables : Tables) (block : Block) (x : Combo) → IsSoundPreference block.term
    → Contains (best_rows tables block) x ↔ IsBestRow tables block x
