-- Conditions that are asked of combinations of rows of some FROM tables that stand in a row.
use Rattle.std.specs.Prelude.{ℕ, Bool, List, All, IfSome}
use Rattle.prefsql_tables.specs.Sight.{Sight}
use Rattle.prefsql_tables.specs.declared.place.Combo.{Combo}
use Rattle.pref_terms.specs.Terms.{shown}
use Rattle.conditions.specs.Fits.{CondFits}
use Rattle.query_meaning.specs.declared.asking.Asked.{Asked}
use Rattle.plan_algebra.specs.Conjuncts.{cond_of}
use Rattle.plan_algebra.specs.Meaning.{all_hold}
use Rattle.plan_algebra.specs.declared.plan.Conjunct.{Conjunct}

-- what a combination of the FROM tables from a position on shows
abbrev pub sees : Asked → ℕ → Combo → Sight
sees asked first = shown asked.tables.now asked.from.now first

-- the combination has what the condition reads
abbrev pub CanAsk : Asked → ℕ → Combo → Conjunct → Type 0
CanAsk asked first combo c =
    IfSome (cond_of asked.block.now c) (CondFits asked.tables.now asked.from.now first combo.rows)

-- and what each of them reads
abbrev pub CanAskAll : Asked → List Conjunct → ℕ → Combo → Type 0
CanAskAll asked conjuncts first combo = All (CanAsk asked first combo) conjuncts

-- whether each condition is True
abbrev pub holds_all : Asked → List Conjunct → ℕ → Combo → Bool
holds_all asked conjuncts first combo = all_hold asked.block.now conjuncts (sees asked first combo)
