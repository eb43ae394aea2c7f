-- A block that is asked over the tables that it fits.
use Rattle.std.specs.Prelude.{◌≡◌, Bool}
use Rattle.prefsql_tables.specs.declared.place.Combo.{Combo}
use Rattle.prefsql_tables.specs.Sight.{Sight}
use Rattle.query_meaning.specs.Answers.{indexes_of, passes, row_counts, seen}
use Rattle.query_meaning.specs.BlockFits.{FitsTables, HasPlaces}
use Rattle.query_meaning.specs.Choices.{IsChoice}
use Rattle.query_meaning.specs.declared.asking.Asked.{Asked}

-- the block fits the tables, and the positions are those of its FROM tables
pub record IsAsked (asked : Asked) : Type 0 where
  pub places : HasPlaces asked.block.now
  pub fits : FitsTables asked.tables.now asked.block.now
  pub from : asked.from.now ≡ indexes_of asked.block.now.from

-- a row of each FROM table
abbrev pub IsRowChoice : Asked → Combo → Type 0
IsRowChoice asked combo = IsChoice (row_counts asked.tables.now asked.block.now.from) combo.rows

-- what a combination shows
abbrev pub shows : Asked → Combo → Sight
shows asked = seen asked.tables.now asked.block.now

-- whether WHERE is True
abbrev pub is_candidate : Asked → Combo → Bool
is_candidate asked combo = passes asked.block.now.filter (shows asked combo)

-- whether BUT ONLY is True
abbrev pub is_kept : Asked → Combo → Bool
is_kept asked combo = passes asked.block.now.only (shows asked combo)
