-- What reading answers where a text has no queries. It is this project's own.
use Rattle.std.specs.Prelude.{ℕ, List, ⊤}
use Rattle.prefsql_tables.specs.Table.{Tables}
use Rattle.sql_reader.specs.Reads.{HasFirstFault}
use Rattle.sql_reader.specs.declared.fault.SqlFault.{SqlFault}
use Rattle.sql_reader.specs.declared.fault.SqlFault.TheVariants.{Bad, Memory}

-- the first fault of the text over these tables, unless memory ran out
abbrev pub SaysFirst : Tables → List ℕ → SqlFault → Type 0
SaysFirst tables text (Bad spot) = HasFirstFault tables text spot
SaysFirst tables text Memory = ⊤
