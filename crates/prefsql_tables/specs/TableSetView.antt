-- A set of tables as contracts see it: the list of its names and tables.
use Rattle.std.specs.Prelude.{List, map, String, string_bytes}
use Rattle.std.specs.declared.alloc.Global.{Global}
use Rattle.prefsql_tables.specs.TableData.{TableData, NamedTable}

abbrev pub named : String Global × TableData → NamedTable
named entry = record { name = string_bytes entry.0; table = entry.1 }

abbrev pub named_tables : List (String Global × TableData) → List NamedTable
named_tables = map named
