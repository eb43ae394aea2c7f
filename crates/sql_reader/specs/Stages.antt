-- A fault of a stage as a fault of the text: its place and code stay. This is the project's own.
use Rattle.prefsql_lexer.specs.declared.fault.LexFault.{LexFault}
use Rattle.prefsql_lexer.specs.declared.fault.LexFault.TheVariants as lex
use Rattle.sql_parser.specs.declared.fault.ParseFault.{ParseFault}
use Rattle.sql_parser.specs.declared.fault.ParseFault.TheVariants as parse
use Rattle.sql_resolver.specs.declared.statements.ResolveFault.{ResolveFault}
use Rattle.sql_resolver.specs.declared.statements.ResolveFault.TheVariants as resolve
use Rattle.sql_reader.specs.declared.fault.SqlFault.{SqlFault}
use Rattle.sql_reader.specs.declared.fault.SqlFault.TheVariants.{Bad, Memory}

abbrev pub of_lexing : LexFault → SqlFault
of_lexing (lex.Bad spot) = Bad spot
of_lexing lex.Memory = Memory

abbrev pub of_parsing : ParseFault → SqlFault
of_parsing (parse.Bad spot) = Bad spot
of_parsing parse.Memory = Memory

abbrev pub of_resolving : ResolveFault → SqlFault
of_resolving (resolve.Bad spot) = Bad spot
of_resolving resolve.Memory = Memory
