-- Why a script has no queries, as the end of a run. It is this project's own.
use Rattle.prefsql_lexer.specs.declared.fault.LexFault.{LexFault}
use Rattle.prefsql_lexer.specs.declared.fault.LexFault.TheVariants as lex
use Rattle.query_parser.specs.declared.fault.ParseFault.{ParseFault}
use Rattle.query_parser.specs.declared.fault.ParseFault.TheVariants as parse
use Rattle.query_typing.specs.declared.fault.TypeFault.{TypeFault}
use Rattle.query_typing.specs.declared.fault.TypeFault.TheVariants as type
use Rattle.sql_reader.specs.declared.fault.SqlFault.{SqlFault}
use Rattle.sql_reader.specs.declared.fault.SqlFault.TheVariants as sql
use Rattle.prefsql_session.specs.declared.fault.Fault.TheVariants.{Script}
use Rattle.prefsql_session.specs.declared.fault.Stop.{Stop}
use Rattle.prefsql_session.specs.declared.fault.Stop.TheVariants.{Refused, Memory}

abbrev pub lexing : LexFault → Stop
lexing (lex.Bad spot) = Refused (Script spot)
lexing lex.Memory = Memory

abbrev pub parsing : ParseFault → Stop
parsing (parse.Bad spot) = Refused (Script spot)
parsing parse.Memory = Memory

abbrev pub typing : TypeFault → Stop
typing (type.Bad spot) = Refused (Script spot)
typing type.Memory = Memory

abbrev pub reading : SqlFault → Stop
reading (sql.Bad spot) = Refused (Script spot)
reading sql.Memory = Memory
