-- Tokens are at most one SQL script, and which ones they are as any language of scripts says it.
use Rattle.std.proofs.Common.{◌≡◌, List}
use Rattle.prefsql_lexer.specs.declared.token.Token.{Token}
use Rattle.script_forms.specs.Scripts as generic
use Rattle.script_forms.proofs.Accepted as accepted
use Rattle.sql_text.specs.declared.named.NamedStatement.{NamedStatement}
use Rattle.sql_text.specs.Grammar.{script, ended, statement, production}
use Rattle.sql_text.specs.Scripts.{IsScript}
use Rattle.sql_parser.proofs.Language.{language}

pub as_language : (ts : List Token) (statements : List NamedStatement) → IsScript ts statements → generic.IsScript production statement ts statements
unfolding ended script
as_language ts statements s = s

pub from_language : (ts : List Token) (statements : List NamedStatement) → generic.IsScript production statement ts statements → IsScript ts statements
unfolding ended script
from_language ts statements s = s

pub one_list : (ts : List Token) (some other : List NamedStatement) → IsScript ts some → IsScript ts other → some ≡ other
one_list ts some other w v = accepted.one_list language ts some other (as_language ts some w) (as_language ts other v)
