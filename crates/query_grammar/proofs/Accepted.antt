-- Tokens are at most one preference script.
use Rattle.std.proofs.Common.{◌≡◌, List}
use Rattle.prefsql_lexer.specs.declared.token.Token.{Token}
use Rattle.query_tree.specs.declared.query.QueryTree.{QueryTree}
use Rattle.script_forms.proofs.Accepted.{one_list as one_list_of}
use Rattle.query_grammar.specs.Scripts.{IsScript}
use Rattle.query_grammar.proofs.Language.{language}

pub one_list : (ts : List Token) (some other : List QueryTree) → IsScript ts some → IsScript ts other → some ≡ other
one_list = one_list_of language
