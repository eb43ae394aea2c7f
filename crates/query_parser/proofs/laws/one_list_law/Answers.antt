use Rattle.query_grammar.proofs.Language.{language}
use Rattle.script_forms.proofs.Accepted.{one_list}
use Rattle.query_parser.proofs.laws.one_list_law.Goals as goal

pub returns : goal.returns
returns c = one_list language
