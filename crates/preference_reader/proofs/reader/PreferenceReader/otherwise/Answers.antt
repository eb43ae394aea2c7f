use Rattle.std.proofs.Common.{◌∙◌}
use Rattle.grammar_forms.specs.Reading.{read_token}
use Rattle.prefsql_lexer.specs.declared.token.Keyword.TheVariants.{Else}
use Rattle.token_forms.specs.Classes.{class, word_class}
use Rattle.token_forms.specs.Columns.{column}
use Rattle.token_forms.specs.Plain.{plain}
use Rattle.token_forms.proofs.Kept.{read_ok}
use Rattle.query_grammar.proofs.Plain.{plain_column}
use Rattle.preference_reader.proofs.Sides.{otherwise_read}
use Rattle.preference_reader.proofs.reader.PreferenceReader.otherwise.Goals as goal

pub returns : goal.returns
returns c =
    let word = read_ok (read_token class (word_class Else) (λ _. tt {0}) c.args.tokens.now) c.word.result c.word.new.self _ c.in_ok-first.ensures.1 c.word.ensures in
    let name = plain_column c.args.self.depth c.word.new.self ∙ read_ok (plain column c.word.new.self) c.column.result c.column.new.self _ c.in_ok-first-2.ensures.1 c.column.ensures in
    otherwise_read c.args.self.depth c.args.tokens.now c.word.new.self c.column.new.self _ c.args.first c.in_ok-first-2.first c.in_ok-first-2.column word name (c.in_ok-first-2.ensures.0 ∙ c.in_ok-first.ensures.0) c.second_set.result c.second_set.new.tokens c.second_set.ensures
