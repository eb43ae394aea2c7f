-- What is read of tokens: which production nests in which, and with which tokens each begins and
-- goes on.
use Rattle.std.specs.Prelude.{ℕ, List, [], ◌∷◌}
use Rattle.grammar_forms.specs.Reading.{Outcome, read, read_rule}
use Rattle.prefsql_lexer.specs.declared.token.Token.{Token}
use Rattle.prefsql_lexer.specs.declared.token.Keyword.TheVariants as word
use Rattle.prefsql_lexer.specs.declared.token.Symbol.TheVariants as symbol
use Rattle.token_forms.specs.Classes.{class, name_class, number_class, chars_class, symbol_class}
use Rattle.token_forms.specs.Classes.{word_class}
use Rattle.sql_text.specs.Grammar.{Grammar, Rule, condition_rule, results_rule, query_rule}
use Rattle.sql_parser.specs.ReadGrammar.{condition, results_form, query_form}

-- with which classes each production that nests begins and goes on
abbrev pub rule_starts : (A : Type 0) → Rule A → List ℕ
rule_starts A condition_rule =
    word_class word.Not ∷ symbol_class symbol.LeftParen ∷ name_class ∷ chars_class
    ∷ symbol_class symbol.Plus ∷ symbol_class symbol.Minus ∷ number_class ∷ word_class word.Case
    ∷ word_class word.Exists ∷ []
rule_starts A results_rule = word_class word.When ∷ []
rule_starts A query_rule = word_class word.Select ∷ []

-- a sum goes on with a sign, or, where it ends with a column, with a dot
abbrev pub sum_continues : List ℕ
sum_continues = symbol_class symbol.Plus ∷ symbol_class symbol.Minus ∷ symbol_class symbol.Dot ∷ []

abbrev pub condition_continues : List ℕ
condition_continues = word_class word.Or ∷ word_class word.And ∷ sum_continues

abbrev pub rule_continues : (A : Type 0) → Rule A → List ℕ
rule_continues A condition_rule = condition_continues
rule_continues A results_rule = word_class word.When ∷ word_class word.Else ∷ sum_continues
rule_continues A query_rule =
    word_class word.Where ∷ symbol_class symbol.Comma ∷ word_class word.As ∷ name_class
    ∷ condition_continues

abbrev pub right_side : (A : Type 0) → Rule A → Grammar A
right_side A condition_rule = condition
right_side A results_rule = results_form
right_side A query_rule = query_form

-- what is read of these tokens, with productions inside one another at most n deep
abbrev pub outcome : ℕ → {A : Type 0} → Grammar A → List Token → Outcome Token A
outcome n f ts = read Token Rule class rule_starts rule_continues right_side n f ts

-- what is read of a production that nests
abbrev pub nested : ℕ → {A : Type 0} → Rule A → List Token → Outcome Token A
nested n {A} p ts = read_rule Token Rule class rule_starts rule_continues right_side n A p ts
