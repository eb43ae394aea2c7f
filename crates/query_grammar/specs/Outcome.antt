-- What is read of tokens: which production nests in which, and with which tokens each begins and
-- goes on.
use Rattle.std.specs.Prelude.{ℕ, List, [], ◌∷◌, true, false}
use Rattle.grammar_forms.specs.Reading.{Outcome, read, read_rule}
use Rattle.prefsql_lexer.specs.declared.token.Token.{Token}
use Rattle.prefsql_lexer.specs.declared.token.Keyword.TheVariants as word
use Rattle.prefsql_lexer.specs.declared.token.Symbol.TheVariants as symbol
use Rattle.token_forms.specs.Classes.{class, name_class, number_class, chars_class, symbol_class}
use Rattle.token_forms.specs.Classes.{word_class}
use Rattle.query_grammar.specs.Rules.{Grammar, Rule, condition_rule, preference_rule}
use Rattle.query_grammar.specs.ReadConditions.{condition}
use Rattle.query_grammar.specs.ReadPreferences.{preference}

abbrev pub plain_starts : List ℕ
plain_starts = word_class word.Not ∷ symbol_class symbol.LeftParen ∷ name_class ∷ chars_class
    ∷ symbol_class symbol.Plus ∷ symbol_class symbol.Minus ∷ number_class ∷ []

-- with which classes a production begins, and with which a whole one goes on
abbrev pub rule_starts : (A : Type 0) → Rule A → List ℕ
rule_starts A (condition_rule false) = plain_starts
rule_starts A (condition_rule true) = word_class word.Top ∷ word_class word.Level
    ∷ word_class word.Distance ∷ plain_starts
rule_starts A preference_rule = symbol_class symbol.LeftParen ∷ word_class word.Dual
    ∷ word_class word.Lowest ∷ word_class word.Highest ∷ name_class ∷ []

abbrev pub rule_continues : (A : Type 0) → Rule A → List ℕ
rule_continues A (condition_rule q) = word_class word.Or ∷ word_class word.And
    ∷ symbol_class symbol.Dot ∷ []
rule_continues A preference_rule = word_class word.Cascade ∷ word_class word.And
    ∷ word_class word.Else ∷ word_class word.Trivial ∷ word_class word.Regular ∷ []

abbrev pub right_side : (A : Type 0) → Rule A → Grammar A
right_side A (condition_rule q) = condition q
right_side A preference_rule = preference

-- what is read of these tokens, with productions inside one another at most n deep
abbrev pub outcome : ℕ → {A : Type 0} → Grammar A → List Token → Outcome Token A
outcome n f ts = read Token Rule class rule_starts rule_continues right_side n f ts

-- what is read of a production that nests
abbrev pub nested : ℕ → {A : Type 0} → Rule A → List Token → Outcome Token A
nested n {A} p ts = read_rule Token Rule class rule_starts rule_continues right_side n A p ts
