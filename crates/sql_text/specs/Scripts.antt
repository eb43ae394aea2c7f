-- Which tokens are an SQL script. The limit of statements is this project's own.
use Rattle.std.specs.Prelude.{◌≤◌, ℕ, List, length}
use Rattle.grammar_forms.specs.Form as form
use Rattle.prefsql_lexer.specs.declared.token.Token.{Token}
use Rattle.token_forms.specs.Classes.{class}
use Rattle.sql_text.specs.declared.named.NamedStatement.{NamedStatement}
use Rattle.sql_text.specs.Grammar.{Grammar, Rule, script, production}

abbrev pub max_statements : ℕ
max_statements = 64

-- which tokens are a whole one of a form, with conditions, results and queries in parentheses and
-- CASE inside one another at most n deep
abbrev pub IsWhole : ℕ → {A : Type 0} → Grammar A → List Token → A → Type 0
IsWhole n f ts v = form.IsWhole Token Rule class production n f ts v

-- The tokens are a script with these statements: at most 64, however deep their parentheses are.
abbrev pub IsScript : List Token → List NamedStatement → Type 0
IsScript ts statements =
    (length statements ≤ max_statements) × ((n : ℕ) × IsWhole n script ts statements)
