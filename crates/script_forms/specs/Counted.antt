-- Scripts as they are read, with a count of their statements.
use Rattle.std.specs.Prelude.{ℕ, zero, suc, Bool, true, false, List, [], ◌∷◌, ◌++◌, Option, Some}
use Rattle.std.specs.Prelude.{None}
use Rattle.grammar_forms.specs.Form.{nothing, option}
use Rattle.grammar_forms.specs.Reading.{Outcome, with_value}
use Rattle.prefsql_lexer.specs.declared.token.Token.{Token}
use Rattle.prefsql_lexer.specs.declared.token.Symbol.TheVariants.{Semicolon}
use Rattle.token_forms.specs.Forms.{GrammarOf, ◌⨟◌, ◌⨟>◌, ◌<$>◌, symbol_only}

-- the trees, and whether no more statements may follow
abbrev pub Counted : Type 0 → Type 0
Counted Tree = List Tree × Bool

abbrev pub counted_trees : {Tree : Type 0} → Option (Tree × Option (Counted Tree)) → Counted Tree
counted_trees None = ([], false)
counted_trees (Some (q, None)) = (q ∷ [], false)
counted_trees (Some (q, Some more)) = (q ∷ more.0, more.1)

-- { statement ";" } [ statement ], with at most this many statements
unfoldable pub counted : {Rule : Type 0 → Type 1} {Tree : Type 0} → GrammarOf Rule Tree → ℕ
    → GrammarOf Rule (Counted Tree)
counted statement zero = nothing ([], true)
counted statement (suc n) =
    counted_trees <$> option (statement ⨟ option (symbol_only Semicolon ⨟> counted statement n))

-- with these trees before those that are read
abbrev pub with_trees : {Tree : Type 0} → List Tree → Outcome Token (Counted Tree)
    → Outcome Token (Counted Tree)
with_trees found o = with_value (λ p. (found ++ p.0, p.1)) o
