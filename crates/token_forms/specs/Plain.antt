-- What is read of tokens by a form in which nothing nests.
use Rattle.std.specs.Prelude.{ℕ, zero, List, []}
use Rattle.grammar_forms.specs.Reading.{Outcome, read}
use Rattle.prefsql_lexer.specs.declared.token.Token.{Token}
use Rattle.token_forms.specs.Classes.{class}
use Rattle.token_forms.specs.Forms.{GrammarOf}

-- there are no productions that nest
pub data NoRule : Type 0 → Type 1 where

abbrev pub no_classes : (A : Type 0) → NoRule A → List ℕ
no_classes A p = []

abbrev pub no_side : (A : Type 0) → NoRule A → GrammarOf NoRule A
no_side A p = elim p [ ]

abbrev pub plain : {A : Type 0} → GrammarOf NoRule A → List Token → Outcome Token A
plain f ts = read Token NoRule class no_classes no_classes no_side zero f ts
