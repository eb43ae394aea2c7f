-- Scripts of statements, their fronts, and the place and code of the first grammar fault, for any
-- form of a statement. These rules are this project's own.
use Rattle.std.specs.Prelude.{◌≡◌, ◌≤◌, ◌<◌, ℕ, ◌⊎◌, List, [], ◌∷◌, ◌++◌, length, take, drop}
use Rattle.std.specs.Prelude.{Option, Some, None}
use Rattle.grammar_forms.specs.Form as form
use Rattle.grammar_forms.specs.Form.{IsLongest, option, many}
use Rattle.prefsql_lexer.specs.Bounds.{NestWithin}
use Rattle.prefsql_lexer.specs.declared.fault.Spot.{Spot}
use Rattle.prefsql_lexer.specs.declared.token.Token.{Token}
use Rattle.prefsql_lexer.specs.declared.token.Keyword.TheVariants.{Select}
use Rattle.prefsql_lexer.specs.declared.token.Symbol.TheVariants.{Semicolon}
use Rattle.token_forms.specs.Classes.{class, word_class}
use Rattle.token_forms.specs.Forms.{GrammarOf, ◌⨟◌, ◌<⨟◌, ◌<$>◌, symbol_only}
use Rattle.token_forms.specs.Place.{place_of}

abbrev pub max_statements : ℕ
max_statements = 64

-- statement ";"
abbrev pub ended_by : {Rule : Type 0 → Type 1} {Tree : Type 0} → GrammarOf Rule Tree
    → GrammarOf Rule Tree
ended_by statement = statement <⨟ symbol_only Semicolon

abbrev pub with_last : {Tree : Type 0} → List Tree × Option Tree → List Tree
with_last (trees, None) = trees
with_last (trees, Some last) = trees ++ last ∷ []

-- script := { statement ";" } [ statement ]
abbrev pub script_of : {Rule : Type 0 → Type 1} {Tree : Type 0} → GrammarOf Rule Tree
    → GrammarOf Rule (List Tree)
script_of statement = with_last <$> many (ended_by statement) ⨟ option statement

-- the right sides of the productions that nest
module _ {Rule : Type 0 → Type 1} (production : (A : Type 0) → Rule A → GrammarOf Rule A) where
  -- which tokens are a whole one of a form, with productions inside one another at most n deep
  abbrev pub IsWhole : ℕ → {A : Type 0} → GrammarOf Rule A → List Token → A → Type 0
  IsWhole n f ts v = form.IsWhole Token Rule class production n f ts v

  -- which tokens are a front of a form, so deep
  abbrev pub IsFront : ℕ → {A : Type 0} → GrammarOf Rule A → List Token → Type 0
  IsFront n f ts = form.IsFront Token Rule class production n f ts

  module _ {Tree : Type 0} (statement : GrammarOf Rule Tree) where
    -- The tokens are a script with these trees: at most 64 statements, however deep their
    -- parentheses are.
    abbrev pub IsScript : List Token → List Tree → Type 0
    IsScript ts trees = (length trees ≤ max_statements)
        × ((n : ℕ) × IsWhole n (script_of statement) ts trees)

    -- as many statements as a script may have, each with its semicolon
    abbrev pub IsFull : List Token → Type 0
    IsFull ts = (n : ℕ) × (trees : List Tree) × (length trees ≡ max_statements)
        × IsWhole n (many (ended_by statement)) ts trees

    -- The code of a fault between the longest front and the tokens after it: E202 at the end, E203
    -- where the next token would begin a statement too many, else E201.
    abbrev pub IsCode : List Token → List Token → ℕ → Type 0
    IsCode front [] code = code ≡ 202
    IsCode front (t ∷ ts) code =
        (IsFull front × (class t ≡ word_class Select) × (code ≡ 203))
        ⊎ ((IsFull front → class t ≡ word_class Select → ⊥) × (code ≡ 201))

    -- A front of a script keeps the limits of number and nesting, where a statement counts from its
    -- first token on and a block from its opening parenthesis on. It is statements, each with its
    -- semicolon, and then nothing or a front of one more: of one with a semicolon, or of the last
    -- one.
    abbrev pub IsScriptFront : ℕ → List Token → Type 0
    IsScriptFront max_nesting ts =
        NestWithin max_nesting 0 ts
        × ((n : ℕ) × (xs ys : List Token) × (trees : List Tree) × (ts ≡ xs ++ ys)
        × IsWhole n (many (ended_by statement)) xs trees
        × (((ys ≡ []) × (length trees ≤ max_statements))
        ⊎ ((length trees < max_statements)
        × (IsFront n (ended_by statement) ys ⊎ IsFront n (option statement) ys))))

    -- The tokens are no script, and the fault stands at the end of the longest front with which
    -- they begin.
    abbrev pub IsFault : ℕ → List Token → ℕ → Spot → Type 0
    IsFault max_nesting ts end spot =
        ((trees : List Tree) → IsScript ts trees → ⊥)
        × ((n : ℕ) × IsLongest (IsScriptFront max_nesting) ts n
        × (spot.at ≡ place_of (drop n ts) end) × IsCode (take n ts) (drop n ts) spot.code)
