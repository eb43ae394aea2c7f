-- The words in which the grammars of scripts are written, for any names of productions: tokens by
-- class, sequences, choices and lists.
use Rattle.std.specs.Prelude.{ℕ, Bool, true, false, List, [], ◌∷◌, Option, Some, None, ℤ}
use Rattle.grammar_forms.specs.Form.{Form, token, both, either, many, map}
use Rattle.prefsql_lexer.specs.declared.token.Keyword.{Keyword}
use Rattle.prefsql_lexer.specs.declared.token.Symbol.{Symbol}
use Rattle.prefsql_lexer.specs.declared.token.Symbol.TheVariants as symbol
use Rattle.prefsql_lexer.specs.declared.token.Token.{Token}
use Rattle.token_forms.specs.Classes.{symbol_class, word_class, name_class, number_class}
use Rattle.token_forms.specs.Classes.{chars_class, text_in, number_in}

-- the grammars whose productions have these names
abbrev pub GrammarOf : (Type 0 → Type 1) → Type 0 → Type 1
GrammarOf Rule A = Form Token Rule A

infixr 12 ◌⨟◌
infixr 12 ◌⨟>◌
infixr 12 ◌<⨟◌
infixr 11 ◌<$>◌
infixr 10 ◌∣◌
-- one after the other, with both values
abbrev pub ◌⨟◌ : {Rule : Type 0 → Type 1} {A B : Type 0} → GrammarOf Rule A → GrammarOf Rule B
    → GrammarOf Rule (A × B)
f ⨟ g = both f g

-- a choice
abbrev pub ◌∣◌ : {Rule : Type 0 → Type 1} {A : Type 0} → GrammarOf Rule A → GrammarOf Rule A
    → GrammarOf Rule A
f ∣ g = either f g

-- the same tokens with another value
abbrev pub ◌<$>◌ : {Rule : Type 0 → Type 1} {A B : Type 0} → (A → B) → GrammarOf Rule A
    → GrammarOf Rule B
h <$> f = map h f

-- one after the other, with the value of the second or of the first
abbrev pub ◌⨟>◌ : {Rule : Type 0 → Type 1} {A B : Type 0} → GrammarOf Rule A → GrammarOf Rule B
    → GrammarOf Rule B
f ⨟> g = (λ p. p.1) <$> f ⨟ g

abbrev pub ◌<⨟◌ : {Rule : Type 0 → Type 1} {A B : Type 0} → GrammarOf Rule A → GrammarOf Rule B
    → GrammarOf Rule A
f <⨟ g = (λ p. p.0) <$> f ⨟ g

-- ---- tokens, with their places

abbrev pub symbol_at : {Rule : Type 0 → Type 1} → Symbol → GrammarOf Rule ℕ
symbol_at s = token (symbol_class s) (λ t. t.start)

abbrev pub word_at : {Rule : Type 0 → Type 1} → Keyword → GrammarOf Rule ℕ
word_at w = token (word_class w) (λ t. t.start)

-- a token that says nothing more
abbrev pub symbol_only : {Rule : Type 0 → Type 1} → Symbol → GrammarOf Rule (Unit {0})
symbol_only s = token (symbol_class s) (λ t. tt)

abbrev pub word_only : {Rule : Type 0 → Type 1} → Keyword → GrammarOf Rule (Unit {0})
word_only w = token (word_class w) (λ t. tt)

-- a text with its place
abbrev pub Named : Type 0
Named = List ℕ × ℕ

-- an identifier that is no reserved word
abbrev pub name : {Rule : Type 0 → Type 1} → GrammarOf Rule Named
name = token name_class (λ t. (text_in t.kind, t.start))

abbrev pub number : {Rule : Type 0 → Type 1} → GrammarOf Rule (ℤ × ℕ)
number = token number_class (λ t. (number_in t.kind, t.start))

abbrev pub chars : {Rule : Type 0 → Type 1} → GrammarOf Rule Named
chars = token chars_class (λ t. (text_in t.kind, t.start))

-- ---- lists

-- f { separator f }
abbrev pub separated : {Rule : Type 0 → Type 1} {A : Type 0} → GrammarOf Rule (Unit {0})
    → GrammarOf Rule A → GrammarOf Rule (List A)
separated s f = (λ p. p.0 ∷ p.1) <$> f ⨟ many (s ⨟> f)

abbrev pub comma : {Rule : Type 0 → Type 1} → GrammarOf Rule (Unit {0})
comma = symbol_only symbol.Comma

-- "(" f ")"
abbrev pub in_parens : {Rule : Type 0 → Type 1} {A : Type 0} → GrammarOf Rule A → GrammarOf Rule A
in_parens f = symbol_only symbol.LeftParen ⨟> f <⨟ symbol_only symbol.RightParen

-- whether it is written
abbrev pub present : {A : Type 0} → Option A → Bool
present None = false
present (Some x) = true

-- what is written, or the empty list
abbrev pub or_none : {A : Type 0} → Option (List A) → List A
or_none None = []
or_none (Some xs) = xs

-- A chain of one part is that part, a longer one is a node.
abbrev pub chain : {A : Type 0} → (List A → A) → List A → A
chain node [] = node []
chain node (x ∷ []) = x
chain node (x ∷ y ∷ more) = node (x ∷ y ∷ more)

abbrev pub text_of : Option Named → Option (List ℕ)
text_of None = None
text_of (Some n) = Some n.0
