-- The depth of tokens, by their classes.
use Rattle.std.proofs.Common.{◌≡◌, ◌≤◌, ℕ, ◌||◌, Bool, List, [], ◌∷◌, ◌++◌, eqb, refl, subst}
use Rattle.grammar_forms.proofs.Nesting.{turn, Stays}
use Rattle.prefsql_lexer.specs.Bounds.{NestWithin}
use Rattle.prefsql_lexer.specs.Tokens.{depth_after}
use Rattle.prefsql_lexer.specs.declared.token.Token.{Token}
use Rattle.prefsql_lexer.specs.declared.token.TokenKind.{TokenKind}
use Rattle.prefsql_lexer.specs.declared.token.TokenKind.TheVariants as kind
use Rattle.prefsql_lexer.specs.declared.token.Keyword.{Keyword}
use Rattle.prefsql_lexer.specs.declared.token.Keyword.TheVariants as word
use Rattle.prefsql_lexer.specs.declared.token.Symbol.{Symbol}
use Rattle.prefsql_lexer.specs.declared.token.Symbol.TheVariants as symbol
use Rattle.token_forms.specs.Classes.{class, kind_class, number_of, word_class, symbol_class}

-- the classes of ( and CASE, and of ) and END
abbrev pub rises : ℕ → Bool
rises c = eqb c (symbol_class symbol.LeftParen) || eqb c (word_class word.Case)

abbrev pub falls : ℕ → Bool
falls c = eqb c (symbol_class symbol.RightParen) || eqb c (word_class word.End)

pub NestWithin-first : (limit d : ℕ) (xs ys : List Token) → NestWithin limit d (xs ++ ys) → NestWithin limit d xs
NestWithin-first limit d [] ys s = tt
NestWithin-first limit d (t ∷ xs) ys s = (s.0, NestWithin-first limit (depth_after d t.kind) xs ys s.1)

module _ (Rule : Type 0 → Type 1) where
  abbrev pub turns : ℕ → ℕ → ℕ
  turns c d = turn Token Rule class rises falls c d

  abbrev pub StaysWithin : ℕ → ℕ → List Token → Type 0
  StaysWithin limit d ts = Stays Token Rule class rises falls limit d ts

  word_turn : (d : ℕ) (w : Keyword) → depth_after d (kind.Word w) ≡ turns (word_class w) d
  word_turn d word.And = refl
  word_turn d word.Around = refl
  word_turn d word.As = refl
  word_turn d word.Asc = refl
  word_turn d word.Between = refl
  word_turn d word.But = refl
  word_turn d word.By = refl
  word_turn d word.Cascade = refl
  word_turn d word.Case = refl
  word_turn d word.Desc = refl
  word_turn d word.Distance = refl
  word_turn d word.Distinct = refl
  word_turn d word.Dual = refl
  word_turn d word.Else = refl
  word_turn d word.End = refl
  word_turn d word.Exists = refl
  word_turn d word.Explicit = refl
  word_turn d word.From = refl
  word_turn d word.Grouping = refl
  word_turn d word.Highest = refl
  word_turn d word.In = refl
  word_turn d word.Is = refl
  word_turn d word.Layered = refl
  word_turn d word.Level = refl
  word_turn d word.Lowest = refl
  word_turn d word.Not = refl
  word_turn d word.Null = refl
  word_turn d word.Only = refl
  word_turn d word.Or = refl
  word_turn d word.Order = refl
  word_turn d word.Others = refl
  word_turn d word.Preferring = refl
  word_turn d word.Regular = refl
  word_turn d word.Rounds = refl
  word_turn d word.Select = refl
  word_turn d word.Then = refl
  word_turn d word.Top = refl
  word_turn d word.Trivial = refl
  word_turn d word.When = refl
  word_turn d word.Where = refl

  symbol_turn : (d : ℕ) (s : Symbol) → depth_after d (kind.Symbol s) ≡ turns (symbol_class s) d
  symbol_turn d symbol.LeftParen = refl
  symbol_turn d symbol.RightParen = refl
  symbol_turn d symbol.Comma = refl
  symbol_turn d symbol.Dot = refl
  symbol_turn d symbol.Semicolon = refl
  symbol_turn d symbol.Equal = refl
  symbol_turn d symbol.NotEqual = refl
  symbol_turn d symbol.Less = refl
  symbol_turn d symbol.LessEqual = refl
  symbol_turn d symbol.Greater = refl
  symbol_turn d symbol.GreaterEqual = refl
  symbol_turn d symbol.Plus = refl
  symbol_turn d symbol.Minus = refl
  symbol_turn d symbol.Star = refl

  kind_turn : (d : ℕ) (k : TokenKind) → depth_after d k ≡ turns (number_of (kind_class k)) d
  kind_turn d (kind.Word w) = word_turn d w
  kind_turn d (kind.Name t) = refl
  kind_turn d (kind.Number n) = refl
  kind_turn d (kind.Chars t) = refl
  kind_turn d (kind.Symbol s) = symbol_turn d s

  pub NestWithin-stays : (limit d : ℕ) (ts : List Token) → NestWithin limit d ts → StaysWithin limit d ts
  NestWithin-stays limit d [] s = tt
  NestWithin-stays limit d (t ∷ ts) s =
      let e = kind_turn d t.kind in
      (subst (λ z. z ≤ limit) e s.0, NestWithin-stays limit (turns (class t) d) ts (subst (λ z. NestWithin limit z ts) e s.1))
