-- The classes by which a grammar tells tokens apart: the kind of a token, and of a symbol or a
-- reserved word which one it is.
use Rattle.std.specs.Prelude.{ℕ, ℤ, pos, List, []}
use Rattle.prefsql_lexer.specs.declared.token.Keyword.{Keyword}
use Rattle.prefsql_lexer.specs.declared.token.Keyword.TheVariants as word
use Rattle.prefsql_lexer.specs.declared.token.Symbol.{Symbol}
use Rattle.prefsql_lexer.specs.declared.token.Symbol.TheVariants as symbol
use Rattle.prefsql_lexer.specs.declared.token.TokenKind.{TokenKind}
use Rattle.prefsql_lexer.specs.declared.token.TokenKind.TheVariants as kind
use Rattle.prefsql_lexer.specs.declared.token.Token.{Token}
use Rattle.token_forms.specs.declared.class.TokenClass.{TokenClass}
use Rattle.token_forms.specs.declared.class.TokenClass.TheVariants as token_class

abbrev pub kind_class : TokenKind → TokenClass
kind_class (kind.Word w) = token_class.Word w
kind_class (kind.Name t) = token_class.Name
kind_class (kind.Number n) = token_class.Number
kind_class (kind.Chars t) = token_class.Text
kind_class (kind.Symbol s) = token_class.Symbol s

abbrev pub class_of : Token → TokenClass
class_of t = kind_class t.kind

-- ---- forms name a class by a number of its own

abbrev pub symbol_number : Symbol → ℕ
symbol_number symbol.LeftParen = 3
symbol_number symbol.RightParen = 4
symbol_number symbol.Comma = 5
symbol_number symbol.Dot = 6
symbol_number symbol.Semicolon = 7
symbol_number symbol.Equal = 8
symbol_number symbol.NotEqual = 9
symbol_number symbol.Less = 10
symbol_number symbol.LessEqual = 11
symbol_number symbol.Greater = 12
symbol_number symbol.GreaterEqual = 13
symbol_number symbol.Plus = 14
symbol_number symbol.Minus = 15
symbol_number symbol.Star = 16

abbrev pub word_number : Keyword → ℕ
word_number word.And = 17
word_number word.Around = 18
word_number word.As = 19
word_number word.Asc = 20
word_number word.Between = 21
word_number word.But = 22
word_number word.By = 23
word_number word.Cascade = 24
word_number word.Case = 25
word_number word.Desc = 26
word_number word.Distance = 27
word_number word.Distinct = 28
word_number word.Dual = 29
word_number word.Else = 30
word_number word.End = 31
word_number word.Exists = 32
word_number word.Explicit = 33
word_number word.From = 34
word_number word.Grouping = 35
word_number word.Highest = 36
word_number word.In = 37
word_number word.Is = 38
word_number word.Layered = 39
word_number word.Level = 40
word_number word.Lowest = 41
word_number word.Not = 42
word_number word.Null = 43
word_number word.Only = 44
word_number word.Or = 45
word_number word.Order = 46
word_number word.Others = 47
word_number word.Preferring = 48
word_number word.Regular = 49
word_number word.Rounds = 50
word_number word.Select = 51
word_number word.Then = 52
word_number word.Top = 53
word_number word.Trivial = 54
word_number word.When = 55
word_number word.Where = 56

abbrev pub number_of : TokenClass → ℕ
number_of token_class.Name = 0
number_of token_class.Number = 1
number_of token_class.Text = 2
number_of (token_class.Symbol s) = symbol_number s
number_of (token_class.Word w) = word_number w

abbrev pub class : Token → ℕ
class t = number_of (class_of t)

abbrev pub name_class : ℕ
name_class = number_of token_class.Name

abbrev pub number_class : ℕ
number_class = number_of token_class.Number

abbrev pub chars_class : ℕ
chars_class = number_of token_class.Text

abbrev pub symbol_class : Symbol → ℕ
symbol_class s = number_of (token_class.Symbol s)

abbrev pub word_class : Keyword → ℕ
word_class w = number_of (token_class.Word w)

-- ---- what else a token says

abbrev pub text_in : TokenKind → List ℕ
text_in (kind.Name text) = text
text_in (kind.Chars text) = text
text_in _ = []

abbrev pub number_in : TokenKind → ℤ
number_in (kind.Number n) = n
number_in _ = pos 0
