-- Each class has a number of its own.
use Rattle.std.proofs.Common.{◌≡◌, List, [], ◌∷◌, get_or, refl, sym, ap, ◌∙◌}
use Rattle.prefsql_lexer.specs.declared.token.Keyword.TheVariants as word
use Rattle.prefsql_lexer.specs.declared.token.Symbol.TheVariants as symbol
use Rattle.token_forms.specs.declared.class.TokenClass.{TokenClass}
use Rattle.token_forms.specs.declared.class.TokenClass.TheVariants.{Name, Number, Text, Symbol, Word}
use Rattle.token_forms.specs.Classes.{number_of}

-- the classes in the order of their numbers
abbrev classes : List TokenClass
classes =
    Name ∷ Number ∷ Text
    ∷ Symbol symbol.LeftParen ∷ Symbol symbol.RightParen ∷ Symbol symbol.Comma ∷ Symbol symbol.Dot ∷ Symbol symbol.Semicolon
    ∷ Symbol symbol.Equal ∷ Symbol symbol.NotEqual ∷ Symbol symbol.Less ∷ Symbol symbol.LessEqual ∷ Symbol symbol.Greater
    ∷ Symbol symbol.GreaterEqual ∷ Symbol symbol.Plus ∷ Symbol symbol.Minus ∷ Symbol symbol.Star ∷ Word word.And
    ∷ Word word.Around ∷ Word word.As ∷ Word word.Asc ∷ Word word.Between ∷ Word word.But ∷ Word word.By ∷ Word word.Cascade
    ∷ Word word.Case ∷ Word word.Desc ∷ Word word.Distance ∷ Word word.Distinct ∷ Word word.Dual ∷ Word word.Else ∷ Word word.End
    ∷ Word word.Exists ∷ Word word.Explicit ∷ Word word.From ∷ Word word.Grouping ∷ Word word.Highest ∷ Word word.In
    ∷ Word word.Is ∷ Word word.Layered ∷ Word word.Level ∷ Word word.Lowest ∷ Word word.Not ∷ Word word.Null ∷ Word word.Only
    ∷ Word word.Or ∷ Word word.Order ∷ Word word.Others ∷ Word word.Preferring ∷ Word word.Regular ∷ Word word.Rounds
    ∷ Word word.Select ∷ Word word.Then ∷ Word word.Top ∷ Word word.Trivial ∷ Word word.When ∷ Word word.Where ∷ []

class_at : (c : TokenClass) → get_or classes (number_of c) Name ≡ c
class_at Name = refl
class_at Number = refl
class_at Text = refl
class_at (Symbol symbol.LeftParen) = refl
class_at (Symbol symbol.RightParen) = refl
class_at (Symbol symbol.Comma) = refl
class_at (Symbol symbol.Dot) = refl
class_at (Symbol symbol.Semicolon) = refl
class_at (Symbol symbol.Equal) = refl
class_at (Symbol symbol.NotEqual) = refl
class_at (Symbol symbol.Less) = refl
class_at (Symbol symbol.LessEqual) = refl
class_at (Symbol symbol.Greater) = refl
class_at (Symbol symbol.GreaterEqual) = refl
class_at (Symbol symbol.Plus) = refl
class_at (Symbol symbol.Minus) = refl
class_at (Symbol symbol.Star) = refl
class_at (Word word.And) = refl
class_at (Word word.Around) = refl
class_at (Word word.As) = refl
class_at (Word word.Asc) = refl
class_at (Word word.Between) = refl
class_at (Word word.But) = refl
class_at (Word word.By) = refl
class_at (Word word.Cascade) = refl
class_at (Word word.Case) = refl
class_at (Word word.Desc) = refl
class_at (Word word.Distance) = refl
class_at (Word word.Distinct) = refl
class_at (Word word.Dual) = refl
class_at (Word word.Else) = refl
class_at (Word word.End) = refl
class_at (Word word.Exists) = refl
class_at (Word word.Explicit) = refl
class_at (Word word.From) = refl
class_at (Word word.Grouping) = refl
class_at (Word word.Highest) = refl
class_at (Word word.In) = refl
class_at (Word word.Is) = refl
class_at (Word word.Layered) = refl
class_at (Word word.Level) = refl
class_at (Word word.Lowest) = refl
class_at (Word word.Not) = refl
class_at (Word word.Null) = refl
class_at (Word word.Only) = refl
class_at (Word word.Or) = refl
class_at (Word word.Order) = refl
class_at (Word word.Others) = refl
class_at (Word word.Preferring) = refl
class_at (Word word.Regular) = refl
class_at (Word word.Rounds) = refl
class_at (Word word.Select) = refl
class_at (Word word.Then) = refl
class_at (Word word.Top) = refl
class_at (Word word.Trivial) = refl
class_at (Word word.When) = refl
class_at (Word word.Where) = refl

pub same_number : (c d : TokenClass) → number_of c ≡ number_of d → c ≡ d
same_number c d e = sym (class_at c) ∙ ap (λ n. get_or classes n Name) e ∙ class_at d
