-- What a parser may take for granted of the tokens of a script. These limits are this project's
-- own.
use Rattle.std.specs.Prelude.{◌≤◌, ◌<◌, ℕ, List, [], ◌∷◌, All, ⊤}
use Rattle.prefsql_values.specs.Limits.{IsName, IsUnsignedShort}
use Rattle.prefsql_lexer.specs.declared.token.Token.{Token}
use Rattle.prefsql_lexer.specs.declared.token.TokenKind.{TokenKind}
use Rattle.prefsql_lexer.specs.declared.token.TokenKind.TheVariants.{Name, Number}
use Rattle.prefsql_lexer.specs.Tokens.{depth_after}

-- a name has 1 to 64 characters
abbrev pub IsNameShort : TokenKind → Type 0
IsNameShort (Name name) = IsName name
IsNameShort _ = ⊤

-- a number is one that 18 digits write
abbrev pub IsNumberSmall : TokenKind → Type 0
IsNumberSmall (Number n) = IsUnsignedShort n
IsNumberSmall _ = ⊤

-- after each token the depth is within the limit, where it is this before the first
abbrev pub NestWithin : ℕ → ℕ → List Token → Type 0
NestWithin limit depth [] = ⊤
NestWithin limit depth (token ∷ tokens) = (depth_after depth token.kind ≤ limit)
    × NestWithin limit (depth_after depth token.kind) tokens

-- from the place `at` up to `end` the spans ascend, none is empty, and no two overlap
abbrev pub SpansAscend : ℕ → ℕ → List Token → Type 0
SpansAscend at end [] = at ≤ end
SpansAscend at end (token ∷ tokens) = (at ≤ token.start) × (token.start < token.end)
    × SpansAscend token.end end tokens

-- tokens as a script of `end` bytes may have them
pub record AreTokensOf (limit end : ℕ) (tokens : List Token) : Type 0 where
  pub names : All (λ token. IsNameShort token.kind) tokens
  pub numbers : All (λ token. IsNumberSmall token.kind) tokens
  pub depth : NestWithin limit 0 tokens
  pub spans : SpansAscend 0 end tokens
