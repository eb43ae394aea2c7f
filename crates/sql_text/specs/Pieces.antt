-- A text that is written token by token, each with its bytes, and with single spaces. The spelling
-- of each token is that of SQL-92 (ISO/IEC 9075:1992); that each identifier is delimited is this
-- project's own.
use Rattle.std.specs.Prelude.{ℕ, ◌+◌, List, [], ◌∷◌, length}
use Rattle.std.specs.List.{flat_map}
use Rattle.std.specs.Fmt.{signed_decimal}
use Rattle.prefsql_lexer.specs.declared.token.Token.{Token}
use Rattle.prefsql_lexer.specs.declared.token.TokenKind.{TokenKind}
use Rattle.prefsql_lexer.specs.declared.token.TokenKind.TheVariants.{Word, Name, Number, Chars}
use Rattle.prefsql_lexer.specs.declared.token.TokenKind.TheVariants.{Symbol as SymbolKind}
use Rattle.prefsql_lexer.specs.Tokens.{spelling, symbol_bytes, in_quotes}

-- a part of the text: one space, or a token
pub data Piece : Type 0 where
  space : Piece
  mark : TokenKind → Piece

abbrev pub token_bytes : TokenKind → List ℕ
token_bytes (Word word) = spelling word
token_bytes (Name name) = in_quotes 34 name
token_bytes (Number n) = signed_decimal n
token_bytes (Chars value) = in_quotes 39 value
token_bytes (SymbolKind symbol) = symbol_bytes symbol

abbrev pub piece_bytes : Piece → List ℕ
piece_bytes space = 32 ∷ []
piece_bytes (mark kind) = token_bytes kind

abbrev pub bytes_of : List Piece → List ℕ
bytes_of = flat_map piece_bytes

-- the tokens with their spans, where the first piece begins at this place
abbrev pub tokens_from : ℕ → List Piece → List Token
tokens_from at [] = []
tokens_from at (space ∷ pieces) = tokens_from (at + 1) pieces
tokens_from at (mark kind ∷ pieces) =
    let end = at + length (token_bytes kind) in
    record { kind = kind; start = at; end = end } ∷ tokens_from end pieces
