-- Words on bytes, and the limits of a token. This project's own grammar of tokens, over the names
-- and literals of SQL-92 (ISO/IEC 9075:1992).
use Rattle.std.specs.Prelude.{ℕ, ◌+◌, ◌-◌, ◌*◌, Bool, ◌&&◌, ◌||◌, if◌then◌else◌, ◌==◌, nat_lt}
use Rattle.std.specs.Prelude.{nat_le, List, [], ◌∷◌, length, slice_index, Option, Some, None}
use Rattle.std.specs.Char.{is_ascii_alphanumeric}
use Rattle.std.specs.Str.{chars}
use Rattle.prefsql_lexer.specs.declared.token.TokenKind.{TokenKind}
use Rattle.prefsql_lexer.specs.declared.token.TokenKind.TheVariants.{Name, Number}

-- a space, a tab, a line feed or a carriage return
abbrev pub is_blank : ℕ → Bool
is_blank b = b == 32 || (b == 9 || (b == 10 || b == 13))

-- a letter, a digit or `_`
abbrev pub is_word_byte : ℕ → Bool
is_word_byte b = is_ascii_alphanumeric b || b == 95

-- whether a blank or a comment stands at the front
abbrev pub begins_gap : List ℕ → Bool
begins_gap text = is_blank (slice_index text 0)
    || (slice_index text 0 == 45 && slice_index text 1 == 45)

-- the number that the digits write, after those whose number is given
abbrev pub decimal : ℕ → List ℕ → ℕ
decimal n [] = n
decimal n (d ∷ digits) = decimal (n * 10 + (d - 48)) digits

-- the fault of a token by itself, of this kind and length: a number that is too long, an identifier
-- that is empty or too long
abbrev pub size_fault : TokenKind → ℕ → Option ℕ
size_fault (Number value) len = if nat_lt 18 len then Some 103 else None
size_fault (Name name) len = if nat_le 1 (length (chars name)) && nat_le (length (chars name)) 64
    then None else Some 105
size_fault _ len = None

-- the fault where no token can be cut, by the first byte: a quote, or another character
abbrev pub missing : ℕ → ℕ
missing b = if b == 34 || b == 39 then 102 else 101
