-- The tokens of a text keep the bounds that a parser takes for granted.
use Rattle.std.proofs.Common.{◌≡◌, ℕ, ◌+◌, ◌-◌, ◌*◌, ◌^◌, ◌<◌, ◌≤◌, Bool, true, false, ◌&&◌, cond, List, [], ◌∷◌, take, drop, length, All, Option, Some, None, Result, Ok, Err, inl, inr, refl, sym, subst, pos, arith}
use Rattle.std.specs.Prelude.{nat_le, nat_lt, ℤ, ◌≤ℤ◌, ◌<ℤ◌, IfOk}
use Rattle.std.specs.Char.{is_ascii_digit}
use Rattle.std.specs.List.{list_all}
use Rattle.std.specs.Str.{chars}
use Rattle.std.proofs.lemmas.Bool.{and_parts}
use Rattle.std.proofs.lemmas.Bool.Decides.{nat_tests}
use Rattle.std.proofs.lemmas.Int.{ints}
use Rattle.std.proofs.lemmas.List.{length-take-le, length-drop}
use Rattle.std.proofs.lemmas.List.Elements.{All-nil, All-cons}
use Rattle.prefsql_lexer.specs.declared.token.Symbol.{Symbol}
use Rattle.prefsql_lexer.specs.declared.token.Symbol.TheVariants as symbol
use Rattle.prefsql_lexer.specs.declared.token.Token.{Token}
use Rattle.prefsql_lexer.specs.declared.token.TokenKind.{TokenKind}
use Rattle.prefsql_lexer.specs.declared.token.TokenKind.TheVariants.{Word, Name, Number, Chars, Symbol as SymbolKind}
use Rattle.prefsql_lexer.specs.declared.fault.LexFault.{LexFault}
use Rattle.prefsql_lexer.specs.Words.{decimal, size_fault}
use Rattle.prefsql_lexer.specs.Given.{Lexes}
use Rattle.prefsql_lexer.specs.Tokens.{symbol_bytes, IsLexeme, IsTokens, Lexed, raises, lowers, depth_after, depth_fault, either_fault}
use Rattle.prefsql_lexer.specs.Bounds.{IsNameShort, IsNumberSmall, NestWithin, SpansAscend, AreTokensOf}
use Rattle.prefsql_lexer.proofs.Digits.{digit_high, tens, tens_small}

-- no part of a fault that is not there
neither : (a b : Option ℕ) → either_fault a b ≡ None → (a ≡ None) × (b ≡ None)
neither None b is = (refl, is)
neither (Some code) b is = absurd (cc)

-- ---- names and numbers

kept_name : (n : ℕ) → cond {A = Option ℕ} (nat_le 1 n && nat_le n 64) None (Some 105) ≡ None → (1 ≤ n) × (n ≤ 64)
kept_name n is = choose (nat_le 1 n && nat_le n 64) refl is
  where
    choose : (t : Bool) → (nat_le 1 n && nat_le n 64) ≡ t → cond {A = Option ℕ} t None (Some 105) ≡ None → (1 ≤ n) × (n ≤ 64)
    choose true e r =
        let parts = and_parts (nat_le 1 n) (nat_le n 64) e in
        let low = parts.0 in
        let high = parts.1 in
        (grind (arith, nat_tests), grind (arith, nat_tests))
    choose false e r = absurd (cc)

name_short : (kind : TokenKind) (len : ℕ) → size_fault kind len ≡ None → IsNameShort kind
name_short (Word k) len is = tt
name_short (Name name) len is = let kept = kept_name (length (chars name)) is in record { not_empty = kept.0; short = kept.1 }
name_short (Number n) len is = tt
name_short (Chars value) len is = tt
name_short (SymbolKind s) len is = tt

few_digits : (len : ℕ) → cond {A = Option ℕ} (nat_lt 18 len) (Some 103) None ≡ None → len ≤ 18
few_digits len is = choose (nat_lt 18 len) refl is
  where
    choose : (t : Bool) → nat_lt 18 len ≡ t → cond {A = Option ℕ} t (Some 103) None ≡ None → len ≤ 18
    choose true e r = absurd (cc)
    choose false e r = grind (arith, nat_tests)

decimal_below : (i n : ℕ) (digits : List ℕ) → list_all is_ascii_digit digits ≡ true → n < 10 ^ i → decimal n digits < 10 ^ (i + length digits)
decimal_below i n [] all below = let same : i + 0 ≡ i = omega arith in rw same below
decimal_below i n (d ∷ digits) all below =
    let parts = and_parts (is_ascii_digit d) (list_all is_ascii_digit digits) all in
    let high = digit_high d parts.0 in
    let more = decimal_below (i + 1) (n * 10 + (d - 48)) digits parts.1 (tens i n (d - 48) below (omega (arith, high))) in
    let same : i + 1 + length digits ≡ i + length (d ∷ digits) = omega arith in
    let P : ℕ → Type 0 = λ e. decimal (n * 10 + (d - 48)) digits < 10 ^ e in
    subst P same more

small_number : (bytes : List ℕ) (len : ℕ) → list_all is_ascii_digit bytes ≡ true → length bytes ≡ len → len ≤ 18 → decimal 0 bytes < 10 ^ 18
small_number bytes len all same few =
    let one : 0 < 10 ^ 0 = omega arith in
    let below = decimal_below 0 0 bytes all one in
    let small = tens_small (0 + length bytes) (omega (arith, same)) in
    omega (arith, below, small)

number_small : (bytes : List ℕ) (kind : TokenKind) (len : ℕ) → IsLexeme bytes kind → length bytes ≡ len → size_fault kind len ≡ None → IsNumberSmall kind
number_small bytes (Word k) len is same fine = tt
number_small bytes (Name name) len is same fine = tt
number_small bytes (Number n) len is same fine =
    let below = small_number bytes len is.1 same (few_digits len fine) in
    let P : ℤ → Type 0 = λ n. (pos 0 ≤ℤ n) × (n <ℤ pos (10 ^ 18)) in
    subst P (sym is.2) (omega (arith, ints), omega (arith, ints, below))
number_small bytes (Chars value) len is same fine = tt
number_small bytes (SymbolKind s) len is same fine = tt

-- ---- depth

depth_kept : (limit depth : ℕ) (kind : TokenKind) → depth ≤ limit → depth_fault limit depth kind ≡ None → depth_after depth kind ≤ limit
depth_kept limit depth kind within fine = choose (raises kind) (lowers kind) fine
  where
    open_kept : (t : Bool) → nat_le limit depth ≡ t → cond {A = Option ℕ} (true && t) (Some 104) None ≡ None → depth + 1 ≤ limit
    open_kept true e r = absurd (cc)
    open_kept false e r = grind (arith, nat_tests)

    choose : (up down : Bool) → cond {A = Option ℕ} (up && nat_le limit depth) (Some 104) None ≡ None → cond up (depth + 1) (cond down (depth - 1) depth) ≤ limit
    choose true down r = open_kept (nat_le limit depth) refl r
    choose false true r = omega (arith, within)
    choose false false r = within

-- ---- spans

symbol_some : (s : Symbol) → 0 < length (symbol_bytes s)
symbol_some symbol.LeftParen = omega arith
symbol_some _ = omega arith

pub lexeme_some : (bytes : List ℕ) (kind : TokenKind) → IsLexeme bytes kind → 0 < length bytes
lexeme_some (b ∷ bytes) kind is = omega arith
lexeme_some [] (Word k) is = absurd (let e = is.0.letter in cc)
lexeme_some [] (Name name) (inl is) = absurd (let e = is.0.letter in cc)
lexeme_some [] (Name name) (inr is) = absurd (cc)
lexeme_some [] (Number n) is = is.0
lexeme_some [] (Chars value) is = absurd (cc)
lexeme_some [] (SymbolKind s) is = let P : List ℕ → Type 0 = λ t. 0 < length t in subst P (sym is) (symbol_some s)

-- ---- the whole text

record Bounded (limit depth at end : ℕ) (tokens : List Token) : Type 0 where
  names : All (λ token. IsNameShort token.kind) tokens
  numbers : All (λ token. IsNumberSmall token.kind) tokens
  depths : NestWithin limit depth tokens
  spans : SpansAscend at end tokens

bounded : (limit depth at end : ℕ) (text : List ℕ) (tokens : List Token) → depth ≤ limit → at + length text ≡ end → Lexed limit depth at text tokens None →
    Bounded limit depth at end tokens
bounded limit depth at end text [] within up_to lexed = record { names = All-nil _; numbers = All-nil _; depths = tt; spans = omega (arith, up_to) }
bounded limit depth at end text (token ∷ tokens) within up_to lexed =
    let gap = lexed.0 in
    let len = lexed.1 in
    let after = drop gap text in
    let is = lexed.5 in
    let long : length (take len after) ≡ len = length-take-le len after is.within in
    let some = lexeme_some (take len after) token.kind is.lexeme in
    let fine = neither (size_fault token.kind len) (depth_fault limit depth token.kind) lexed.6 in
    let kept = depth_kept limit depth token.kind within fine.1 in
    let rest_long : token.end + length (drop len after) ≡ end =
    omega (arith, lexed.2.within, is.within, lexed.3, lexed.4, up_to, length-drop gap text, length-drop len after) in
    let rest = bounded limit (depth_after depth token.kind) token.end end (drop len after) tokens kept rest_long lexed.7 in
    let N : Token → Type 0 = λ token. IsNameShort token.kind in
    let M : Token → Type 0 = λ token. IsNumberSmall token.kind in
    record {
      names = All-cons N token tokens (name_short token.kind len fine.0) rest.names;
      numbers = All-cons M token tokens (number_small (take len after) token.kind len is.lexeme long fine.0) rest.numbers;
      depths = (kept, rest.depths);
      spans = (omega (arith, lexed.3), omega (arith, lexed.4, long, some), rest.spans);
    }

tokens_bounded : (limit : ℕ) (text : List ℕ) (tokens : List Token) → IsTokens limit text tokens → AreTokensOf limit (length text) tokens
tokens_bounded limit text tokens is =
    let all = bounded limit 0 0 (length text) text tokens (omega arith) (omega arith) is.1 in
    record { names = all.names; numbers = all.numbers; depth = all.depths; spans = all.spans }

pub lexes_bounded : (limit : ℕ) (text : List ℕ) (result : Result (List Token) LexFault) → Lexes limit text result → IfOk result (AreTokensOf limit (length text))
lexes_bounded limit text (Ok tokens) is = tokens_bounded limit text tokens is
lexes_bounded limit text (Err error) is = tt
