-- A text has a list of tokens or a first fault.
use Rattle.std.proofs.Common.{◌≡◌, ◌∙◌, ℕ, suc, zero, ◌+◌, ◌<◌, ◌≤◌, Bool, true, false, List, [], ◌∷◌, drop, length, get_or, Option, Some, None, inl, inr, ◌⊎◌, refl, sym, subst, arith}
use Rattle.std.specs.Str.{IsUtf8, is_utf8}
use Rattle.std.specs.Str.Lossy.{utf8_valid_len}
use Rattle.std.proofs.lemmas.List.{length-drop, length-take-le}
use Rattle.std.proofs.lemmas.Bool.{cases_lt, false≢true}
use Rattle.std.proofs.lemmas.Str.{IsUtf8-from_is_utf8, is_utf8-from_IsUtf8}
use Rattle.prefsql_lexer.specs.declared.fault.Spot.{Spot}
use Rattle.prefsql_lexer.specs.declared.token.Token.{Token}
use Rattle.prefsql_lexer.specs.declared.token.TokenKind.{TokenKind}
use Rattle.prefsql_lexer.specs.Cut.{Lexeme, gap_len, cut}
use Rattle.prefsql_lexer.specs.Words.{missing}
use Rattle.prefsql_lexer.specs.Tokens.{IsGap, Lexed, IsTokens, IsFirstFault, token_fault, depth_after}
use Rattle.prefsql_lexer.proofs.Gaps.{gap_is, gap_len-le}
use Rattle.prefsql_lexer.proofs.Cuts.{cut_cut, cut_none}
use Rattle.prefsql_lexer.proofs.Bounded.{lexeme_some}

-- how the text goes on
abbrev Answer : ℕ → ℕ → ℕ → List ℕ → Type 0
Answer limit depth at text = (tokens : List Token) × (end : Option Spot) × Lexed limit depth at text tokens end

ends : (limit depth at : ℕ) (text : List ℕ) → length text ≤ gap_len false text → Answer limit depth at text
ends limit depth at text all =
    let within = gap_len-le false text in
    let whole : gap_len false text ≡ length text = omega (arith, all, within) in
    let P : ℕ → Type 0 = IsGap text in
    ([], None, subst P whole (gap_is text))

-- the token after the gap, or the fault there, and what follows it
goes_on : (limit depth at fuel : ℕ) (text : List ℕ) → length text ≤ suc fuel → gap_len false text < length text →
    ((d a : ℕ) (rest : List ℕ) → length rest ≤ fuel → Answer limit d a rest) → Answer limit depth at text
goes_on limit depth at fuel text small more later = choose (cut rest) refl
  where
    n : ℕ
    n = gap_len false text

    rest : List ℕ
    rest = drop n text

    fine : (kind : TokenKind) (len : ℕ) → cut rest ≡ Some (kind, len) → token_fault limit depth kind len ≡ None → Answer limit depth at text
    fine kind len e f =
        let is = cut_cut rest kind len e in
        let some = lexeme_some _ kind is.lexeme in
        let long = length-take-le len rest is.within in
        let fewer : length (drop len rest) ≤ fuel = omega (arith, small, is.within, some, long, length-drop n text, length-drop len rest) in
        let token : Token = record { kind = kind; start = at + n; end = at + n + len } in
        let answer = later (depth_after depth kind) (at + n + len) (drop len rest) fewer in
        (token ∷ answer.0, answer.1, (n, len, gap_is text, refl, refl, is, f, answer.2))

    judge : (kind : TokenKind) (len : ℕ) → cut rest ≡ Some (kind, len) → (fault : Option ℕ) → token_fault limit depth kind len ≡ fault → Answer limit depth at text
    judge kind len e None f = fine kind len e f
    judge kind len e (Some code) f =
        let spot : Spot = record { code = code; at = at + n } in
        ([], Some spot, (n, gap_is text, refl, inr (len, kind, cut_cut rest kind len e, f)))

    choose : (found : Option Lexeme) → cut rest ≡ found → Answer limit depth at text
    choose None e =
        let spot : Spot = record { code = missing (get_or rest 0 0); at = at + n } in
        ([], Some spot, (n, gap_is text, refl, inl (omega (arith, more, length-drop n text), cut_none rest e, refl)))
    choose (Some lexeme) e = judge lexeme.0 lexeme.1 e (token_fault limit depth lexeme.0 lexeme.1) refl

answer_of : (limit depth at fuel : ℕ) (text : List ℕ) → length text ≤ fuel → Answer limit depth at text
answer_of limit depth at zero text small = ends limit depth at text (omega (arith, small))
answer_of limit depth at (suc fuel) text small =
    elim (cases_lt (gap_len false text) (length text)) [
      | inl more ↦ goes_on limit depth at fuel text small more (λ d a rest few. answer_of limit d a fuel rest few)
      | inr all ↦ ends limit depth at text all
    ]

pub tokens_or_first_fault : (limit : ℕ) (text : List ℕ) → ((tokens : List Token) × IsTokens limit text tokens) ⊎ ((spot : Spot) × IsFirstFault limit text spot)
tokens_or_first_fault limit text = by_bytes (is_utf8 text) refl
  where
    settle : IsUtf8 text → (tokens : List Token) (end : Option Spot) → Lexed limit 0 0 text tokens end → ((tokens : List Token) × IsTokens limit text tokens) ⊎ ((spot : Spot) × IsFirstFault limit text spot)
    settle utf8 tokens None lexed = inl (tokens, (utf8, lexed))
    settle utf8 tokens (Some spot) lexed = inr (spot, inr (utf8, (tokens, lexed)))

    by_bytes : (utf8 : Bool) → is_utf8 text ≡ utf8 → ((tokens : List Token) × IsTokens limit text tokens) ⊎ ((spot : Spot) × IsFirstFault limit text spot)
    by_bytes true good =
        let answer = answer_of limit 0 0 (length text) text (omega arith) in
        settle (IsUtf8-from_is_utf8 text good) answer.0 answer.1 answer.2
    by_bytes false bad =
        let spot : Spot = record { code = 107; at = utf8_valid_len text } in
        inr (spot, inl (λ utf8. false≢true (sym bad ∙ is_utf8-from_IsUtf8 text utf8), refl, refl))
