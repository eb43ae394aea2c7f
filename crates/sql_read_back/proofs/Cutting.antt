-- A token that is written, and is followed by a byte that it does not go on with, is what is cut there.
use Rattle.std.proofs.Common.{◌≡◌, ℕ, ℤ, negsuc, ◌+◌, ◌-◌, ◌*◌, ◌^◌, ◌<◌, ◌≤◌, pos, Bool, true, false, ◌||◌, ◌&&◌, List, [], ◌∷◌, ◌++◌, take, map, length, get_or, Some, None, refl, sym, ap, ◌∙◌, arith, ◌/◌, ◌%◌}
use Rattle.std.specs.Prelude.{◌==◌}
use Rattle.std.specs.Char.{is_ascii_alphabetic, is_ascii_digit, to_ascii_uppercase}
use Rattle.std.specs.Fmt.{decimal as decimal_text, signed_decimal}
use Rattle.std.specs.List.{list_all, prefix_len}
use Rattle.std.specs.Option.{option_map}
use Rattle.std.proofs.lemmas.Bool.{or_parts, and_parts, and_from}
use Rattle.std.proofs.lemmas.Bool.Decides.{nat_tests}
use Rattle.std.proofs.lemmas.Fmt.{decimal_by_steps_wide, length-decimal-le_wide}
use Rattle.std.proofs.lemmas.Int.{ints}
use Rattle.std.proofs.lemmas.List.{append_assoc, length-append}
use Rattle.std.proofs.Math.Seq.{take-append_seam}
use Rattle.prefsql_values.specs.Limits.{IsUnsignedShort}
use Rattle.prefsql_lexer.specs.declared.token.Keyword.{Keyword}
use Rattle.prefsql_lexer.specs.declared.token.Keyword.TheVariants as word
use Rattle.prefsql_lexer.specs.declared.token.Symbol.{Symbol}
use Rattle.prefsql_lexer.specs.declared.token.Symbol.TheVariants as symbol
use Rattle.prefsql_lexer.specs.declared.token.TokenKind.{TokenKind}
use Rattle.prefsql_lexer.specs.declared.token.TokenKind.TheVariants.{Word, Name, Number, Chars, Symbol as SymbolKind}
use Rattle.prefsql_lexer.specs.Bounds.{IsNumberSmall}
use Rattle.prefsql_lexer.specs.Cut.{Lexeme, cut, number, quoted, quoted_value, undoubled, symbol_at, word_kind, quoted_len}
use Rattle.prefsql_lexer.specs.Words.{is_blank, is_word_byte, begins_gap, decimal}
use Rattle.prefsql_lexer.specs.Tokens.{IsRegular, spelling, symbol_bytes, doubled, in_quotes}
use Rattle.prefsql_lexer.proofs.Forms.{prefix_over, body_over, undoubled-doubled}
use Rattle.prefsql_lexer.proofs.Spellings.{word_kind_word}
use Rattle.sql_text.specs.Pieces.{token_bytes}

-- whether a token of this kind is longer where this byte follows, or is then a comment
abbrev pub goes_on : TokenKind → ℕ → Bool
goes_on (Word k) b = is_word_byte b
goes_on (Name name) b = b == 34
goes_on (Number n) b = is_ascii_digit b
goes_on (Chars value) b = b == 39
goes_on (SymbolKind symbol.Less) b = b == 61 || b == 62
goes_on (SymbolKind symbol.Greater) b = b == 61
goes_on (SymbolKind symbol.Minus) b = b == 45
goes_on (SymbolKind _) b = false

-- ---- words

prefix_none : (p : ℕ → Bool) (rest : List ℕ) → p (get_or rest 0 0) ≡ false → prefix_len p rest ≡ 0
prefix_none p [] stop = refl
prefix_none p (b ∷ rest) stop = rw stop refl

run_len : (p : ℕ → Bool) (bytes rest : List ℕ) → list_all p bytes ≡ true → p (get_or rest 0 0) ≡ false → prefix_len p (bytes ++ rest) ≡ length bytes
run_len p bytes rest all stop = let over = prefix_over p bytes rest all in let none = prefix_none p rest stop in omega (arith, over, none)

regular_cut : (bytes rest : List ℕ) (kind : TokenKind) → IsRegular bytes → word_kind (map to_ascii_uppercase bytes) ≡ kind → is_word_byte (get_or rest 0 0) ≡ false → cut (bytes ++ rest) ≡ Some (kind, length bytes)
unfolding cut
regular_cut [] rest kind is of stop = absurd (let e = is.letter in cc)
regular_cut (b ∷ bytes) rest kind is of stop =
    let text = b ∷ (bytes ++ rest) in
    let n : prefix_len is_word_byte text ≡ length (b ∷ bytes) = run_len is_word_byte (b ∷ bytes) rest is.others stop in
    let seam : take (length (b ∷ bytes)) text ≡ b ∷ bytes = take-append_seam (b ∷ bytes) rest in
    let one : ℕ → Lexeme = λ i. (word_kind (map to_ascii_uppercase (take i text)), i) in
    let two : List ℕ → Lexeme = λ t. (word_kind (map to_ascii_uppercase t), length (b ∷ bytes)) in
    let three : TokenKind → Lexeme = λ k. (k, length (b ∷ bytes)) in
    rw is.letter (ap (λ i. Some (one i)) n ∙ ap (λ t. Some (two t)) seam ∙ ap (λ k. Some (three k)) of)

word_regular : (k : Keyword) → IsRegular (spelling k)
word_regular word.And = record { letter = refl; others = refl }
word_regular word.Around = record { letter = refl; others = refl }
word_regular word.As = record { letter = refl; others = refl }
word_regular word.Asc = record { letter = refl; others = refl }
word_regular word.Between = record { letter = refl; others = refl }
word_regular word.But = record { letter = refl; others = refl }
word_regular word.By = record { letter = refl; others = refl }
word_regular word.Cascade = record { letter = refl; others = refl }
word_regular word.Case = record { letter = refl; others = refl }
word_regular word.Desc = record { letter = refl; others = refl }
word_regular word.Distance = record { letter = refl; others = refl }
word_regular word.Distinct = record { letter = refl; others = refl }
word_regular word.Dual = record { letter = refl; others = refl }
word_regular word.Else = record { letter = refl; others = refl }
word_regular word.End = record { letter = refl; others = refl }
word_regular word.Exists = record { letter = refl; others = refl }
word_regular word.Explicit = record { letter = refl; others = refl }
word_regular word.From = record { letter = refl; others = refl }
word_regular word.Grouping = record { letter = refl; others = refl }
word_regular word.Highest = record { letter = refl; others = refl }
word_regular word.In = record { letter = refl; others = refl }
word_regular word.Is = record { letter = refl; others = refl }
word_regular word.Layered = record { letter = refl; others = refl }
word_regular word.Level = record { letter = refl; others = refl }
word_regular word.Lowest = record { letter = refl; others = refl }
word_regular word.Not = record { letter = refl; others = refl }
word_regular word.Null = record { letter = refl; others = refl }
word_regular word.Only = record { letter = refl; others = refl }
word_regular word.Or = record { letter = refl; others = refl }
word_regular word.Order = record { letter = refl; others = refl }
word_regular word.Others = record { letter = refl; others = refl }
word_regular word.Preferring = record { letter = refl; others = refl }
word_regular word.Regular = record { letter = refl; others = refl }
word_regular word.Rounds = record { letter = refl; others = refl }
word_regular word.Select = record { letter = refl; others = refl }
word_regular word.Then = record { letter = refl; others = refl }
word_regular word.Top = record { letter = refl; others = refl }
word_regular word.Trivial = record { letter = refl; others = refl }
word_regular word.When = record { letter = refl; others = refl }
word_regular word.Where = record { letter = refl; others = refl }

word_upper : (k : Keyword) → map to_ascii_uppercase (spelling k) ≡ spelling k
word_upper word.And = refl
word_upper word.Around = refl
word_upper word.As = refl
word_upper word.Asc = refl
word_upper word.Between = refl
word_upper word.But = refl
word_upper word.By = refl
word_upper word.Cascade = refl
word_upper word.Case = refl
word_upper word.Desc = refl
word_upper word.Distance = refl
word_upper word.Distinct = refl
word_upper word.Dual = refl
word_upper word.Else = refl
word_upper word.End = refl
word_upper word.Exists = refl
word_upper word.Explicit = refl
word_upper word.From = refl
word_upper word.Grouping = refl
word_upper word.Highest = refl
word_upper word.In = refl
word_upper word.Is = refl
word_upper word.Layered = refl
word_upper word.Level = refl
word_upper word.Lowest = refl
word_upper word.Not = refl
word_upper word.Null = refl
word_upper word.Only = refl
word_upper word.Or = refl
word_upper word.Order = refl
word_upper word.Others = refl
word_upper word.Preferring = refl
word_upper word.Regular = refl
word_upper word.Rounds = refl
word_upper word.Select = refl
word_upper word.Then = refl
word_upper word.Top = refl
word_upper word.Trivial = refl
word_upper word.When = refl
word_upper word.Where = refl

-- ---- quoted forms

closes : (q end : ℕ) (rest : List ℕ) → (get_or rest 0 0 == q) ≡ false → quoted_len q true (Some end) end rest ≡ Some end
closes q end [] stop = refl
closes q end (b ∷ rest) stop = rw stop refl

quoted_cut : (kind : List ℕ → TokenKind) (q : ℕ) (value rest : List ℕ) → (get_or rest 0 0 == q) ≡ false → quoted kind q (in_quotes q value ++ rest) ≡ Some (kind value, length (in_quotes q value))
quoted_cut kind q value rest stop =
    let over = body_over q value rest None 0 in
    let body = doubled q value in
    let close = closes q over.0 rest stop in
    let text = in_quotes q value ++ rest in
    let long : length (body ++ q ∷ []) ≡ length body + 1 = length-append body (q ∷ []) in
    let whole : length (in_quotes q value) ≡ over.0 + 1 = omega (arith, long, over.2) in
    let at : over.0 - 1 ≡ length body = omega (arith, over.2) in
    let seam : take (over.0 - 1) ((body ++ q ∷ []) ++ rest) ≡ body =
    ap (λ i. take i ((body ++ q ∷ []) ++ rest)) at ∙ (ap (take (length body)) (append_assoc body (q ∷ []) rest) ∙ take-append_seam body (q ∷ rest)) in
    let read : quoted_value q text over.0 ≡ value = ap (undoubled q false) seam ∙ undoubled-doubled q value in
    let made : ℕ → Lexeme = λ n. (kind (quoted_value q text n), n + 1) in
    let found : quoted kind q text ≡ Some (made over.0) = ap (option_map made) (over.1 ∙ close) in
    let one : List ℕ → Lexeme = λ v. (kind v, over.0 + 1) in
    let two : ℕ → Lexeme = λ n. (kind value, n) in
    found ∙ ap (λ v. Some (one v)) read ∙ ap (λ n. Some (two n)) (sym whole)

name_cut : (name rest : List ℕ) → (get_or rest 0 0 == 34) ≡ false → cut (in_quotes 34 name ++ rest) ≡ Some (Name name, length (in_quotes 34 name))
unfolding cut
name_cut name rest stop = quoted_cut Name 34 name rest stop

chars_cut : (value rest : List ℕ) → (get_or rest 0 0 == 39) ≡ false → cut (in_quotes 39 value ++ rest) ≡ Some (Chars value, length (in_quotes 39 value))
unfolding cut
chars_cut value rest stop = quoted_cut Chars 39 value rest stop

-- ---- numbers

number_cut : (bytes rest : List ℕ) (n : ℤ) → 0 < length bytes → list_all is_ascii_digit bytes ≡ true → n ≡ pos (decimal 0 bytes) → is_ascii_digit (get_or rest 0 0) ≡ false → cut (bytes ++ rest) ≡ Some (Number n, length bytes)
unfolding cut
number_cut [] rest n some all of stop = absurd (omega arith)
number_cut (b ∷ bytes) rest n some all of stop =
    let text = b ∷ (bytes ++ rest) in
    let len : prefix_len is_ascii_digit text ≡ length (b ∷ bytes) = run_len is_ascii_digit (b ∷ bytes) rest all stop in
    let seam : take (length (b ∷ bytes)) text ≡ b ∷ bytes = take-append_seam (b ∷ bytes) rest in
    let digit = (and_parts (is_ascii_digit b) (list_all is_ascii_digit bytes) all).0 in
    let one : ℕ → Lexeme = λ i. (Number (pos (decimal 0 (take i text))), i) in
    let two : List ℕ → Lexeme = λ t. (Number (pos (decimal 0 t)), length (b ∷ bytes)) in
    let three : ℤ → Lexeme = λ m. (Number m, length (b ∷ bytes)) in
    let is : cut text ≡ Some (number text) = rw (digit_no_letter b digit, digit) refl in
    is ∙ ap (λ i. Some (one i)) len ∙ ap (λ t. Some (two t)) seam ∙ ap (λ m. Some (three m)) (sym of)
  where
    digit_no_letter : (b : ℕ) → is_ascii_digit b ≡ true → is_ascii_alphabetic b ≡ false
    digit_no_letter b is = grind (arith, nat_tests)

-- the digits that are written of a number
pub record IsDigitsOf (n : ℕ) (digits : List ℕ) : Type 0 where
  pub some : 0 < length digits
  pub all : list_all is_ascii_digit digits ≡ true
  pub value : decimal 0 digits ≡ n

digit_test : (d : ℕ) → d < 10 → is_ascii_digit (48 + d) ≡ true
digit_test d small = grind (arith, nat_tests)

all_snoc : (p : ℕ → Bool) (xs : List ℕ) (b : ℕ) → list_all p xs ≡ true → p b ≡ true → list_all p (xs ++ b ∷ []) ≡ true
all_snoc p [] b all one = and_from (p b) true one refl
all_snoc p (x ∷ xs) b all one =
    let parts = and_parts (p x) (list_all p xs) all in
    and_from (p x) (list_all p (xs ++ b ∷ [])) parts.0 (all_snoc p xs b parts.1 one)

decimal_snoc : (m : ℕ) (ds : List ℕ) (b : ℕ) → decimal m (ds ++ b ∷ []) ≡ decimal m ds * 10 + (b - 48)
decimal_snoc m [] b = refl
decimal_snoc m (d ∷ ds) b = decimal_snoc (m * 10 + (d - 48)) ds b

pub digits_of : (n : ℕ) → n < 10 ^ 64 → IsDigitsOf n (decimal_text n)
digits_of n small = decimal_by_steps_wide IsDigitsOf one more n small
  where
    one : (n : ℕ) → n < 10 → IsDigitsOf n ((48 + n) ∷ [])
    one n low = record { some = omega arith; all = and_from (is_ascii_digit (48 + n)) true (digit_test n low) refl; value = omega arith }

    more : (n : ℕ) (ds : List ℕ) → 10 ≤ n → IsDigitsOf (n / 10) ds → IsDigitsOf n (ds ++ ((48 + n % 10) ∷ []))
    more n ds big is = record {
      some = omega (arith, length-append ds ((48 + n % 10) ∷ []));
      all = all_snoc is_ascii_digit ds (48 + n % 10) is.all (digit_test (n % 10) (omega arith));
      value = (let step = decimal_snoc 0 ds (48 + n % 10) in let before = is.value in omega (arith, step, before));
    }

-- ---- symbols

symbol_cut : (s : Symbol) (rest : List ℕ) → goes_on (SymbolKind s) (get_or rest 0 0) ≡ false → cut (symbol_bytes s ++ rest) ≡ Some (SymbolKind s, length (symbol_bytes s))
unfolding cut symbol_at
symbol_cut symbol.LeftParen rest stop = refl
symbol_cut symbol.RightParen rest stop = refl
symbol_cut symbol.Comma rest stop = refl
symbol_cut symbol.Dot rest stop = refl
symbol_cut symbol.Semicolon rest stop = refl
symbol_cut symbol.Equal rest stop = refl
symbol_cut symbol.NotEqual rest stop = refl
symbol_cut symbol.Less rest stop = let parts = or_parts (get_or rest 0 0 == 61) (get_or rest 0 0 == 62) stop in rw (parts.0, parts.1) refl
symbol_cut symbol.LessEqual rest stop = refl
symbol_cut symbol.Greater rest stop = rw stop refl
symbol_cut symbol.GreaterEqual rest stop = refl
symbol_cut symbol.Plus rest stop = refl
symbol_cut symbol.Minus rest stop = refl
symbol_cut symbol.Star rest stop = refl

-- ---- every token

-- names need no bound here, and numbers are the ones that digits write
pub written_cut : (kind : TokenKind) (rest : List ℕ) → IsNumberSmall kind → goes_on kind (get_or rest 0 0) ≡ false → cut (token_bytes kind ++ rest) ≡ Some (kind, length (token_bytes kind))
written_cut (Word k) rest small stop = regular_cut (spelling k) rest (Word k) (word_regular k) (word_kind_word (map to_ascii_uppercase (spelling k)) k (word_upper k)) stop
written_cut (Name name) rest small stop = name_cut name rest stop
written_cut (Number n) rest small stop = by_sign n small stop
  where
    by_sign : (n : ℤ) → IsUnsignedShort n → is_ascii_digit (get_or rest 0 0) ≡ false → cut (signed_decimal n ++ rest) ≡ Some (Number n, length (signed_decimal n))
    by_sign (pos m) small stop =
        let wide : m < 10 ^ 64 = omega (arith, ints, small.1) in
        let is = digits_of m wide in
        number_cut (decimal_text m) rest (pos m) is.some is.all (ap pos (sym is.value)) stop
    by_sign (negsuc m) small stop = absurd (omega (arith, ints, small.0))
written_cut (Chars value) rest small stop = chars_cut value rest stop
written_cut (SymbolKind s) rest small stop = symbol_cut s rest stop

-- ---- no blank and no comment begins with it

letter_begins : (b next : ℕ) → is_ascii_alphabetic b ≡ true → (is_blank b || (b == 45 && next == 45)) ≡ false
letter_begins b next is = grind (arith, nat_tests)

digit_begins : (b next : ℕ) → is_ascii_digit b ≡ true → (is_blank b || (b == 45 && next == 45)) ≡ false
digit_begins b next is = grind (arith, nat_tests)

regular_begins : (bytes rest : List ℕ) → IsRegular bytes → begins_gap (bytes ++ rest) ≡ false
regular_begins [] rest is = absurd (let e = is.letter in cc)
regular_begins (b ∷ bytes) rest is = letter_begins b (get_or (bytes ++ rest) 0 0) is.letter

number_begins : (bytes rest : List ℕ) → 0 < length bytes → list_all is_ascii_digit bytes ≡ true → begins_gap (bytes ++ rest) ≡ false
number_begins [] rest some all = absurd (omega arith)
number_begins (b ∷ bytes) rest some all = digit_begins b (get_or (bytes ++ rest) 0 0) (and_parts (is_ascii_digit b) (list_all is_ascii_digit bytes) all).0

symbol_begins : (s : Symbol) (rest : List ℕ) → goes_on (SymbolKind s) (get_or rest 0 0) ≡ false → begins_gap (symbol_bytes s ++ rest) ≡ false
symbol_begins symbol.LeftParen rest stop = refl
symbol_begins symbol.RightParen rest stop = refl
symbol_begins symbol.Comma rest stop = refl
symbol_begins symbol.Dot rest stop = refl
symbol_begins symbol.Semicolon rest stop = refl
symbol_begins symbol.Equal rest stop = refl
symbol_begins symbol.NotEqual rest stop = refl
symbol_begins symbol.Less rest stop = refl
symbol_begins symbol.LessEqual rest stop = refl
symbol_begins symbol.Greater rest stop = refl
symbol_begins symbol.GreaterEqual rest stop = refl
symbol_begins symbol.Plus rest stop = refl
symbol_begins symbol.Minus rest stop = stop
symbol_begins symbol.Star rest stop = refl

pub written_begins : (kind : TokenKind) (rest : List ℕ) → IsNumberSmall kind → goes_on kind (get_or rest 0 0) ≡ false → begins_gap (token_bytes kind ++ rest) ≡ false
written_begins (Word k) rest small stop = regular_begins (spelling k) rest (word_regular k)
written_begins (Name name) rest small stop = refl
written_begins (Number n) rest small stop = by_sign n small
  where
    by_sign : (n : ℤ) → IsUnsignedShort n → begins_gap (signed_decimal n ++ rest) ≡ false
    by_sign (pos m) small =
        let wide : m < 10 ^ 64 = omega (arith, ints, small.1) in
        let is = digits_of m wide in
        number_begins (decimal_text m) rest is.some is.all
    by_sign (negsuc m) small = absurd (omega (arith, ints, small.0))
written_begins (Chars value) rest small stop = refl
written_begins (SymbolKind s) rest small stop = symbol_begins s rest stop

-- ---- its length

pub number_len : (n : ℤ) → IsUnsignedShort n → length (signed_decimal n) ≤ 18
number_len (pos m) small =
    let low : m < 10 ^ 18 = omega (arith, ints, small.1) in
    length-decimal-le_wide 18 m (omega arith) low (omega arith)
number_len (negsuc m) small = absurd (omega (arith, ints, small.0))
