-- Texts and digits.
use Rattle.std.proofs.Common.{◌≡◌, ◌≤◌, ◌<◌, ◌^◌, ◌+◌, ◌-◌, ◌*◌, ◌++◌, ◌∷◌, [], ℕ, List, Bool, true, false, not, cond, drop, length, take, length-take, get_or, refl, arith, rules}
use Rattle.std.specs.Char.{is_ascii_digit, digit_value}
use Rattle.std.specs.List.{list_all, list_any}
use Rattle.std.specs.Prelude.{◌==◌}
use Rattle.std.specs.Str.{IsAscii, is_utf8, IsUtf8}
use Rattle.std.specs.Str.Parse.{digits_value, digits_value_after}
use Rattle.std.proofs.lemmas.Bool.Decides.{nat_tests}
use Rattle.std.proofs.lemmas.List.{take_more}
use Rattle.std.proofs.lemmas.List.Folds.{list_all_more}
use Rattle.std.proofs.lemmas.Str.{IsUtf8-from_ascii, IsUtf8-from_is_utf8, IsUtf8-nil, is_utf8-from_IsUtf8}
use Rattle.std.proofs.lemmas.Str.Parse.{IsNumeralModel, numerals_by_value, digits_value_short}
use Rattle.std.proofs.lemmas.Str.Ascii.{IsAscii-cons, IsAscii-nil}
use Rattle.std.specs.Str.Parse.{without_leading_sign}
use Rattle.table_csv.specs.Field.{is_empty, is_numeral, is_text}
use Rattle.table_csv.proofs.TestLemmas.{and_left, and_right, equal}

-- bytes that are not UTF-8 fail the test
is_utf8-false : (bytes : List ℕ) → ¬ (IsUtf8 bytes) → is_utf8 bytes ≡ false
is_utf8-false bytes none = by_test (is_utf8 bytes) refl where
  by_test : (b : Bool) → is_utf8 bytes ≡ b → b ≡ false
  by_test true is = absurd (none (IsUtf8-from_is_utf8 bytes is))
  by_test false is = refl

pub no_utf8 : (field : List ℕ) → ¬ (IsUtf8 field) → is_text field ≡ false
no_utf8 field none = rw (is_utf8-false field none) refl

pub zero_byte : (field : List ℕ) → IsUtf8 field → list_any (λ b. b == 0) field ≡ true → is_text field ≡ false
zero_byte field utf8 some = rw (is_utf8-from_IsUtf8 field utf8, some) refl

pub text_true : (field : List ℕ) → IsUtf8 field → list_any (λ b. b == 0) field ≡ false → is_text field ≡ true
text_true field utf8 none = rw (is_utf8-from_IsUtf8 field utf8, none) refl

-- the digits are those that std reads
pub decimal_digits : IsNumeralModel (λ ds. list_all is_ascii_digit ds ≡ true) (digits_value 10)
decimal_digits = numerals_by_value _ (search rules)

digit_value_is : (d : ℕ) → is_ascii_digit d ≡ true → digit_value d ≡ d - 48
digit_value_is d digit = grind (arith, nat_tests)

digits_value-push : (n : ℕ) (ds : List ℕ) (d : ℕ) → digits_value_after 10 n (ds ++ d ∷ []) ≡ digits_value_after 10 n ds * 10 + digit_value d
digits_value-push n [] d = refl
digits_value-push n (x ∷ ds) d = digits_value-push (n * 10 + digit_value x) ds d

-- the digits up to a place and the one there
pub digits_value_more : (ds : List ℕ) (i : ℕ) → is_ascii_digit (get_or ds i 0) ≡ true → i < length ds
    → digits_value 10 (take (i + 1) ds) ≡ digits_value 10 (take i ds) * 10 + (get_or ds i 0 - 48)
digits_value_more ds i digit lt =
    rw (take_more ds i 0 lt, digits_value-push 0 (take i ds) (get_or ds i 0), digit_value_is (get_or ds i 0) digit) refl

pub all_digits_more : (ds : List ℕ) (i : ℕ) → list_all is_ascii_digit (take i ds) ≡ true → is_ascii_digit (get_or ds i 0) ≡ true → i < length ds
    → list_all is_ascii_digit (take (i + 1) ds) ≡ true
all_digits_more ds i all digit lt = rw (list_all_more is_ascii_digit ds i 0 lt, all, digit) refl

-- the value of fewer than 18 digits has room for one more
pub digits_value_room : (ds : List ℕ) (i : ℕ) → list_all is_ascii_digit (take i ds) ≡ true → length ds ≤ 18 → i < length ds → digits_value 10 (take i ds) < 10 ^ 17
digits_value_room ds i digits few lt = digits_value_short decimal_digits (take i ds) 17 digits (omega (arith, length-take i ds))

pub digits_value_small : (ds : List ℕ) → list_all is_ascii_digit ds ≡ true → length ds ≤ 18 → digits_value 10 ds < 10 ^ 18
digits_value_small ds digits few = digits_value_short decimal_digits ds 18 digits few

-- bytes below 128, none of them 00
record ArePlain (bytes : List ℕ) : Type 0 where
  ascii : IsAscii bytes
  no_zero : list_any (λ b. b == 0) bytes ≡ false

plain-cons : (b : ℕ) (bytes : List ℕ) → 0 < b → b < 128 → ArePlain bytes → ArePlain (b ∷ bytes)
plain-cons b bytes low high plain =
    let some : (b == 0) ≡ false = above_zero b low in
    record { ascii = IsAscii-cons b bytes high plain.ascii; no_zero = rw (some, plain.no_zero) refl }
  where
    above_zero : (n : ℕ) → 0 < n → (n == 0) ≡ false
    above_zero n low = grind (arith, nat_tests)

digit_range : (b : ℕ) → is_ascii_digit b ≡ true → (48 ≤ b) × (b ≤ 57)
digit_range b digit = grind (arith, nat_tests)

digits_plain : (digits : List ℕ) → list_all is_ascii_digit digits ≡ true → ArePlain digits
digits_plain [] all = record { ascii = IsAscii-nil; no_zero = refl }
digits_plain (b ∷ digits) all =
    let range = digit_range b (and_left (is_ascii_digit b) (list_all is_ascii_digit digits) all) in
    plain-cons b digits (omega (arith, range.0)) (omega (arith, range.1)) (digits_plain digits (and_right (is_ascii_digit b) (list_all is_ascii_digit digits) all))

signed_plain : (b : ℕ) (rest : List ℕ) (minus plus : Bool) → (b == 45) ≡ minus → (b == 43) ≡ plus → list_all is_ascii_digit (cond minus rest (drop (cond plus 1 0) (b ∷ rest))) ≡ true → ArePlain (b ∷ rest)
signed_plain b rest true plus is other all = let sign = equal b 45 is in plain-cons b rest (omega arith) (omega arith) (digits_plain rest all)
signed_plain b rest false true is other all = let sign = equal b 43 other in plain-cons b rest (omega arith) (omega arith) (digits_plain rest all)
signed_plain b rest false false is other all = digits_plain (b ∷ rest) all

-- a number is a text
pub numeral_text : (field : List ℕ) → is_numeral field ≡ true → is_text field ≡ true
numeral_text [] numeral = absurd (cc)
numeral_text (b ∷ rest) numeral =
    let all = and_right (not (is_empty (without_leading_sign (b ∷ rest)))) (list_all is_ascii_digit (without_leading_sign (b ∷ rest))) numeral in
    let plain = signed_plain b rest (b == 45) (b == 43) refl refl all in
    text_true (b ∷ rest) (IsUtf8-from_ascii (b ∷ rest) plain.ascii) plain.no_zero

pub empty_text : (field : List ℕ) → is_empty field ≡ true → is_text field ≡ true
empty_text [] empty = text_true [] IsUtf8-nil refl
empty_text (b ∷ field) empty = let none = equal (length (b ∷ field)) 0 empty in absurd (omega arith)
