-- How a field of a table file reads: as a text, and as a number. The rules are this project's own.
use Rattle.std.specs.Prelude.{ℕ, ℤ, Bool, not, ◌&&◌, ◌==◌, nat_lt, List, ◌++◌, length}
use Rattle.std.specs.Char.{is_ascii_digit}
use Rattle.std.specs.List.{list_all, list_any}
use Rattle.std.specs.Str.{is_utf8}
use Rattle.std.specs.Str.Parse.{without_leading_sign, signed_digits_value}
use Rattle.table_csv.specs.Fault.{when}

-- UTF-8 without the byte 00
abbrev pub is_text : List ℕ → Bool
is_text field = is_utf8 field && not (list_any (λ b. b == 0) field)

abbrev pub is_empty : List ℕ → Bool
is_empty field = length field == 0

-- an optional sign and digits
abbrev pub is_numeral : List ℕ → Bool
is_numeral field = not (is_empty (without_leading_sign field))
    && list_all is_ascii_digit (without_leading_sign field)

-- as written, so leading zeros count
abbrev pub digit_count : List ℕ → ℕ
digit_count field = length (without_leading_sign field)

-- the number that the sign and the digits write
abbrev pub number_in : List ℕ → ℤ
number_in field = signed_digits_value 10 field

-- the codes of the faults of a field that is to be a number
abbrev pub number_codes : List ℕ → List ℕ
number_codes field = when (not (is_numeral field)) 504 ++ when (nat_lt 18 (digit_count field)) 505
