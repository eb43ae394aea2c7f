-- The number that one to six digits write.
use Rattle.std.proofs.Common.{◌≡◌, ◌≤◌, ℕ, List, length, Bool, true, false, ◌&&◌, Result, Ok, arith, nat_le, rules}
use Rattle.std.proofs.lemmas.Bool.Decides.{nat_tests}
use Rattle.std.proofs.lemmas.Str.Parse.{IsNumeralModel, numerals_by_value, digits_value_short, parse_gives}
use Rattle.std.specs.Char.{is_ascii_digit}
use Rattle.std.specs.List.{list_all}
use Rattle.std.specs.Str.Parse.{digits_value, ParsesUnsigned}
use Rattle.prefsql_session.specs.CommandLine.{is_number}

own : IsNumeralModel (λ ds. list_all is_ascii_digit ds ≡ true) (digits_value 10)
own = numerals_by_value _ (search rules)

three : (a b c : Bool) → (a && b && c) ≡ true → (a ≡ true) × (b ≡ true) × (c ≡ true)
three true true true e = (cc, cc, cc)
three true true false e = absurd (cc)
three true false c e = absurd (cc)
three false b c e = absurd (cc)

at_most : (m n : ℕ) → nat_le m n ≡ true → m ≤ n
at_most m n e = grind (arith, nat_tests)

pub number_parsed : {E : Type 0} (word : List ℕ) (r : Result ℕ E) → ParsesUnsigned 32 10 word r → is_number word ≡ true → r ≡ Ok (digits_value 10 word)
number_parsed word r parses is =
    let parts = three (list_all is_ascii_digit word) (nat_le 1 (length word)) (nat_le (length word) 6) is in
    let some = at_most 1 (length word) parts.1 in
    let few = at_most (length word) 6 parts.2 in
    parse_gives own 32 word r parses parts.0 (omega (arith, some)) (omega (arith, digits_value_short own word 6 parts.0 few))
