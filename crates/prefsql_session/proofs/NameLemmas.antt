-- The table words of accepted words are few, and their names are names of tables.
use Rattle.std.proofs.Common.{◌≡◌, ◌∙◌, ◌≤◌, ◌<◌, ℕ, suc, List, [], ◌∷◌, length, Bool, true, false, ◌&&◌, ◌||◌, if◌then◌else◌, Option, Some, None, All, refl, ap, subst, arith, codes, nat_lt, nat_le}
use Rattle.std.proofs.lemmas.Bool.Decides.{nat_tests}
use Rattle.std.proofs.lemmas.List.{length-map}
use Rattle.std.proofs.lemmas.Str.{chars-IsAscii}
use Rattle.std.proofs.lemmas.Str.Ascii.{IsAscii-cons, IsAscii-map, IsAscii-nil, uppercase_ascii}
use Rattle.std.specs.Char.{is_ascii_alphabetic, is_ascii_alphanumeric, to_ascii_uppercase}
use Rattle.std.specs.List.{after_first, before_first, list_all}
use Rattle.std.specs.Option.{option_map, option_and_then}
use Rattle.std.specs.Prelude.{◌==◌}
use Rattle.std.specs.Str.{IsAscii, bytes_eq, chars, str_to_ascii_uppercase}
use Rattle.std.specs.Str.Parse.{digits_value}
use Rattle.prefsql_values.specs.Limits.{IsName}
use Rattle.prefsql_session.specs.CommandLine.{accepted, bench_count, command_of, each, is_identifier, is_number, operands, stats_among, script_command, table_word, table_words, task_named}
use Rattle.prefsql_session.specs.declared.command.Command.{Command}
use Rattle.prefsql_session.specs.declared.command.Command.TheVariants.{Bench, OnScript}
use Rattle.prefsql_session.specs.declared.command.TableWord.{TableWord}
use Rattle.prefsql_session.specs.declared.command.Task.{Task}
use Rattle.prefsql_session.specs.Texts.{IsBenchCount}
use Rattle.prefsql_session.proofs.EachLemmas.{each-all, length-each}

left : (a b : Bool) → (a && b) ≡ true → a ≡ true
left true b e = refl
left false b e = absurd (cc)

right : (a b : Bool) → (a && b) ≡ true → b ≡ true
right true b e = e
right false b e = absurd (cc)

at_most : (m n : ℕ) → nat_le m n ≡ true → m ≤ n
at_most m n e = grind (arith, nat_tests)

letter_ascii : (b : ℕ) → is_ascii_alphabetic b ≡ true → b < 128
letter_ascii b is = grind (arith, nat_tests)

name_byte_ascii : (b : ℕ) → (is_ascii_alphanumeric b || b == 95) ≡ true → b < 128
name_byte_ascii b is = grind (arith, nat_tests)

name_bytes_ascii : (bytes : List ℕ) → list_all (λ d. is_ascii_alphanumeric d || d == 95) bytes ≡ true → IsAscii bytes
name_bytes_ascii [] all = IsAscii-nil
name_bytes_ascii (b ∷ bytes) all =
    IsAscii-cons b bytes
    (name_byte_ascii b (left (is_ascii_alphanumeric b || b == 95) (list_all (λ d. is_ascii_alphanumeric d || d == 95) bytes) all))
    (name_bytes_ascii bytes (right (is_ascii_alphanumeric b || b == 95) (list_all (λ d. is_ascii_alphanumeric d || d == 95) bytes) all))

-- an identifier in upper case
identifier_named : (name : List ℕ) → is_identifier name ≡ true → length name ≤ 64 → IsName (str_to_ascii_uppercase name)
identifier_named [] is short = absurd (cc)
identifier_named (first ∷ rest) is short =
    let letter = left (is_ascii_alphabetic first) (list_all (λ d. is_ascii_alphanumeric d || d == 95) rest) is in
    let bytes = right (is_ascii_alphabetic first) (list_all (λ d. is_ascii_alphanumeric d || d == 95) rest) is in
    let ascii = IsAscii-map to_ascii_uppercase (first ∷ rest) uppercase_ascii (IsAscii-cons first rest (letter_ascii first letter) (name_bytes_ascii rest bytes)) in
    let long : length (chars (str_to_ascii_uppercase (first ∷ rest))) ≡ suc (length rest) =
    ap length (chars-IsAscii (str_to_ascii_uppercase (first ∷ rest)) ascii) ∙ length-map (first ∷ rest) to_ascii_uppercase in
    record { not_empty = omega (arith, long); short = omega (arith, long, short) }

-- a table word that is one
word_named_if : (name path : List ℕ) (table : TableWord) (b : Bool) → (is_identifier name && nat_le (length name) 64 && nat_lt 0 (length path)) ≡ b
    → (if b then Some (record { name = str_to_ascii_uppercase name; path = path }) else None) ≡ Some table → IsName table.name
word_named_if name path table false test e = absurd (cc)
word_named_if name path table true test e =
    let both = left (is_identifier name && nat_le (length name) 64) (nat_lt 0 (length path)) test in
    let same : str_to_ascii_uppercase name ≡ table.name = cc in
    subst IsName same (identifier_named name (left (is_identifier name) (nat_le (length name) 64) both)
    (at_most (length name) 64 (right (is_identifier name) (nat_le (length name) 64) both)))

word_named : (word : List ℕ) (table : TableWord) → table_word word ≡ Some table → IsName table.name
word_named word table is =
    let name = before_first (λ c. c == 61) word in
    let path = after_first (λ c. c == 61) word in
    word_named_if name path table (is_identifier name && nat_le (length name) 64 && nat_lt 0 (length path)) refl is

-- what accepted words know of their table words
pub record AreNamed (tables : List TableWord) : Type 0 where
  pub few : length tables ≤ 8
  pub named : All (λ (word : TableWord). IsName word.name) tables

-- the same of a command
abbrev pub IsNamedCommand : Command → Type 0
IsNamedCommand (OnScript task tables) = AreNamed tables
IsNamedCommand (Bench count) = IsBenchCount count

words_named : (words : List (List ℕ)) (tables : List TableWord) → table_words words ≡ Some tables → AreNamed tables
words_named words tables is = go (nat_le (length words) 8) refl is
  where
    go : (b : Bool) → nat_le (length words) 8 ≡ b → (if b then each table_word words else None) ≡ Some tables → AreNamed tables
    go false test e = absurd (cc)
    go true test e = record {
      few = omega (arith, at_most (length words) 8 test, length-each table_word words tables e);
      named = each-all table_word (λ (word : TableWord). IsName word.name) word_named words tables e;
    }

command_named : (task : Option Task) (tables : Option (List TableWord)) (command : Command) → ((ws : List TableWord) → tables ≡ Some ws → AreNamed ws)
    → option_and_then (λ t. option_map (OnScript t) tables) task ≡ Some command → IsNamedCommand command
command_named None tables command named is = absurd (cc)
command_named (Some t) None command named is = absurd (cc)
command_named (Some t) (Some ws) command named is = let same : OnScript t ws ≡ command = cc in subst IsNamedCommand same (named ws refl)

count_named_if : (word : List ℕ) (command : Command) (b : Bool) → (is_number word && nat_le 1 (digits_value 10 word) && nat_le (digits_value 10 word) 100000) ≡ b
    → option_map Bench (if b then Some (digits_value 10 word) else None) ≡ Some command → IsNamedCommand command
count_named_if word command false test is = absurd (cc)
count_named_if word command true test is =
    let count = digits_value 10 word in
    let before = left (is_number word && nat_le 1 count) (nat_le count 100000) test in
    let same : Bench count ≡ command = cc in
    subst IsNamedCommand same (record {
      some = at_most 1 count (right (is_number word) (nat_le 1 count) before);
      few = at_most count 100000 (right (is_number word && nat_le 1 count) (nat_le count 100000) test);
    })

count_named : (words : List (List ℕ)) (command : Command) → option_map Bench (bench_count words) ≡ Some command → IsNamedCommand command
count_named [] command is = absurd (cc)
count_named (word ∷ []) command is =
    count_named_if word command (is_number word && nat_le 1 (digits_value 10 word) && nat_le (digits_value 10 word) 100000) refl is
count_named (word ∷ other ∷ words) command is = absurd (cc)

either_named : (name : List ℕ) (counts : Bool) (words : List (List ℕ)) (command : Command) (b : Bool)
    → (if b then (if counts then None else option_map Bench (bench_count words)) else script_command name counts words) ≡ Some command → IsNamedCommand command
either_named name true words command true is = absurd (cc)
either_named name false words command true is = count_named words command is
either_named name counts words command false is =
    command_named (task_named name counts) (table_words words) command (words_named words) is

pub accepted_named : (words : List (List ℕ)) (command : Command) → accepted words ≡ Some command → IsNamedCommand command
accepted_named [] command is = absurd (cc)
accepted_named (name ∷ words) command is = go (nat_le (stats_among words) 1) is
  where
    go : (b : Bool) → (if b then command_of name (stats_among words == 1) (operands words) else None) ≡ Some command → IsNamedCommand command
    go false e = absurd (cc)
    go true e =
        either_named name (stats_among words == 1) (operands words) command (bytes_eq name (codes "bench")) e
