-- The words of a command line: which are accepted, and what they mean. They are this project's own.
use Rattle.std.specs.Prelude.{ℕ, List, [], ◌∷◌, ◌++◌, length, filter, Bool, true, false, not, ◌&&◌}
use Rattle.std.specs.Prelude.{◌||◌, if◌then◌else◌, Option, None, Some, codes, ◌==◌, nat_lt, nat_le}
use Rattle.std.specs.Prelude.{count_by}
use Rattle.std.specs.List.{before_first, after_first, list_all}
use Rattle.std.specs.Option.{option_map, option_and_then}
use Rattle.std.specs.Char.{is_ascii_alphabetic, is_ascii_alphanumeric, is_ascii_digit}
use Rattle.std.specs.Str.{bytes_eq, str_to_ascii_uppercase}
use Rattle.std.specs.Str.Parse.{digits_value}
use Rattle.prefsql_session.specs.declared.command.Command.{Command}
use Rattle.prefsql_session.specs.declared.command.Command.TheVariants.{Bench, OnScript}
use Rattle.prefsql_session.specs.declared.command.TableWord.{TableWord}
use Rattle.prefsql_session.specs.declared.command.Task.{Task}
use Rattle.prefsql_session.specs.declared.command.Task.TheVariants.{Ask, Execute}
use Rattle.prefsql_session.specs.declared.command.Wish.{Wish}
use Rattle.prefsql_session.specs.declared.command.Wish.TheVariants.{Answer, Show}
use Rattle.prefsql_session.specs.declared.command.Shown.{Shown}
use Rattle.prefsql_session.specs.declared.command.Shown.TheVariants.{Plan, Query, Executed}

-- what each item gives, where each gives something
abbrev pub each : {X Y : Type 0} → (X → Option Y) → List X → Option (List Y)
each give [] = Some []
each give (item ∷ items) =
    option_and_then (λ first. option_map (λ rest. first ∷ rest) (each give items)) (give item)

-- an ASCII letter, and then ASCII letters, digits and `_`
abbrev pub is_identifier : List ℕ → Bool
is_identifier [] = false
is_identifier (c ∷ cs) =
    is_ascii_alphabetic c && list_all (λ d. is_ascii_alphanumeric d || d == 95) cs

-- a regular identifier of at most 64 characters, then `=`, then a path that is not empty; the name
-- in upper case
abbrev pub table_word : List ℕ → Option TableWord
table_word word =
    let name = before_first (λ c. c == 61) word in
    let path = after_first (λ c. c == 61) word in
    if is_identifier name && nat_le (length name) 64 && nat_lt 0 (length path)
    then Some (record { name = str_to_ascii_uppercase name; path = path })
    else None

-- at most eight table words
abbrev pub table_words : List (List ℕ) → Option (List TableWord)
table_words words = if nat_le (length words) 8 then each table_word words else None

-- what is shown of each statement, by the name of the command
abbrev pub shown_of : List ℕ → Option Shown
shown_of name =
    if bytes_eq name (codes "explain") then Some Plan
    else if bytes_eq name (codes "rewrite") then Some Query
    else if bytes_eq name (codes "via") then Some Executed
    else None

-- what is written of each statement, by the name of the command and by whether `--stats` stands
-- there, which `answer` alone takes
abbrev pub wish_named : List ℕ → Bool → Option Wish
wish_named name counts =
    if bytes_eq name (codes "answer") then Some (Answer counts)
    else if counts then None
    else option_map Show (shown_of name)

-- what is done with a script, by the same
abbrev pub task_named : List ℕ → Bool → Option Task
task_named name counts =
    if bytes_eq name (codes "execute") then if counts then None else Some Execute
    else option_map Ask (wish_named name counts)

-- one to six digits
abbrev pub is_number : List ℕ → Bool
is_number word = list_all is_ascii_digit word && nat_le 1 (length word) && nat_le (length word) 6

-- the number that they write, where it is from 1 to 100,000
abbrev pub row_count : List ℕ → Option ℕ
row_count word =
    let count = digits_value 10 word in
    if is_number word && nat_le 1 count && nat_le count 100000 then Some count else None

-- the one word after `bench`
abbrev pub bench_count : List (List ℕ) → Option ℕ
bench_count (word ∷ []) = row_count word
bench_count words = None

-- a command on a script, with these further words
abbrev pub script_command : List ℕ → Bool → List (List ℕ) → Option Command
script_command name counts words =
    option_and_then (λ task. option_map (OnScript task) (table_words words))
    (task_named name counts)

-- a command of this name, with `--stats` or without, and with these further words
abbrev pub command_of : List ℕ → Bool → List (List ℕ) → Option Command
command_of name counts words =
    if bytes_eq name (codes "bench")
    then if counts then None else option_map Bench (bench_count words)
    else script_command name counts words

-- the word begins with no hyphen
abbrev pub is_plain : List ℕ → Bool
is_plain [] = true
is_plain (c ∷ cs) = not (c == 45)

-- there is a first word, and it begins with no hyphen
abbrev pub begins_plain : List (List ℕ) → Bool
begins_plain [] = false
begins_plain (name ∷ words) = is_plain name

abbrev pub is_stats : List ℕ → Bool
is_stats word = bytes_eq word (codes "--stats")

-- the word after which no word is a flag
abbrev pub is_end : List ℕ → Bool
is_end word = bytes_eq word (codes "--")

-- how often the flag `--stats` stands among the words after a command
abbrev pub stats_among : List (List ℕ) → ℕ
stats_among words = count_by is_stats (before_first is_end words)

-- the words after a command without that flag and without the first word `--`
abbrev pub operands : List (List ℕ) → List (List ℕ)
operands words =
    filter (λ word. not (is_stats word)) (before_first is_end words) ++ after_first is_end words

-- what the words of a command line mean, where they are accepted
abbrev pub accepted : List (List ℕ) → Option Command
accepted [] = None
accepted (name ∷ words) =
    if nat_le (stats_among words) 1 then command_of name (stats_among words == 1) (operands words)
    else None
