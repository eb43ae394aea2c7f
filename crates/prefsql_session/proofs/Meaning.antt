-- The words that are accepted are those that `clap` takes with a command and its further words, and mean the same.
use Rattle.std.proofs.Common.{◌≡◌, ◌∙◌, ◌+◌, ◌≤◌, ℕ, List, [], ◌∷◌, Bool, true, false, not, ◌&&◌, ◌||◌, if◌then◌else◌, Option, Some, None, refl, sym, ap, ap₂, codes, zero, suc, subst, arith, true≢false, is_some, length, nat_lt, nat_le}
use Rattle.std.specs.List.{fold, list_all, before_first}
use Rattle.std.specs.Option.{option_map_or, option_map, option_and_then}
use Rattle.std.specs.Prelude.{◌==◌}
use Rattle.clap.proofs.TakesLemmas.{leaf_takes}
use Rattle.clap.specs.Faults.{fault_of, walk_fault}
use Rattle.clap.specs.Simple.{built, matches_of}
use Rattle.clap.specs.Takes.{bundle_passes, flag_word_passes, step_passes, turn_passes, is_valid, takes, walk_passes}
use Rattle.clap.specs.Values.{bool_text}
use Rattle.clap.specs.Walk.{Held, Step, Text, Walk, finished, nothing_held, value, walk, walk_from, walked, with_default, word_met}
use Rattle.prefsql_session.specs.CommandLine.{begins_plain, is_plain, bench_count, each, is_identifier, script_command, table_word, task_named, accepted, command_of, operands, stats_among}
use Rattle.prefsql_session.specs.declared.command.Command.TheVariants.{Bench, OnScript}
use Rattle.prefsql_session.specs.declared.command.Task.{Task}
use Rattle.std.specs.Str.{bytes_eq}
use Rattle.prefsql_session.specs.WordsApp.{Reads, words_app}
use Rattle.prefsql_session.proofs.WalkOf.{before_first-later, rules}
use Rattle.prefsql_session.proofs.StateOf.{At, Layout, bare, operands_alone, stats_alone, operands_first, stats_first, follow, rows_in, walk_follows}
use Rattle.prefsql_session.proofs.Follow.{stats-follow, stats_in, values-follow, values_in}
use Rattle.prefsql_session.proofs.TakenWords.{kinds_left, plain_word, stats_most, top, words_pass}

abbrev start : Walk
start = walk_from nothing_held

first_met : (name : Text) → is_plain name ≡ true → word_met rules [] false Rattle.clap.specs.Walk.idle 1 name nothing_held ≡ (nothing_held, value)
first_met name plain = let is = plain_word name plain in Rattle.prefsql_session.proofs.WalkOf.word_is_value Rattle.clap.specs.Walk.idle 1 name nothing_held tt refl is.2 is.3

-- the walk after the command
first_at : (name : Text) → is_plain name ≡ true → At name bare false (walked rules [] (walk_from nothing_held) name)
unfolding walked
first_at name plain = rw (first_met name plain) (record {
  stopped = refl;
  position = refl;
  trailing = refl;
  waiting = tt;
  skip = refl;
  rows = refl;
  passes = refl;
})

at_end : (name : Text) (words : List Text) → is_plain name ≡ true
    → (finally : Bool) × At name (follow false bare words) finally (walk rules [] nothing_held (name ∷ words))
at_end name words plain = walk_follows name bare false (walked rules [] (walk_from nothing_held) name) words (first_at name plain)

-- ---- what `clap` finds

found : (name : Text) (layout : Layout) → Reads name (nat_lt 0 (stats_in layout)) (values_in layout) (fold with_default (rows_in name layout) rules)
found name bare = record { command = refl; stats = refl; further = refl }
found name (operands_alone values) = record { command = refl; stats = refl; further = refl }
found name stats_alone = record { command = refl; stats = refl; further = refl }
found name (operands_first values) = record { command = refl; stats = refl; further = refl }
found name (stats_first values) = record { command = refl; stats = refl; further = refl }

once : (n : ℕ) → n ≤ 1 → nat_lt 0 (0 + n) ≡ (n == 1)
once zero small = refl
once (suc zero) small = refl
once (suc (suc n)) small = absurd (omega (arith, small))

pub reads : (name : Text) (words : List Text) → is_plain name ≡ true → fault_of words_app (name ∷ words) ≡ []
    → Reads name (stats_among words == 1) (operands words) (matches_of words_app (name ∷ words)) × (stats_among words ≤ 1)
unfolding walk_fault
reads name words plain none =
    let at = at_end name words plain in
    let layout = follow false bare words in
    let most : stats_among words ≤ 1 = omega (arith, stats_most name bare (walked rules [] (walk_from nothing_held) name) words (first_at name plain) (kinds_left _ _ (kinds_left _ _ none).0).1) in
    let rows : matches_of words_app (name ∷ words) ≡ fold with_default (rows_in name layout) rules = ap (λ rs. fold with_default rs rules) at.1.rows in
    let flag : nat_lt 0 (stats_in layout) ≡ (stats_among words == 1) = stats-follow false bare words ∙ once (stats_among words) most in
    let values : values_in layout ≡ operands words = values-follow false bare words in (
      subst (Reads name (stats_among words == 1) (operands words)) (sym rows)
          (subst (λ b. Reads name b (operands words) (fold with_default (rows_in name layout) rules)) flag
          (subst (λ ws. Reads name (nat_lt 0 (stats_in layout)) ws (fold with_default (rows_in name layout) rules)) values (found name layout))),
      most,
    )

-- ---- words that are accepted are taken

valid : (name : Text) (layout : Layout) → is_valid top (fold with_default (rows_in name layout) rules) false ≡ true
valid name bare = refl
valid name (operands_alone values) = refl
valid name stats_alone = refl
valid name (operands_first values) = refl
valid name (stats_first values) = refl

pub taken : (name : Text) (words : List Text) → is_plain name ≡ true → list_all is_plain (operands words) ≡ true → stats_among words ≤ 1
    → takes words_app (name ∷ words) ≡ true
unfolding walk_passes
taken name words plain all_plain most =
    let at = at_end name words plain in
    let layout = follow false bare words in
    let first : turn_passes top [] start name ≡ true = first_passes in
    let walk_ok : walk_passes top [] start (name ∷ words) ≡ true =
    ap₂ (λ a b. a && b) first (words_pass name bare (walked rules [] start name) words (first_at name plain) all_plain (omega (arith, most))) in
    let end_ok : is_valid top (finished rules (walk rules [] nothing_held (name ∷ words)).held) false ≡ true =
    ap (λ rs. is_valid top (fold with_default rs rules) false) at.1.rows ∙ valid name layout in
    leaf_takes (built words_app) nothing_held (name ∷ words) refl
    (ap₂ (λ a b. a && b) walk_ok (ap₂ (λ a b. a && (true && b)) at.1.passes end_ok))
  where
    first_passes : turn_passes top [] start name ≡ true
    first_passes =
        let is = plain_word name plain in
        ap₂ (λ a (m : Held × Step). (is_some start.stopped || (a && step_passes top 1 m.0 m.1))) (ap₂ (λ b read. b || flag_word_passes rules false read name nothing_held) is.2 is.0
        ∙ ap (λ (flags : Option Text). option_map_or (λ f. bundle_passes rules false f nothing_held) flags true) is.1) (first_met name plain)

-- ---- words that are not plain mean nothing

-- the first character of an identifier is no hyphen
identifier_plain : (word : Text) → is_identifier (before_first (λ c. c == 61) word) ≡ true → is_plain word ≡ true
identifier_plain [] is = refl
identifier_plain (c ∷ cs) is = go (c == 45) refl
  where
    go : (b : Bool) → (c == 45) ≡ b → not (c == 45) ≡ true
    go false other = rw other refl
    go true same =
        let hyphen : c ≡ 45 = grind arith in
        let not_equals : (c == 61) ≡ false = subst (λ d. (d == 61) ≡ false) (sym hyphen) refl in
        let name_is : before_first (λ x. x == 61) (c ∷ cs) ≡ 45 ∷ before_first (λ x. x == 61) cs =
        before_first-later (λ x. x == 61) c cs not_equals ∙ ap (λ d. d ∷ before_first (λ x. x == 61) cs) hyphen in
        absurd (true≢false (sym is ∙ ap is_identifier name_is))

table_word_plain : (word : Text) → is_plain word ≡ false → table_word word ≡ None
table_word_plain word not_plain = go (is_identifier (before_first (λ c. c == 61) word)) refl
  where
    go : (b : Bool) → is_identifier (before_first (λ c. c == 61) word) ≡ b → table_word word ≡ None
    go true is = absurd (true≢false (sym (identifier_plain word is) ∙ not_plain))
    go false is = rw is refl

each_plain : (words : List Text) → list_all is_plain words ≡ false → each table_word words ≡ None
each_plain [] not_plain = absurd (true≢false not_plain)
each_plain (word ∷ words) not_plain = go (each_plain words) (is_plain word) refl
  where
    rest_none : {Y : Type 0} (first : Option Y) (rest : Option (List Y)) → rest ≡ None → option_and_then (λ y. option_map (λ ys. y ∷ ys) rest) first ≡ None
    rest_none (Some y) rest e = rw e refl
    rest_none None rest e = refl

    go : (list_all is_plain words ≡ false → each table_word words ≡ None) → (b : Bool) → is_plain word ≡ b → each table_word (word ∷ words) ≡ None
    go rest true is = rest_none (table_word word) (each table_word words) (rest (sym (ap (λ b. b && list_all is_plain words) is) ∙ not_plain))
    go rest false is = rw (table_word_plain word is) refl

count_plain : (words : List Text) → list_all is_plain words ≡ false → bench_count words ≡ None
count_plain [] not_plain = absurd (true≢false not_plain)
count_plain ([] ∷ []) not_plain = absurd (true≢false not_plain)
count_plain ((c ∷ cs) ∷ []) not_plain = go (c == 45) refl
  where
    go : (b : Bool) → (c == 45) ≡ b → bench_count ((c ∷ cs) ∷ []) ≡ None
    go false other = absurd (true≢false (sym (ap (λ b. not b && true) other) ∙ not_plain))
    go true same = let hyphen : c ≡ 45 = grind arith in rw hyphen refl
count_plain (word ∷ other ∷ words) not_plain = refl

script_plain : (name : Text) (counts : Bool) (words : List Text) → list_all is_plain words ≡ false → script_command name counts words ≡ None
script_plain name counts words not_plain =
    ap (λ tables. option_and_then (λ task. option_map (OnScript task) (if nat_le (length words) 8 then tables else None)) (task_named name counts))
    (each_plain words not_plain)
    ∙ none (nat_le (length words) 8) (task_named name counts)
  where
    none : (few : Bool) (task : Option Task) → option_and_then (λ t. option_map (OnScript t) (if few then None else None)) task ≡ None
    none few None = refl
    none true (Some t) = refl
    none false (Some t) = refl

words_plain : (name : Text) (counts : Bool) (words : List Text) → list_all is_plain words ≡ false → command_of name counts words ≡ None
words_plain name counts words not_plain = either (bytes_eq name (codes "bench")) counts
  where
    either : (b flag : Bool) → (if b then (if flag then None else option_map Bench (bench_count words)) else script_command name counts words) ≡ None
    either true true = refl
    either true false = ap (option_map Bench) (count_plain words not_plain)
    either false flag = script_plain name counts words not_plain

-- words that `clap` refuses are not accepted
pub refused : (name : Text) (words : List Text) → is_plain name ≡ true → (takes words_app (name ∷ words) ≡ true → ⊥) → accepted (name ∷ words) ≡ None
refused name words plain refuses = go (nat_le (stats_among words) 1) refl (list_all is_plain (operands words)) refl
  where
    le-from-test : nat_le (stats_among words) 1 ≡ true → stats_among words ≤ 1
    le-from-test few = grind arith

    go : (few : Bool) → nat_le (stats_among words) 1 ≡ few → (plains : Bool) → list_all is_plain (operands words) ≡ plains → accepted (name ∷ words) ≡ None
    go false many plains all = rw many refl
    go true few true all = absurd (refuses (taken name words plain all (le-from-test few)))
    go true few false some = rw few (words_plain name (stats_among words == 1) (operands words) some)

pub accepted_reads : (name : Text) (words : List Text) → stats_among words ≤ 1 → accepted (name ∷ words) ≡ command_of name (stats_among words == 1) (operands words)
accepted_reads name words most = let few : nat_le (stats_among words) 1 ≡ true = grind arith in rw few refl

pub flag_is : (counts flag : Bool) (o : Option Text) → o ≡ Some (bool_text counts) → (o ≡ Some (codes "true") → flag ≡ true)
    → (o ≡ Some (codes "false") → flag ≡ false) → flag ≡ counts
flag_is true flag o is stands lacks = stands is
flag_is false flag o is stands lacks = lacks is

-- a list that begins with a plain word has a first word
pub plain_first : (words : List Text) → begins_plain words ≡ true → (name : Text) × (further : List Text) × (words ≡ name ∷ further) × (is_plain name ≡ true)
plain_first [] plain = absurd (true≢false (sym plain))
plain_first (name ∷ further) plain = (name, further, refl, plain)
