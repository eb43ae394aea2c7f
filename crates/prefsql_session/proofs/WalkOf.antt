-- What `clap` makes of the words of a command line.
use Rattle.std.proofs.Common.{◌≡◌, ◌∙◌, ◌+◌, ℕ, take, drop, arith, List, [], ◌∷◌, Bool, true, false, not, ◌||◌, cond, Option, Some, None, refl, sym, ap, codes, length, suc, true≢false}
use Rattle.std.specs.List.{before_first, after_first, list_any, position_or_len}
use Rattle.std.specs.Str.{bytes_eq, chars}
use Rattle.std.specs.Prelude.{slice_get, ⊤, ◌==◌, unwrap_or, option_and_then}
use Rattle.std.proofs.lemmas.Option.{none-some}
use Rattle.std.proofs.lemmas.Slice.Eq.{bytes_eq-Decides}
use Rattle.clap.specs.Lexer.{name_and_value, has_byte, long_of_rest, strip_byte, long_of, short_of}
use Rattle.clap.specs.Simple.{built, with_index, filled}
use Rattle.clap.specs.Walk.{Held, subcommand_met, trailing, Outcome, Rule, Step, Text, Waiting, idle, option, positional, word_met, after_flag, plain_word, value, bundle_met, bundle_step, long_word, short_word, short_or_plain, long_or_other, flag_met, subcommand_or_other, plain}
use Rattle.prefsql_session.specs.CommandLine.{is_end, is_stats}
use Rattle.prefsql_session.specs.WordsApp.{stats_rule, words_app}

abbrev pub rules : List Rule
rules = (built words_app).top.rules

abbrev pub stats_built : Rule
stats_built = with_index 2 (filled stats_rule)

-- nothing waits for a value of an option
abbrev pub IsFree : Waiting → Type 0
IsFree idle = ⊤
IsFree (option id) = ⊥
IsFree positional = ⊤

pub plain_is_value : (waiting : Waiting) (word : Text) (h : Held) → IsFree waiting → plain_word rules waiting word h ≡ (h, value)
plain_is_value idle word h free = refl
plain_is_value (option id) word h free = absurd free
plain_is_value positional word h free = refl

-- a bundle has no flag that the command has
bundle_is_value : (waiting : Waiting) (word flags : Text) (h : Held) → IsFree waiting → h.skip ≡ 0 → short_word rules waiting word flags h ≡ (h, value)
unfolding bundle_met
bundle_is_value waiting word [] h free skip = (λ i. plain_word rules waiting word (record h { skip = sym skip i })) ∙ plain_is_value waiting word h free
bundle_is_value waiting word (x ∷ xs) h free skip = go (slice_get (chars (x ∷ xs)) 0)
  where
    kept : record h { skip = 0 } ≡ h
    kept = λ i. record h { skip = sym skip i }

    met : Option ℕ → ℕ → Held × Outcome
    met first skip = bundle_step rules first (x ∷ xs) skip plain (record h { skip = 0 }) (bundle_met rules (length xs))

    after : Option ℕ → ℕ → Held × Step
    after first skip = after_flag rules waiting word (met first skip).0 (met first skip).1

    of : (first : Option ℕ) → after first 0 ≡ (h, value)
    of None = plain_is_value waiting word _ free ∙ ap (λ g. (g, value)) kept
    of (Some y) = plain_is_value waiting word _ free ∙ ap (λ g. (g, value)) kept

    go : (first : Option ℕ) → after first h.skip ≡ (h, value)
    go first = ap (after first) skip ∙ of first

-- the option of a long name is `--stats` alone
long_is_value : (waiting : Waiting) (word name : Text) (v : Option Text) (h : Held) → IsFree waiting
    → ((v ≡ None) → bytes_eq (codes "stats") name ≡ true → ⊥) → long_word rules waiting word name v h ≡ (h, value)
long_is_value waiting word name v h free no_flag = go (bytes_eq (codes "stats") name) refl
  where
    go : (b : Bool) → bytes_eq (codes "stats") name ≡ b → long_word rules waiting word name v h ≡ (h, value)
    go false other = rw other (plain_is_value waiting word h free)
    go true same = rw same (with_value v refl)
      where
        with_value : (u : Option Text) → v ≡ u
            → after_flag rules waiting word (flag_met rules stats_built u h).0 (flag_met rules stats_built u h).1 ≡ (h, value)
        with_value None is = absurd (no_flag is same)
        with_value (Some text) is = plain_is_value waiting word h free

module _ {X : Type 0} (p : X → Bool) (x : X) (xs : List X) where
  pub before_first-here : p x ≡ true → before_first p (x ∷ xs) ≡ []
  before_first-here is = ap (λ b. take (cond (not b) (1 + position_or_len p xs) 0) (x ∷ xs)) is

  pub before_first-later : p x ≡ false → before_first p (x ∷ xs) ≡ x ∷ before_first p xs
  before_first-later is =
      let more : 1 + position_or_len p xs ≡ suc (position_or_len p xs) = omega arith in
      ap (λ b. take (cond (not b) (1 + position_or_len p xs) 0) (x ∷ xs)) is ∙ ap (λ n. take n (x ∷ xs)) more

  pub after_first-here : p x ≡ true → after_first p (x ∷ xs) ≡ xs
  after_first-here is = ap (λ b. drop (cond (not b) (1 + position_or_len p xs) 0 + 1) (x ∷ xs)) is

  pub after_first-later : p x ≡ false → after_first p (x ∷ xs) ≡ after_first p xs
  after_first-later is =
      let more : 1 + position_or_len p xs + 1 ≡ suc (position_or_len p xs + 1) = omega arith in
      ap (λ b. drop (cond (not b) (1 + position_or_len p xs) 0 + 1) (x ∷ xs)) is ∙ ap (λ n. drop n (x ∷ xs)) more

none_before : (p : ℕ → Bool) (xs : List ℕ) → list_any p xs ≡ false → before_first p xs ≡ xs
none_before p [] none = refl
none_before p (x ∷ xs) none = go (none_before p xs) (p x) refl
  where
    go : (list_any p xs ≡ false → before_first p xs ≡ xs) → (b : Bool) → p x ≡ b → before_first p (x ∷ xs) ≡ x ∷ xs
    go rest true is = absurd (true≢false (sym (ap (λ c. c || list_any p xs) is) ∙ none))
    go rest false is = before_first-later p x xs is ∙ ap (λ ys. x ∷ ys) (rest (sym (ap (λ c. c || list_any p xs) is) ∙ none))

-- the long name of the flag is read of the word `--stats` alone
stats_rest : (rest name : Text) → name_and_value rest ≡ (name, None) → bytes_eq (codes "stats") name ≡ true → bytes_eq rest (codes "stats") ≡ true
stats_rest rest name read same = go (has_byte 61 rest) refl
  where
    go : (b : Bool) → has_byte 61 rest ≡ b → bytes_eq rest (codes "stats") ≡ true
    go true is = absurd (none-some _ (sym (ap (λ (p : Text × Option Text). p.1) read) ∙ ap (λ b. cond b (Some (after_first (λ x. x == 61) rest)) None) is))
    go false is =
        let whole : rest ≡ name = sym (none_before (λ x. x == 61) rest is) ∙ ap (λ (p : Text × Option Text). p.0) read in
        let written : codes "stats" ≡ name = (bytes_eq-Decides (codes "stats") name).0 same in
        (bytes_eq-Decides rest (codes "stats")).1 (whole ∙ sym written)

third : (rest name : Text) → long_of_rest rest ≡ Some (name, None) → bytes_eq (codes "stats") name ≡ true → bytes_eq rest (codes "stats") ≡ true
third [] name read same = absurd (none-some _ read)
third (x ∷ xs) name read same = stats_rest (x ∷ xs) name (ap (λ o. unwrap_or o ([], None)) read) same

second : (cs name : Text) → option_and_then long_of_rest (strip_byte 45 cs) ≡ Some (name, None) → bytes_eq (codes "stats") name ≡ true
    → bytes_eq cs (codes "-stats") ≡ true
second [] name read same = absurd (none-some _ read)
second (d ∷ rest) name read same = go (d == 45) refl
  where
    as_long : Bool → Option (Text × Option Text)
    as_long b = option_and_then long_of_rest (cond b (Some rest) None)

    go : (b : Bool) → (d == 45) ≡ b → bytes_eq (d ∷ rest) (codes "-stats") ≡ true
    go false is = absurd (none-some _ (sym (ap as_long is) ∙ read))
    go true is = rw is (third rest name (sym (ap as_long is) ∙ read) same)

stats_read : (word name : Text) → long_of word ≡ Some (name, None) → bytes_eq (codes "stats") name ≡ true → is_stats word ≡ true
stats_read [] name read same = absurd (none-some _ read)
stats_read (c ∷ cs) name read same = go (c == 45) refl
  where
    as_long : Bool → Option (Text × Option Text)
    as_long b = option_and_then long_of_rest (option_and_then (strip_byte 45) (cond b (Some cs) None))

    go : (b : Bool) → (c == 45) ≡ b → is_stats (c ∷ cs) ≡ true
    go false is = absurd (none-some _ (sym (ap as_long is) ∙ read))
    go true is = rw is (second cs name (sym (ap as_long is) ∙ read) same)

pub none_met : (waiting : Waiting) (word : Text) → subcommand_met [] waiting word ≡ None
none_met idle word = refl
none_met (option id) word = refl
none_met positional word = refl

-- a word that is neither `--` nor `--stats` goes to a positional
pub word_is_value : (waiting : Waiting) (position : ℕ) (word : Text) (h : Held) → IsFree waiting → h.skip ≡ 0 → is_end word ≡ false → is_stats word ≡ false
    → word_met rules [] false waiting position word h ≡ (h, value)
word_is_value waiting position word h free skip no_end no_stats =
    ap (λ met. subcommand_or_other rules met waiting position word h) (none_met waiting word)
    ∙ ap (λ b. cond b (h, trailing position) (long_or_other rules waiting word (long_of word) h)) no_end ∙ by_long (long_of word) refl
  where
    by_short : (flags : Option Text) → short_or_plain rules waiting word flags h ≡ (h, value)
    by_short None = plain_is_value waiting word h free
    by_short (Some flags) = bundle_is_value waiting word flags h free skip

    by_long : (read : Option (Text × Option Text)) → long_of word ≡ read → long_or_other rules waiting word read h ≡ (h, value)
    by_long None is = by_short (short_of word)
    by_long (Some p) is = long_is_value waiting word p.0 p.1 h free
        (λ no_value same. true≢false (sym (stats_read word p.0 (is ∙ ap (λ v. Some (p.0, v)) no_value) same) ∙ no_stats))
