-- When `clap` takes the words of a command line, and what it refuses.
use Rattle.std.proofs.Common.{◌≡◌, ◌∙◌, ◌+◌, ◌≤◌, ℕ, List, [], ◌∷◌, Bool, true, false, not, ◌&&◌, ◌||◌, if◌then◌else◌, Option, Some, None, refl, sym, ap, ap₂, codes, arith, true≢false, is_some}
use Rattle.std.specs.List.{list_all}
use Rattle.std.specs.Prelude.{◌==◌}
use Rattle.std.proofs.lemmas.Slice.Eq.{bytes_eq-Decides}
use Rattle.std.specs.Option.{option_map_or}
use Rattle.clap.proofs.WalkLemmas.{both}
use Rattle.clap.specs.Lexer.{long_of, short_of}
use Rattle.clap.specs.Faults.{react_fault, use_fault, turn_fault, walk_fault, word_fault, step_fault}
use Rattle.clap.specs.Kinds.{Kinds, or_else}
use Rattle.clap.specs.Simple.{Shape, built}
use Rattle.clap.specs.Takes.{bundle_passes, other_passes, react_passes, step_passes, word_passes, flag_word_passes, turn_passes, use_passes, walk_passes}
use Rattle.clap.specs.Walk.{Held, is_pending, idle, option, positional, Step, Text, Waiting, Walk, walked, word_met, value}
use Rattle.prefsql_session.specs.CommandLine.{is_plain, is_end, is_stats, operands, stats_among}
use Rattle.prefsql_session.specs.WordsApp.{words_app}
use Rattle.prefsql_session.proofs.WalkOf.{none_met, rules, stats_built, word_is_value}
use Rattle.prefsql_session.proofs.StateOf.{words_built, At, Layout, bare, operands_alone, stats_alone, operands_first, stats_first, end_step, operand_step, rows_in, stats_step, with_operand, with_stats}
use Rattle.prefsql_session.proofs.Follow.{among-end, among-operand, among-stats, operands-operand, operands-stats, stats-operand, stats-stats, stats_in, stats_in-most}

abbrev pub top : Shape
top = (built words_app).top

-- ---- the flag at most once

abbrev is_none : Kinds → Bool
is_none [] = true
is_none (k ∷ ks) = false

pub kinds_left : (first next : Kinds) → or_else first next ≡ [] → (first ≡ []) × (next ≡ [])
kinds_left [] next none = (refl, none)
kinds_left (k ∷ ks) next none = absurd (true≢false (sym (ap is_none none)))

repeated : (name : Text) (layout : Layout) → use_fault false stats_built [] (rows_in name layout) ≡ [] → stats_in layout ≡ 0
repeated name bare none = refl
repeated name (operands_alone values) none = refl
repeated name stats_alone none = absurd (true≢false (sym (ap is_none none)))
repeated name (operands_first values) none = absurd (true≢false (sym (ap is_none none)))
repeated name (stats_first values) none = absurd (true≢false (sym (ap is_none none)))

abbrev turn : Option (Text × List Text) → Bool → Walk → Text → Kinds
turn stop t w word =
    let met = word_met rules [] t w.waiting w.position word w.held in
    if is_some stop then [] else or_else (word_fault top [] t w.waiting word w.held) (step_fault top w.position met.0 met.1)

stats_once : (name : Text) (layout : Layout) (w : Walk) (word : Text) → At name layout false w → word ≡ codes "--stats" → turn_fault top [] w word ≡ [] → stats_in layout ≡ 0
stats_once name layout w word at written none =
    let now : turn None false w (codes "--stats") ≡ [] = sym (ap (λ stop. turn stop w.is_trailing w word) at.stopped ∙ ap₂ (λ t v. turn None t w v) at.trailing written) ∙ none in
    let here : word_fault top [] false w.waiting (codes "--stats") w.held ≡ [] = (kinds_left _ _ now).0 in
    repeated name layout (ap (use_fault false stats_built []) (sym at.rows) ∙ (kinds_left _ _ (by_waiting w.waiting here)).1)
  where
    by_waiting : (waiting : Waiting) → word_fault top [] false waiting (codes "--stats") w.held ≡ [] → react_fault rules false stats_built [] w.held ≡ []
    by_waiting idle none = none
    by_waiting (option id) none = none
    by_waiting positional none = none

pub stats_most : (name : Text) (layout : Layout) (w : Walk) (words : List Text) → At name layout false w → walk_fault top [] w words ≡ [] → stats_in layout + stats_among words ≤ 1
unfolding walk_fault
stats_most name layout w [] at none = omega (arith, stats_in-most layout)
stats_most name layout w (word ∷ words) at none = go
    (λ ends. omega (arith, among-end word words ends, stats_in-most layout))
    (λ no_end stats.
    let written = (bytes_eq-Decides word (codes "--stats")).0 stats in
    let after = stats_most name (with_stats layout) (walked rules [] w word) words (stats_step name layout w word at written) (kinds_left _ _ none).1 in
    omega (arith, after, stats-stats layout, stats_once name layout w word at written (kinds_left _ _ none).0, among-stats word words no_end stats))
    (λ no_end no_stats.
    let met = ap (λ t. word_met rules [] t w.waiting w.position word w.held) at.trailing ∙ word_is_value w.waiting w.position word w.held at.waiting at.skip no_end no_stats in
    let after = stats_most name (with_operand word layout) (walked rules [] w word) words (operand_step name word layout false w at met) (kinds_left _ _ none).1 in
    omega (arith, after, stats-operand word layout, among-operand word words no_end no_stats))
    (is_end word) refl (is_stats word) refl
  where
    Holds : Type 0
    Holds = stats_in layout + stats_among (word ∷ words) ≤ 1

    go : (is_end word ≡ true → Holds) → (is_end word ≡ false → is_stats word ≡ true → Holds) → (is_end word ≡ false → is_stats word ≡ false → Holds)
        → (e : Bool) → is_end word ≡ e → (s : Bool) → is_stats word ≡ s → Holds
    go by_end by_stats by_operand true ends s stats = by_end ends
    go by_end by_stats by_operand false no_end true stats = by_stats no_end stats
    go by_end by_stats by_operand false no_end false no_stats = by_operand no_end no_stats

-- ---- words that are taken

pub plain_word : (word : Text) → is_plain word ≡ true → (long_of word ≡ None) × (short_of word ≡ None) × (is_end word ≡ false) × (is_stats word ≡ false)
plain_word [] plain = (refl, refl, refl, refl)
plain_word (c ∷ cs) plain = go (c == 45) refl plain
  where
    go : (b : Bool) → (c == 45) ≡ b → not b ≡ true
        → (long_of (c ∷ cs) ≡ None) × (short_of (c ∷ cs) ≡ None) × (is_end (c ∷ cs) ≡ false) × (is_stats (c ∷ cs) ≡ false)
    go false is plain = rw is (refl, refl, refl, refl)
    go true is plain = absurd (true≢false (sym plain))

abbrev turn_with : Option (Text × List Text) → ℕ → Bool → Held × Step → Bool
turn_with stop position word_ok met = is_some stop || (word_ok && step_passes top position met.0 met.1)

operand_passes : (name : Text) (layout : Layout) (ended : Bool) (w : Walk) (word : Text) → At name layout ended w
    → word_met rules [] w.is_trailing w.waiting w.position word w.held ≡ (w.held, value) → word_passes top [] w.is_trailing w.waiting word w.held ≡ true
    → turn_passes top [] w word ≡ true
operand_passes name layout ended w word at met passes =
    ap (λ (m : Held × Step). turn_with w.stopped w.position (word_passes top [] w.is_trailing w.waiting word w.held) m) met
    ∙ ap₂ (λ stop b. turn_with stop w.position b (w.held, value)) at.stopped passes
    ∙ ap (λ n. turn_with None n true (w.held, value)) at.position
    ∙ ap (λ b. (is_pending words_built w.held.pending && false) || b) at.passes ∙ or_true (is_pending words_built w.held.pending && false)
  where
    or_true : (b : Bool) → (b || true) ≡ true
    or_true false = refl
    or_true true = refl

-- a plain word is no call of `clap`'s own
plain_passes : (w : Walk) (word : Text) → is_plain word ≡ true → word_passes top [] false w.waiting word w.held ≡ true
plain_passes w word plain =
    let is = plain_word word plain in
    ap (λ met. other_passes top met word w.held) (none_met w.waiting word)
    ∙ ap₂ (λ b read. b || flag_word_passes rules false read word w.held) is.2 is.0
    ∙ ap (λ (flags : Option Text). option_map_or (λ f. bundle_passes rules false f w.held) flags true) is.1

no_row : (name : Text) (layout : Layout) → stats_in layout ≡ 0 → use_passes false stats_built [] (rows_in name layout) ≡ true
no_row name bare none = refl
no_row name (operands_alone values) none = refl
no_row name stats_alone none = absurd (omega (arith, none))
no_row name (operands_first values) none = absurd (omega (arith, none))
no_row name (stats_first values) none = absurd (omega (arith, none))

stats_passes : (name : Text) (layout : Layout) (w : Walk) (word : Text) → At name layout false w → word ≡ codes "--stats" → stats_in layout ≡ 0 → turn_passes top [] w word ≡ true
stats_passes name layout w word at written none =
    ap₂ (λ t (v : Text). turn_with w.stopped w.position (word_passes top [] t w.waiting v w.held) (word_met rules [] t w.waiting w.position v w.held)) at.trailing written
    ∙ by_waiting w.waiting w.stopped
  where
    reacts : react_passes rules false stats_built [] w.held ≡ true
    reacts = ap₂ (λ a b. a && b) at.passes (ap (use_passes false stats_built []) at.rows ∙ no_row name layout none)

    by_waiting : (waiting : Waiting) (stop : Option (Text × List Text))
        → turn_with stop w.position (word_passes top [] false waiting (codes "--stats") w.held) (word_met rules [] false waiting w.position (codes "--stats") w.held) ≡ true
    by_waiting waiting (Some p) = refl
    by_waiting idle None = ap (λ b. b && true) reacts
    by_waiting (option id) None = ap (λ b. b && true) reacts
    by_waiting positional None = ap (λ b. b && true) reacts

end_passes : (name : Text) (layout : Layout) (w : Walk) (word : Text) → At name layout false w → is_end word ≡ true → turn_passes top [] w word ≡ true
end_passes name layout w word at ends =
    let written = (bytes_eq-Decides word (codes "--")).0 ends in
    ap₂ (λ t (v : Text). turn_with w.stopped w.position (word_passes top [] t w.waiting v w.held) (word_met rules [] t w.waiting w.position v w.held)) at.trailing written
    ∙ by_waiting w.waiting w.stopped
  where
    by_waiting : (waiting : Waiting) (stop : Option (Text × List Text))
        → turn_with stop w.position (word_passes top [] false waiting (codes "--") w.held) (word_met rules [] false waiting w.position (codes "--") w.held) ≡ true
    by_waiting waiting (Some p) = refl
    by_waiting idle None = refl
    by_waiting (option id) None = refl
    by_waiting positional None = refl

pub ended_passes : (name : Text) (layout : Layout) (w : Walk) (words : List Text) → At name layout true w → walk_passes top [] w words ≡ true
unfolding walk_passes
ended_passes name layout w [] at = refl
ended_passes name layout w (word ∷ words) at =
    let met = ap (λ t. word_met rules [] t w.waiting w.position word w.held) at.trailing in
    ap₂ (λ a b. a && b) (operand_passes name layout true w word at met (ap (λ t. word_passes top [] t w.waiting word w.held) at.trailing))
    (ended_passes name (with_operand word layout) (walked rules [] w word) words (operand_step name word layout true w at met))

pub words_pass : (name : Text) (layout : Layout) (w : Walk) (words : List Text) → At name layout false w → list_all is_plain (operands words) ≡ true
    → stats_in layout + stats_among words ≤ 1 → walk_passes top [] w words ≡ true
unfolding walk_passes
words_pass name layout w [] at plain most = refl
words_pass name layout w (word ∷ words) at plain most = go
    (λ ends. ap₂ (λ a b. a && b) (end_passes name layout w word at ends)
    (ended_passes name layout (walked rules [] w word) words (end_step name layout w word at ends)))
    (λ no_end stats.
    let written = (bytes_eq-Decides word (codes "--stats")).0 stats in
    ap₂ (λ a b. a && b) (stats_passes name layout w word at written (omega (arith, most, among-stats word words no_end stats)))
    (words_pass name (with_stats layout) (walked rules [] w word) words (stats_step name layout w word at written)
    (ap (list_all is_plain) (sym (operands-stats word words no_end stats)) ∙ plain) (omega (arith, most, stats-stats layout, among-stats word words no_end stats))))
    (λ no_end no_stats.
    let met = ap (λ t. word_met rules [] t w.waiting w.position word w.held) at.trailing ∙ word_is_value w.waiting w.position word w.held at.waiting at.skip no_end no_stats in
    let each = both _ _ (ap (list_all is_plain) (sym (operands-operand word words no_end no_stats)) ∙ plain) in
    ap₂ (λ a b. a && b) (operand_passes name layout false w word at met
    (ap (λ t. word_passes top [] t w.waiting word w.held) at.trailing ∙ plain_passes w word each.0))
    (words_pass name (with_operand word layout) (walked rules [] w word) words (operand_step name word layout false w at met) each.1
    (omega (arith, most, stats-operand word layout, among-operand word words no_end no_stats))))
    (is_end word) refl (is_stats word) refl
  where
    Holds : Type 0
    Holds = (turn_passes top [] w word && walk_passes top [] (walked rules [] w word) words) ≡ true

    go : (is_end word ≡ true → Holds) → (is_end word ≡ false → is_stats word ≡ true → Holds) → (is_end word ≡ false → is_stats word ≡ false → Holds)
        → (e : Bool) → is_end word ≡ e → (s : Bool) → is_stats word ≡ s → Holds
    go by_end by_stats by_operand true ends s stats = by_end ends
    go by_end by_stats by_operand false no_end true stats = by_stats no_end stats
    go by_end by_stats by_operand false no_end false no_stats = by_operand no_end no_stats
