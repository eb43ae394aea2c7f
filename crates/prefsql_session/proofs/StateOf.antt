-- Where `clap`'s walk over the words of a command line stands after each word.
use Rattle.std.proofs.Common.{◌≡◌, ◌∙◌, ℕ, List, [], ◌∷◌, ◌++◌, Bool, true, false, ◌&&◌, ◌||◌, cond, if◌then◌else◌, Some, None, refl, sym, ap, ap₂, codes, subst}
use Rattle.std.specs.List.{fold}
use Rattle.std.proofs.lemmas.Slice.Eq.{bytes_eq-Decides}
use Rattle.clap.specs.Lexer.{long_of}
use Rattle.clap.specs.Simple.{with_index, filled}
use Rattle.clap.specs.Takes.{settle_passes}
use Rattle.clap.specs.Walk.{Held, option, subcommand_or_other, long_or_other, Row, Rule, Step, Text, Waiting, Walk, after_step, arg_by_index, idle, is_pending, next, positional, pushed, reacted, settled, settled_rows, to_positional, trailing, used, value, walked, walked_from, word_met}
use Rattle.clap.specs.declared.builder.value_parser.Reading.TheVariants.{AsWritten}
use Rattle.clap.specs.declared.parser.matches.ValueSource.TheVariants.{CommandLine}
use Rattle.prefsql_session.specs.CommandLine.{is_end, is_stats}
use Rattle.prefsql_session.specs.WordsApp.{words_rule}
use Rattle.prefsql_session.proofs.WalkOf.{IsFree, none_met, word_is_value, rules, stats_built}

abbrev pub words_built : Rule
words_built = with_index 2 (filled words_rule)

-- what the words so far came to, in the order in which `clap` keeps it: the command, and then the operands and the flag
pub data Layout : Type 0 where
  bare : Layout
  operands_alone : List Text → Layout
  stats_alone : Layout
  operands_first : List Text → Layout
  stats_first : List Text → Layout

abbrev row : Text → List Text → Row
row id values = record { id = id; values = values; count = None; source = Some CommandLine; reading = AsWritten }

abbrev stats_row : Row
stats_row = row (codes "stats") (codes "true" ∷ [])

abbrev pub rows_in : Text → Layout → List Row
rows_in name bare = row (codes "command") (name ∷ []) ∷ []
rows_in name (operands_alone values) = row (codes "command") (name ∷ []) ∷ row (codes "words") values ∷ []
rows_in name stats_alone = row (codes "command") (name ∷ []) ∷ stats_row ∷ []
rows_in name (operands_first values) = row (codes "command") (name ∷ []) ∷ row (codes "words") values ∷ stats_row ∷ []
rows_in name (stats_first values) = row (codes "command") (name ∷ []) ∷ stats_row ∷ row (codes "words") values ∷ []

abbrev pub with_operand : Text → Layout → Layout
with_operand word bare = operands_alone (word ∷ [])
with_operand word (operands_alone values) = operands_alone (values ++ word ∷ [])
with_operand word stats_alone = stats_first (word ∷ [])
with_operand word (operands_first values) = operands_first (values ++ word ∷ [])
with_operand word (stats_first values) = stats_first (values ++ word ∷ [])

abbrev pub with_stats : Layout → Layout
with_stats bare = stats_alone
with_stats (operands_alone values) = operands_first values
with_stats stats_alone = stats_alone
with_stats (operands_first values) = operands_first values
with_stats (stats_first values) = operands_first values

operand_rows : (name word : Text) (layout : Layout) → used words_built (word ∷ []) (rows_in name layout) ≡ rows_in name (with_operand word layout)
operand_rows name word bare = refl
operand_rows name word (operands_alone values) = refl
operand_rows name word stats_alone = refl
operand_rows name word (operands_first values) = refl
operand_rows name word (stats_first values) = refl

stats_rows : (name : Text) (layout : Layout) → used stats_built [] (rows_in name layout) ≡ rows_in name (with_stats layout)
stats_rows name bare = refl
stats_rows name (operands_alone values) = refl
stats_rows name stats_alone = refl
stats_rows name (operands_first values) = refl
stats_rows name (stats_first values) = refl

-- the walk stands after the command and these further words; `ended` says that `--` is among them
pub record At (name : Text) (layout : Layout) (ended : Bool) (w : Walk) : Type 0 where
  pub stopped : w.stopped ≡ None
  pub position : w.position ≡ 2
  pub trailing : w.is_trailing ≡ ended
  pub waiting : IsFree w.waiting
  pub skip : w.held.skip ≡ 0
  pub rows : settled_rows rules w.held.pending w.held.rows ≡ rows_in name layout
  pub passes : settle_passes rules false w.held ≡ true

-- the walk after a word that went to the further words
operand_walk : (w : Walk) (word : Text) → w.stopped ≡ None → w.position ≡ 2 → word_met rules [] w.is_trailing w.waiting w.position word w.held ≡ (w.held, value)
    → walked rules [] w word ≡ record {
      held = pushed (codes "words") word (settled rules w.held);
      waiting = positional;
      position = 2;
      is_trailing = w.is_trailing;
      stopped = None;
    }
unfolding walked
operand_walk w word stopped position met =
    ap (λ stop. walked_from rules [] stop w word) stopped
    ∙ ap (λ (m : Held × Step). after_step rules word w m.0 m.1) met
    ∙ ap (λ n. to_positional rules (arg_by_index rules n) word (record w { position = n }) w.held) position
    ∙ ap₂ (λ (g : Held) (t : Bool). record { held = pushed (codes "words") word g; waiting = positional; position = 2; is_trailing = t; stopped = None })
    (kept (is_pending words_built w.held.pending)) (or_false w.is_trailing)
  where
    kept : (b : Bool) → cond (b && false) w.held (settled rules w.held) ≡ settled rules w.held
    kept false = refl
    kept true = refl

    or_false : (b : Bool) → (b || false) ≡ b
    or_false false = refl
    or_false true = refl

pub operand_step : (name word : Text) (layout : Layout) (ended : Bool) (w : Walk) → At name layout ended w
    → word_met rules [] w.is_trailing w.waiting w.position word w.held ≡ (w.held, value) → At name (with_operand word layout) ended (walked rules [] w word)
operand_step name word layout ended w at met =
    subst (At name (with_operand word layout) ended) (sym (operand_walk w word at.stopped at.position met)) (record {
      stopped = refl;
      position = refl;
      trailing = at.trailing;
      waiting = tt;
      skip = at.skip;
      rows = ap (used words_built (word ∷ [])) at.rows ∙ operand_rows name word layout;
      passes = refl;
    })

pub stats_step : (name : Text) (layout : Layout) (w : Walk) (word : Text) → At name layout false w → word ≡ codes "--stats"
    → At name (with_stats layout) false (walked rules [] w word)
unfolding walked
stats_step name layout w word at written = subst (λ v. At name (with_stats layout) false (walked rules [] w v)) (sym written) (subst (At name (with_stats layout) false) (sym is) (record {
  stopped = refl;
  position = at.position;
  trailing = refl;
  waiting = tt;
  skip = at.skip;
  rows = ap (used stats_built []) at.rows ∙ stats_rows name layout;
  passes = refl;
}))
  where
    by_waiting : (waiting : Waiting) (position : ℕ) (h : Held) → word_met rules [] false waiting position (codes "--stats") h ≡ (reacted rules stats_built [] h, next idle)
    by_waiting idle position h = refl
    by_waiting (option id) position h = refl
    by_waiting positional position h = refl

    is : walked rules [] w (codes "--stats") ≡ record {
      held = reacted rules stats_built [] w.held;
      waiting = idle;
      position = w.position;
      is_trailing = false;
      stopped = None;
    }
    is = ap (λ stop. walked_from rules [] stop (record w { stopped = stop }) (codes "--stats")) at.stopped
        ∙ ap (λ t. walked_from rules [] None (record w { stopped = None; is_trailing = t }) (codes "--stats")) at.trailing
        ∙ ap (λ (m : Held × Step). after_step rules (codes "--stats") (record w { stopped = None; is_trailing = false }) m.0 m.1) (by_waiting w.waiting w.position w.held)

pub end_step : (name : Text) (layout : Layout) (w : Walk) (word : Text) → At name layout false w → is_end word ≡ true
    → At name layout true (walked rules [] w word)
unfolding walked
end_step name layout w word at ends = subst (At name layout true) (sym is) (record {
  stopped = refl;
  position = at.position;
  trailing = refl;
  waiting = at.waiting;
  skip = at.skip;
  rows = at.rows;
  passes = at.passes;
})
  where
    is : walked rules [] w word ≡ record w { is_trailing = true; stopped = None }
    is = ap (λ stop. walked_from rules [] stop (record w { stopped = stop }) word) at.stopped
        ∙ ap (λ t. walked_from rules [] None (record w { stopped = None; is_trailing = t }) word) at.trailing
        ∙ ap (λ (m : Held × Step). after_step rules word (record w { stopped = None; is_trailing = false }) m.0 m.1) (met w.waiting w.position w.held)
      where
        met : (waiting : Waiting) (position : ℕ) (h : Held) → word_met rules [] false waiting position word h ≡ (h, trailing position)
        met waiting position h =
            ap (λ m. subcommand_or_other rules m waiting position word h) (none_met waiting word)
            ∙ ap (λ b. cond b (h, trailing position) (long_or_other rules waiting word (long_of word) h)) ends

-- what the further words come to
abbrev pub follow : Bool → Layout → List Text → Layout
follow ended layout [] = layout
follow true layout (word ∷ words) = follow true (with_operand word layout) words
follow false layout (word ∷ words) =
    if is_end word then follow true layout words
    else if is_stats word then follow false (with_stats layout) words
    else follow false (with_operand word layout) words

-- where the walk stands after them
pub walk_follows : (name : Text) (layout : Layout) (ended : Bool) (w : Walk) (words : List Text) → At name layout ended w
    → (finally : Bool) × At name (follow ended layout words) finally (fold (walked rules []) w words)
walk_follows name layout ended w [] at = (ended, at)
walk_follows name layout true w (word ∷ words) at =
    walk_follows name (with_operand word layout) true (walked rules [] w word) words
    (operand_step name word layout true w at (ap (λ t. word_met rules [] t w.waiting w.position word w.held) at.trailing))
walk_follows name layout false w (word ∷ words) at = go
    (λ ends. walk_follows name layout true (walked rules [] w word) words (end_step name layout w word at ends))
    (λ stats. walk_follows name (with_stats layout) false (walked rules [] w word) words (stats_step name layout w word at ((bytes_eq-Decides word (codes "--stats")).0 stats)))
    (λ no_end no_stats. walk_follows name (with_operand word layout) false (walked rules [] w word) words
    (operand_step name word layout false w at (ap (λ t. word_met rules [] t w.waiting w.position word w.held) at.trailing
    ∙ word_is_value w.waiting w.position word w.held at.waiting at.skip no_end no_stats)))
    (is_end word) refl (is_stats word) refl
  where
    Reaches : Layout → Type 0
    Reaches end = (finally : Bool) × At name end finally (fold (walked rules []) (walked rules [] w word) words)

    go : (is_end word ≡ true → Reaches (follow true layout words)) → (is_stats word ≡ true → Reaches (follow false (with_stats layout) words))
        → (is_end word ≡ false → is_stats word ≡ false → Reaches (follow false (with_operand word layout) words))
        → (e : Bool) → is_end word ≡ e → (s : Bool) → is_stats word ≡ s → Reaches (follow false layout (word ∷ words))
    go by_end by_stats by_operand true ends s stats = rw ends (by_end ends)
    go by_end by_stats by_operand false no_end true stats = rw (no_end, stats) (by_stats stats)
    go by_end by_stats by_operand false no_end false no_stats = rw (no_end, no_stats) (by_operand no_end no_stats)
