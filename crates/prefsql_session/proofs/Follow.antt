-- What the further words of a command line come to, in the words of its definition.
use Rattle.std.proofs.Common.{◌≡◌, ◌∙◌, ◌+◌, ◌≤◌, ℕ, List, [], ◌∷◌, ◌++◌, Bool, true, false, not, cond, refl, sym, ap, ap₂, arith, append-nil, append_assoc, nat_lt, count_by, filter}
use Rattle.std.specs.List.{before_first, after_first}
use Rattle.std.proofs.lemmas.List.Sums.{sum_by-cons}
use Rattle.clap.specs.Walk.{Text}
use Rattle.prefsql_session.specs.CommandLine.{is_end, is_stats, operands, stats_among}
use Rattle.prefsql_session.proofs.WalkOf.{before_first-here, before_first-later, after_first-here, after_first-later}
use Rattle.prefsql_session.proofs.StateOf.{Layout, bare, operands_alone, stats_alone, operands_first, stats_first, with_operand, with_stats, follow}

-- ---- the definition, word by word

module _ (word : Text) (words : List Text) where
  pub operands-end : is_end word ≡ true → operands (word ∷ words) ≡ words
  operands-end ends =
      ap₂ (λ (xs ys : List Text). filter (λ w. not (is_stats w)) xs ++ ys) (before_first-here is_end word words ends) (after_first-here is_end word words ends)

  later : is_end word ≡ false → operands (word ∷ words) ≡ filter (λ w. not (is_stats w)) (word ∷ before_first is_end words) ++ after_first is_end words
  later no_end =
      ap₂ (λ (xs ys : List Text). filter (λ w. not (is_stats w)) xs ++ ys) (before_first-later is_end word words no_end) (after_first-later is_end word words no_end)

  pub operands-stats : is_end word ≡ false → is_stats word ≡ true → operands (word ∷ words) ≡ operands words
  operands-stats no_end stats = later no_end
      ∙ ap (λ b. cond (not b) (word ∷ filter (λ w. not (is_stats w)) (before_first is_end words)) (filter (λ w. not (is_stats w)) (before_first is_end words)) ++ after_first is_end words) stats

  pub operands-operand : is_end word ≡ false → is_stats word ≡ false → operands (word ∷ words) ≡ word ∷ operands words
  operands-operand no_end no_stats = later no_end
      ∙ ap (λ b. cond (not b) (word ∷ filter (λ w. not (is_stats w)) (before_first is_end words)) (filter (λ w. not (is_stats w)) (before_first is_end words)) ++ after_first is_end words) no_stats

  pub among-end : is_end word ≡ true → stats_among (word ∷ words) ≡ 0
  among-end ends = ap (count_by is_stats) (before_first-here is_end word words ends)

  pub among-stats : is_end word ≡ false → is_stats word ≡ true → stats_among (word ∷ words) ≡ 1 + stats_among words
  among-stats no_end stats = ap (count_by is_stats) (before_first-later is_end word words no_end)
      ∙ sum_by-cons (λ w. cond (is_stats w) 1 0) word (before_first is_end words)
      ∙ ap (λ b. cond b 1 0 + count_by is_stats (before_first is_end words)) stats

  pub among-operand : is_end word ≡ false → is_stats word ≡ false → stats_among (word ∷ words) ≡ stats_among words
  among-operand no_end no_stats = ap (count_by is_stats) (before_first-later is_end word words no_end)
      ∙ sum_by-cons (λ w. cond (is_stats w) 1 0) word (before_first is_end words)
      ∙ ap (λ b. cond b 1 0 + count_by is_stats (before_first is_end words)) no_stats ∙ omega arith

-- ---- what a layout holds

abbrev pub values_in : Layout → List Text
values_in bare = []
values_in (operands_alone values) = values
values_in stats_alone = []
values_in (operands_first values) = values
values_in (stats_first values) = values

-- how often it holds the flag
abbrev pub stats_in : Layout → ℕ
stats_in bare = 0
stats_in (operands_alone values) = 0
stats_in stats_alone = 1
stats_in (operands_first values) = 1
stats_in (stats_first values) = 1

pub values-operand : (word : Text) (layout : Layout) → values_in (with_operand word layout) ≡ values_in layout ++ word ∷ []
values-operand word bare = refl
values-operand word (operands_alone values) = refl
values-operand word stats_alone = refl
values-operand word (operands_first values) = refl
values-operand word (stats_first values) = refl

pub values-stats : (layout : Layout) → values_in (with_stats layout) ≡ values_in layout
values-stats bare = refl
values-stats (operands_alone values) = refl
values-stats stats_alone = refl
values-stats (operands_first values) = refl
values-stats (stats_first values) = refl

pub stats-operand : (word : Text) (layout : Layout) → stats_in (with_operand word layout) ≡ stats_in layout
stats-operand word bare = refl
stats-operand word (operands_alone values) = refl
stats-operand word stats_alone = refl
stats-operand word (operands_first values) = refl
stats-operand word (stats_first values) = refl

pub stats-stats : (layout : Layout) → stats_in (with_stats layout) ≡ 1
stats-stats bare = refl
stats-stats (operands_alone values) = refl
stats-stats stats_alone = refl
stats-stats (operands_first values) = refl
stats-stats (stats_first values) = refl

pub stats_in-most : (layout : Layout) → stats_in layout ≤ 1
stats_in-most bare = omega arith
stats_in-most (operands_alone values) = omega arith
stats_in-most stats_alone = omega arith
stats_in-most (operands_first values) = omega arith
stats_in-most (stats_first values) = omega arith

-- ---- what the words come to

abbrev left_of : Bool → List Text → List Text
left_of true words = words
left_of false words = operands words

abbrev stats_left : Bool → List Text → ℕ
stats_left true words = 0
stats_left false words = stats_among words

pub values-follow : (ended : Bool) (layout : Layout) (words : List Text) → values_in (follow ended layout words) ≡ values_in layout ++ left_of ended words
values-follow true layout [] = sym (append-nil (values_in layout))
values-follow false layout [] = sym (append-nil (values_in layout))
values-follow true layout (word ∷ words) =
    values-follow true (with_operand word layout) words ∙ ap (λ xs. xs ++ words) (values-operand word layout) ∙ append_assoc (values_in layout) (word ∷ []) words
values-follow false layout (word ∷ words) = go (values-follow true layout words) (values-follow false (with_stats layout) words) (values-follow false (with_operand word layout) words)
    (is_end word) refl (is_stats word) refl
  where
    go : values_in (follow true layout words) ≡ values_in layout ++ words
        → values_in (follow false (with_stats layout) words) ≡ values_in (with_stats layout) ++ operands words
        → values_in (follow false (with_operand word layout) words) ≡ values_in (with_operand word layout) ++ operands words
        → (e : Bool) → is_end word ≡ e → (s : Bool) → is_stats word ≡ s
        → values_in (cond e (follow true layout words) (cond s (follow false (with_stats layout) words) (follow false (with_operand word layout) words)))
        ≡ values_in layout ++ operands (word ∷ words)
    go by_end by_stats by_operand true ends s stats = by_end ∙ ap (λ xs. values_in layout ++ xs) (sym (operands-end word words ends))
    go by_end by_stats by_operand false no_end true stats =
        by_stats ∙ ap₂ (λ (xs ys : List Text). xs ++ ys) (values-stats layout) (sym (operands-stats word words no_end stats))
    go by_end by_stats by_operand false no_end false no_stats =
        by_operand ∙ ap (λ xs. xs ++ operands words) (values-operand word layout) ∙ append_assoc (values_in layout) (word ∷ []) (operands words)
        ∙ ap (λ xs. values_in layout ++ xs) (sym (operands-operand word words no_end no_stats))

-- the flag stands where it stood or comes among the words
pub stats-follow : (ended : Bool) (layout : Layout) (words : List Text) → nat_lt 0 (stats_in (follow ended layout words)) ≡ nat_lt 0 (stats_in layout + stats_left ended words)
stats-follow true layout [] = grind arith
stats-follow false layout [] = grind arith
stats-follow true layout (word ∷ words) = stats-follow true (with_operand word layout) words ∙ ap (λ n. nat_lt 0 (n + 0)) (stats-operand word layout)
stats-follow false layout (word ∷ words) = go (stats-follow true layout words) (stats-follow false (with_stats layout) words) (stats-follow false (with_operand word layout) words)
    (is_end word) refl (is_stats word) refl
  where
    go : nat_lt 0 (stats_in (follow true layout words)) ≡ nat_lt 0 (stats_in layout + 0)
        → nat_lt 0 (stats_in (follow false (with_stats layout) words)) ≡ nat_lt 0 (stats_in (with_stats layout) + stats_among words)
        → nat_lt 0 (stats_in (follow false (with_operand word layout) words)) ≡ nat_lt 0 (stats_in (with_operand word layout) + stats_among words)
        → (e : Bool) → is_end word ≡ e → (s : Bool) → is_stats word ≡ s
        → nat_lt 0 (stats_in (cond e (follow true layout words) (cond s (follow false (with_stats layout) words) (follow false (with_operand word layout) words))))
        ≡ nat_lt 0 (stats_in layout + stats_among (word ∷ words))
    go by_end by_stats by_operand true ends s stats = by_end ∙ ap (λ n. nat_lt 0 (stats_in layout + n)) (sym (among-end word words ends))
    go by_end by_stats by_operand false no_end true stats =
        by_stats ∙ both_some (stats_in (with_stats layout) + stats_among words) (stats_in layout + stats_among (word ∷ words))
        (ap (λ n. n + stats_among words) (stats-stats layout)) (ap (λ n. stats_in layout + n) (among-stats word words no_end stats))
      where
        both_some : (m n : ℕ) → m ≡ 1 + stats_among words → n ≡ stats_in layout + (1 + stats_among words) → nat_lt 0 m ≡ nat_lt 0 n
        both_some m n a b = grind arith
    go by_end by_stats by_operand false no_end false no_stats =
        by_operand ∙ ap₂ (λ a b. nat_lt 0 (a + b)) (stats-operand word layout) (sym (among-operand word words no_end no_stats))
