-- Answers and the lines for their counts, one after the other.
use Rattle.std.proofs.Common.{◌≡◌, ◌∙◌, ◌+◌, ◌*◌, ◌<◌, ◌≤◌, ℕ, Bool, true, false, List, [], ◌∷◌, ◌++◌, Option, Some, Ok, Err, inl, inr, length, take, drop, get_or, refl, sym, ap, subst, arith, append-nil, length-append}
use Rattle.std.proofs.KnownBytes.{Appends-kept, Appends-trans}
use Rattle.std.proofs.lemmas.Grind.{flat_map-append}
use Rattle.std.proofs.lemmas.List.{take_more, take-append-drop}
use Rattle.std.proofs.lemmas.List.Elements.{All-pop}
use Rattle.std.proofs.lemmas.List.Sums.{sum_by_push}
use Rattle.std.proofs.Math.Seq.{take-append-add}
use Rattle.std.specs.Io.KnownBytes.{Appends, Keeps}
use Rattle.std.specs.List.{flat_map, sum}
use Rattle.prefsql_io.specs.Counts.{Rose}
use Rattle.prefsql_io.specs.Streams.{AppendsLess}
use Rattle.prefsql_tables.specs.Table.{Tables}
use Rattle.query_meaning.specs.Answers.{answer_of}
use Rattle.query_meaning.specs.declared.block.Block.{Block}
use Rattle.table_csv.specs.AnswerText.{text_of_answer}
use Rattle.prefsql_session.specs.Counts.{AreTestCounts, IsTestCount, Takes, last_count, tests_line, told_line, told_lines}
use Rattle.prefsql_session.specs.Parts.{AnswersOf, TellsFirst, WritesAnswer, WritesAnswers}
use Rattle.prefsql_session.specs.Run.{GetsFront}
use Rattle.prefsql_session.specs.declared.halt.Halt.{Halt}
use Rattle.prefsql_session.specs.declared.halt.Halt.TheVariants.{WriteFault, Memory}
use Rattle.prefsql_session.proofs.WritingLemmas.{front_of_all, less_of_all}

-- ---- one count more

counts-push : (tables : Tables) (blocks : List Block) (tests : List ℕ) (block : Block) (count : ℕ)
    → AreTestCounts tables blocks tests → IsTestCount tables block count
    → AreTestCounts tables (blocks ++ block ∷ []) (tests ++ count ∷ [])
counts-push tables [] [] block count are is = (is, tt)
counts-push tables [] (t ∷ ts) block count are is = absurd are
counts-push tables (b ∷ bs) [] block count are is = absurd are
counts-push tables (b ∷ bs) (t ∷ ts) block count are is =
    (are.0, counts-push tables bs ts block count are.1 is)

told-push : (tells : Bool) (tests : List ℕ) (count : ℕ)
    → told_lines tells (tests ++ count ∷ []) ≡ told_lines tells tests ++ told_line tells count
told-push true tests count =
    flat_map-append tests_line tests (count ∷ [])
    ∙ ap (λ more. flat_map tests_line tests ++ more) (append-nil (tests_line count))
told-push false tests count = refl

pub takes-push : (tables : Tables) (blocks : List Block) (tests : List ℕ) (block : Block) (count before middle after : ℕ)
    → Takes tables blocks tests before middle → IsTestCount tables block count → middle + count ≤ after
    → (count < last_count → after ≤ middle + 8 * count)
    → Takes tables (blocks ++ block ∷ []) (tests ++ count ∷ []) before after
takes-push tables blocks tests block count before middle after takes is least most =
    let more : sum (tests ++ count ∷ []) ≡ sum tests + count = sum_by_push (λ n. n) tests count in
    record {
      counts = counts-push tables blocks tests block count takes.counts is;
      least = omega (arith, more, takes.least, least);
      most = λ all.
          let parts = All-pop (λ (n : ℕ). n < last_count) (tests ++ count ∷ []) tests (Some count) refl all in
          omega (arith, more, takes.most parts.0, most parts.1);
    }

-- ---- bytes

less-after : (a b c : Option (List ℕ)) (front more : List ℕ) → Appends a b front → AppendsLess b c more
    → AppendsLess a c (front ++ more)
less-after a b c front more appends less = (
  length front + less.0,
  omega (arith, length-append front more, less.1),
  subst (Appends a c) (sym (take-append-add front more less.0)) (Appends-trans a b c front (take less.0 more) appends less.2),
)

front-of : (a b : Option (List ℕ)) (front rest all : List ℕ) → all ≡ front ++ rest → Appends a b front
    → (n : ℕ) × Appends a b (take n all)
front-of a b front rest all parts appends =
    let taken : take (length front + 0) all ≡ front =
    ap (take (length front + 0)) parts ∙ take-append-add front rest 0 ∙ append-nil front in
    (length front + 0, subst (Appends a b) (sym taken) appends)

-- ---- the answers so far

abbrev text : Tables → Block → List ℕ
text tables block = text_of_answer (answer_of tables block)

-- the first of the statements were answered, and no sink failed
pub record HasAnswered (tells : Bool) (tables : Tables) (blocks : List Block) (at : ℕ)
    (before now : ℕ) (old new : Option (List ℕ)) (err_before err_now : ℕ) (err_old err_new : Option (List ℕ)) (start end : ℕ) : Type 0 where
  pub appended : Appends old new (flat_map (text tables) (take at blocks))
  pub tests : List ℕ
  pub takes : Takes tables (take at blocks) tests start end
  pub told : Appends err_old err_new (told_lines tells tests)
  pub kept : now ≡ before
  pub err_kept : err_now ≡ err_before

module _ (tells : Bool) (tables : Tables) (blocks : List Block) (at : ℕ) (block : Block) (item : get_or blocks at block ≡ block) (lt : at < length blocks)
    (before now : ℕ) (old new : Option (List ℕ)) (err_before err_now : ℕ) (err_old err_new : Option (List ℕ)) (start middle : ℕ)
    (so_far : HasAnswered tells tables blocks at before now old new err_before err_now err_old err_new start middle)
    (later : ℕ) (out : Option (List ℕ)) (err_later : ℕ) (err : Option (List ℕ)) (end : ℕ) where
  one_more : take (at + 1) blocks ≡ take at blocks ++ block ∷ []
  one_more = take_more blocks at block lt ∙ ap (λ b. take at blocks ++ b ∷ []) item

  texts_more : flat_map (text tables) (take (at + 1) blocks) ≡ flat_map (text tables) (take at blocks) ++ text tables block
  texts_more =
      ap (flat_map (text tables)) one_more ∙ flat_map-append (text tables) (take at blocks) (block ∷ [])
      ∙ ap (λ more. flat_map (text tables) (take at blocks) ++ more) (append-nil (text tables block))

  -- one statement more was answered
  pub one_answered : (count : ℕ) → WritesAnswer tells tables block now later new out err_now err_later err_new err middle end (Ok count) → later ≡ now → err_later ≡ err_now
      → HasAnswered tells tables blocks (at + 1) before later old out err_before err_later err_old err start end
  one_answered count wrote same err_same = record {
    appended = subst (Appends old out) (sym texts_more) (Appends-trans old new out (flat_map (text tables) (take at blocks)) (text tables block) so_far.appended wrote.0);
    tests = so_far.tests ++ count ∷ [];
    takes = subst (λ bs. Takes tables bs (so_far.tests ++ count ∷ []) start end) (sym one_more)
        (takes-push tables (take at blocks) so_far.tests block count start middle end so_far.takes wrote.2 wrote.3 wrote.4);
    told = subst (Appends err_old err) (sym (told-push tells so_far.tests count))
        (Appends-trans err_old err_new err (told_lines tells so_far.tests) (told_line tells count) so_far.told wrote.1);
    kept = same ∙ so_far.kept;
    err_kept = err_same ∙ so_far.err_kept;
  }

  -- the lines so far, and nothing after them
  lines_kept : Keeps err_new err → GetsFront (TellsFirst tells tables blocks before later old out err_before err_later err_old err start end) err_old err
  lines_kept keeps =
      let lines = told_lines tells so_far.tests in
      inr (
        lines,
        (at, (so_far.tests, so_far.takes.counts, refl)),
        front-of err_old err lines [] lines (sym (append-nil lines)) (Appends-kept err_old err_new err lines so_far.told keeps),
      )

  -- the texts so far and the next one
  texts_front : Appends new out (text tables block) → GetsFront (AnswersOf tells tables blocks before later old out err_before err_later err_old err start end) old out
  texts_front appends =
      let all = flat_map (text tables) blocks in
      let front = flat_map (text tables) (take (at + 1) blocks) in
      let parts : all ≡ front ++ flat_map (text tables) (drop (at + 1) blocks) =
      ap (flat_map (text tables)) (sym (take-append-drop (at + 1) blocks)) ∙ flat_map-append (text tables) (take (at + 1) blocks) (drop (at + 1) blocks) in
      inr (
        all,
        refl,
        front-of old out front (flat_map (text tables) (drop (at + 1) blocks)) all parts
            (subst (Appends old out) (sym texts_more) (Appends-trans old new out (flat_map (text tables) (take at blocks)) (text tables block) so_far.appended appends)),
      )

  pub memory_stopped : WritesAnswer tells tables block now later new out err_now err_later err_new err middle end (Err Memory)
      → WritesAnswers tells tables blocks before later old out err_before err_later err_old err start end (Err Memory)
  memory_stopped wrote =
      (front_of_all (text tables) blocks at block item lt old new out so_far.appended wrote.0, lines_kept wrote.1)

  pub write_stopped : WritesAnswer tells tables block now later new out err_now err_later err_new err middle end (Err WriteFault)
      → WritesAnswers tells tables blocks before later old out err_before err_later err_old err start end (Err WriteFault)
  write_stopped (inl short) = inl (
    (
      subst (λ n. Rose n later) so_far.kept short.0,
      (flat_map (text tables) blocks, refl, less_of_all (text tables) blocks at block item lt old new out so_far.appended short.1),
    ),
    lines_kept short.2,
  )
  write_stopped (inr told) =
      let count = told.1.0 in
      let tests = so_far.tests ++ count ∷ [] in
      let counts : AreTestCounts tables (take (at + 1) blocks) tests =
      subst (λ bs. AreTestCounts tables bs tests) (sym one_more) (counts-push tables (take at blocks) so_far.tests block count so_far.takes.counts told.1.1) in
      inr (
        texts_front told.0,
        (
          subst (λ n. Rose n err_later) so_far.err_kept told.1.2,
          (
            told_lines tells tests,
            (at + 1, (tests, counts, refl)),
            subst (AppendsLess err_old err) (sym (told-push tells so_far.tests count))
                (less-after err_old err_new err (told_lines tells so_far.tests) (told_line tells count) so_far.told told.1.3),
          ),
        ),
      )

  pub stopped : (halt : Halt) → WritesAnswer tells tables block now later new out err_now err_later err_new err middle end (Err halt)
      → WritesAnswers tells tables blocks before later old out err_before err_later err_old err start end (Err halt)
  stopped WriteFault wrote = write_stopped wrote
  stopped Memory wrote = memory_stopped wrote
