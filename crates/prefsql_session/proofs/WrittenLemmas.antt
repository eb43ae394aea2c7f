-- What is written in SQL reads back and means the same, since the statements of a script are few, valid and
-- fit the tables.
use Rattle.std.proofs.Common.{◌≡◌, ◌∙◌, ◌≤◌, ℕ, suc, List, [], ◌∷◌, All, Option, None, Some, length, refl, sym, ap, subst, arith, append-nil}
use Rattle.std.proofs.lemmas.List.Elements.{All-cons, All-head, All-map, All-nil, All-tail, All-weaker}
use Rattle.std.specs.Prelude.{IsUtf8}
use Rattle.prefsql_io.specs.Files.{Files}
use Rattle.prefsql_tables.specs.Table.{Tables}
use Rattle.query_meaning.specs.BlockFits.{FitsTables}
use Rattle.query_meaning.specs.Valid.{IsValidBlock}
use Rattle.query_meaning.specs.declared.block.Block.{Block}
use Rattle.query_tree.specs.declared.query.QueryTree.{QueryTree}
use Rattle.query_typing.specs.Typing.{AreTyped}
use Rattle.rewritten_query.specs.Rewriting.{rewritten}
use Rattle.sql_reader.proofs.OneReading.{reads_one}
use Rattle.sql_read_back.proofs.ValidReadsBack.{texts_utf8}
use Rattle.sql_text.specs.Text.{text_of}
use Rattle.written_script.proofs.WrittenAnswers.{script_answers, script_reads}
use Rattle.written_script.specs.WrittenScript.{IsOther, script_of, written}
use Rattle.written_script.specs.WrittenScript as script
use Rattle.prefsql_session.specs.Course.{Comes, GoesOn}
use Rattle.prefsql_session.specs.Opening.{Job, bench_of, opening, over}
use Rattle.prefsql_session.specs.Parts.{IsUtf8Work}
use Rattle.prefsql_session.specs.Run.{AtEnd}
use Rattle.prefsql_session.specs.Stage.{Stage, untold, barred, unaccepted, missing, faulty, ready, MayGive}
use Rattle.prefsql_session.specs.Texts.{AreAnswerable, IsAnswerable}
use Rattle.prefsql_session.specs.Written.{AreWritten, IsWritten, IsWrittenAt, SaysTheSame}
use Rattle.prefsql_session.specs.declared.command.Shown.TheVariants.{Plan, Query, Executed}
use Rattle.prefsql_session.specs.declared.command.Task.{Task}
use Rattle.prefsql_session.specs.declared.command.Task.TheVariants.{Ask, Execute}
use Rattle.prefsql_session.specs.declared.command.Wish.TheVariants.{Answer, Show}
use Rattle.prefsql_session.specs.declared.work.Work.{Work}
use Rattle.prefsql_session.specs.declared.work.Work.TheVariants.{Bench, Queries, Statements}
use Rattle.prefsql_session.proofs.TypedLemmas.{typed_answerable}

-- ---- the statements of a run

record AreFew (tables : Tables) (blocks : List Block) : Type 0 where
  few : length blocks ≤ 64
  answerable : AreAnswerable tables blocks

abbrev FewWork : Work → Type 0
FewWork (Statements task tables blocks) = AreFew tables blocks
FewWork (Queries tables queries) = Unit {0}
FewWork (Bench count) = Unit {0}

typed_length : (tables : Tables) (trees : List QueryTree) (blocks : List Block) → AreTyped tables trees blocks → length blocks ≡ length trees
typed_length tables [] [] typed = refl
typed_length tables [] (block ∷ blocks) typed = absurd typed
typed_length tables (tree ∷ trees) [] typed = absurd typed
typed_length tables (tree ∷ trees) (block ∷ blocks) typed = ap suc (typed_length tables trees blocks typed.1)

work_few : (opens : Stage Job) (text : Option (List ℕ)) (work : Work) → GoesOn opens text (ready work) → FewWork work
work_few untold text work is = absurd (cc)
work_few barred text work is = absurd (cc)
work_few unaccepted text work is = absurd (cc)
work_few missing text work is = absurd (cc)
work_few (faulty fault) text work is = absurd (cc)
work_few (ready (bench_of count)) text (Bench other) is = tt
work_few (ready (bench_of count)) text (Statements task tables blocks) is = absurd (cc)
work_few (ready (bench_of count)) text (Queries tables queries) is = absurd (cc)
work_few (ready (over task tables)) None work is = absurd (cc)
work_few (ready (over Execute tables)) (Some text) work is = subst FewWork (sym is.1.2) tt
work_few (ready (over (Ask wish) tables)) (Some text) work is =
    let asks = is.1.1 in
    let few = asks.3.0 in
    let same = typed_length tables asks.1 is.1.0 asks.4 in
    subst FewWork (sym is.1.2) (record { few = omega (arith, few, same); answerable = typed_answerable tables asks.1 is.1.0 asks.4 })

-- ---- what is written of them

module _ (tables : Tables) (blocks : List Block) (few : length blocks ≤ 64) (answerable : AreAnswerable tables blocks)
    (utf8 : IsUtf8 (script_of blocks)) where
  are_written : length (script_of blocks) ≤ 268435456 → script.AreWritten tables blocks
  are_written within = record {
    few = few;
    valid = All-weaker (IsAnswerable tables) IsValidBlock (λ block is. is.valid) blocks answerable;
    fits = All-weaker (IsAnswerable tables) (FitsTables tables) (λ block is. is.fits) blocks answerable;
    utf8 = utf8;
    within = within;
  }

  says : IsWritten tables blocks
  says within =
      let are = are_written within in
      record {
        reads = λ others other. script_reads tables others other blocks are;
        alone = λ others queries other reads. reads_one others (script_of blocks) queries (written blocks) reads (script_reads tables others other blocks are);
        answers = λ others other. script_answers tables others other blocks (written blocks) are (script_reads tables others other blocks are);
      }

-- a text by itself
one_utf8 : (block : Block) → IsUtf8 (text_of (rewritten block)) → IsUtf8 (script_of (block ∷ []))
one_utf8 block is = texts_utf8 (written (block ∷ [])) (All-cons (λ q. IsUtf8 (text_of q)) (rewritten block) [] is (All-nil (λ q. IsUtf8 (text_of q))))

each_says : (tables : Tables) (blocks : List Block) → AreAnswerable tables blocks → All (λ block. IsUtf8 (text_of (rewritten block))) blocks
    → All (λ block. IsWritten tables (block ∷ [])) blocks
each_says tables [] answerable utf8 = All-nil (λ block. IsWritten tables (block ∷ []))
each_says tables (block ∷ blocks) answerable utf8 =
    let P = λ (b : Block). IsUtf8 (text_of (rewritten b)) in
    All-cons (λ b. IsWritten tables (b ∷ [])) block blocks
    (says tables (block ∷ []) (omega arith) (All-cons (IsAnswerable tables) block [] (All-head (IsAnswerable tables) block blocks answerable) (All-nil (IsAnswerable tables)))
    (one_utf8 block (All-head P block blocks utf8)))
    (each_says tables blocks (All-tail (IsAnswerable tables) block blocks answerable) (All-tail P block blocks utf8))

all_utf8 : (blocks : List Block) → All (λ block. IsUtf8 (text_of (rewritten block))) blocks → IsUtf8 (script_of blocks)
all_utf8 blocks utf8 = texts_utf8 (written blocks) (All-map (λ q. IsUtf8 (text_of q)) rewritten blocks utf8)

work_written : (work : Work) → FewWork work → IsUtf8Work work → IsWrittenAt (ready work)
work_written (Bench count) few utf8 = tt
work_written (Queries tables queries) few utf8 = tt
work_written (Statements (Answer tells) tables blocks) few utf8 = tt
work_written (Statements (Show Plan) tables blocks) few utf8 = tt
work_written (Statements (Show Executed) tables blocks) few utf8 = tt
work_written (Statements (Show Query) tables blocks) few utf8 = record {
  each = each_says tables blocks few.answerable utf8;
  whole = says tables blocks few.few few.answerable (all_utf8 blocks utf8);
}

written_at : (words : List (List ℕ)) (files : Option Files) (text : Option (List ℕ)) (end : Stage Work) (work : Work) → Comes words files text end → MayGive end work
    → IsUtf8Work work → IsWrittenAt end
written_at words files text untold work comes is utf8 = tt
written_at words files text barred work comes is utf8 = tt
written_at words files text unaccepted work comes is utf8 = tt
written_at words files text missing work comes is utf8 = tt
written_at words files text (faulty fault) work comes is utf8 = tt
written_at words files text (ready found) work comes is utf8 =
    work_written found (work_few (opening words files) text found comes) (subst IsUtf8Work (sym is) utf8)

-- at the good end of a run
pub well_written : (words : List (List ℕ)) (files : Option Files) (text : Option (List ℕ)) (work : Work) → AtEnd (Comes words files text) (λ end. MayGive end work)
    → IsUtf8Work work → AtEnd (Comes words files text) IsWrittenAt
well_written words files text work at utf8 = (at.0, at.1, written_at words files text at.0 work at.1 at.2 utf8)
