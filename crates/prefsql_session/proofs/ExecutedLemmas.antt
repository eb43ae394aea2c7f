-- A text that `rewrite` writes is executed to what `answer` gives.
use Rattle.std.proofs.Common.{◌≡◌, ◌∙◌, ◌≤◌, ℕ, Bool, List, Option, Some, length, map, refl, sym, ap, subst}
use Rattle.std.proofs.lemmas.List.Folds.{flat_map-map}
use Rattle.std.specs.List.{flat_map}
use Rattle.alike_tables.proofs.AlikeBlocks.{typed_other}
use Rattle.prefsql_io.specs.Files.{Files}
use Rattle.prefsql_tables.specs.Table.{Tables}
use Rattle.prefsql_tables.specs.Valid.{IsAlike}
use Rattle.query_meaning.specs.Answers as blocks
use Rattle.query_meaning.specs.declared.block.Block.{Block}
use Rattle.rewritten_query.specs.Rewriting.{rewritten}
use Rattle.sql_read_back.specs.Texts.{max_bytes}
use Rattle.sql_reader.specs.Reads.{ReadsAs}
use Rattle.sql_text.specs.Text as sql
use Rattle.sql_tree.specs.Meaning as queries
use Rattle.table_csv.specs.AnswerText.{text_of_answer}
use Rattle.written_script.specs.WrittenScript.{IsOther, answers_of_blocks, answers_of_queries, script_of, written}
use Rattle.prefsql_session.specs.Course.{Comes, GoesOn}
use Rattle.prefsql_session.specs.Opening.{over}
use Rattle.prefsql_session.specs.ScriptEnd.{AsksFor, IsScriptWork}
use Rattle.prefsql_session.specs.Stage.{ready}
use Rattle.prefsql_session.specs.Texts.{query_text, statement_text, text_of}
use Rattle.prefsql_session.specs.Written.{AreWritten, IsWrittenAt, OpensWith, SaysTheSame, WriteTheSame}
use Rattle.prefsql_session.specs.declared.command.Shown.TheVariants.{Query}
use Rattle.prefsql_session.specs.declared.command.Task.{Task}
use Rattle.prefsql_session.specs.declared.command.Task.TheVariants.{Ask, Execute}
use Rattle.prefsql_session.specs.declared.command.Wish.TheVariants.{Answer, Show}
use Rattle.prefsql_session.specs.declared.work.Work.{Work}
use Rattle.prefsql_session.specs.declared.work.Work.TheVariants.{Queries, Statements}

-- the texts of the statements, one after the other, are the script
text_is_script : (tables : Tables) (asked : List Block) → text_of (Statements (Show Query) tables asked) ≡ script_of asked
text_is_script tables asked = sym (flat_map-map sql.text_of rewritten asked)

-- and the same answers have the same text
same_text : (others : Tables) (tells : Bool) (asked : List Block) → answers_of_queries others (written asked) ≡ answers_of_blocks others asked
    → text_of (Queries others (written asked)) ≡ text_of (Statements (Answer tells) others asked)
same_text others tells asked same =
    sym (flat_map-map text_of_answer (queries.answer_of others) (written asked))
    ∙ ap (flat_map text_of_answer) same
    ∙ flat_map-map text_of_answer (blocks.answer_of others) asked

-- what opens with a task over tables comes to what the script asks for
comes_to : (words : List (List ℕ)) (files : Option Files) (task : Task) (tables : Tables) (text : List ℕ) (work : Work)
    → OpensWith words files task tables → IsScriptWork task tables text work → Comes words files (Some text) (ready work)
comes_to words files task tables text work opens is = subst (λ stage. GoesOn stage (Some text) (ready work)) (sym opens) is

module _ (tables others : Tables) (tells : Bool) (script : List ℕ) (work : Work) (other : IsOther tables others)
    (is : IsScriptWork (Ask (Show Query)) tables script work) (is_written : IsWrittenAt (ready work)) (short : length (text_of work) ≤ max_bytes) where
  abbrev asked : List Block
  asked = is.1.0

  same_work : work ≡ Statements (Show Query) tables asked
  same_work = is.1.2

  script_is : text_of work ≡ script_of asked
  script_is = ap text_of same_work ∙ text_is_script tables asked

  says : SaysTheSame tables asked
  says = (subst (λ w. IsWrittenAt (ready w)) same_work is_written).whole (subst (λ text. length text ≤ max_bytes) script_is short)

  executed : IsScriptWork Execute others (text_of work) (Queries others (written asked))
  executed = (short, (written asked, subst (λ text. ReadsAs others text (written asked)) (sym script_is) (says.reads others other), refl))

  answered : IsScriptWork (Ask (Answer tells)) others script (Statements (Answer tells) others asked)
  answered =
      let asks : AsksFor tables script asked = is.1.1 in
      (is.0, (asked, (asks.0, asks.1, asks.2, asks.3, typed_other tables others other.alike asks.1 asked asks.4), refl))

  pub write_the_same : (executing answering : List (List ℕ)) (files : Option Files)
      → OpensWith executing files Execute others → OpensWith answering files (Ask (Answer tells)) others
      → WriteTheSame (Comes executing files (Some (text_of work))) (Comes answering files (Some script))
  write_the_same executing answering files executes answers = record {
    one = Queries others (written asked);
    other = Statements (Answer tells) others asked;
    comes = comes_to executing files Execute others (text_of work) (Queries others (written asked)) executes executed;
    other_comes = comes_to answering files (Ask (Answer tells)) others script (Statements (Answer tells) others asked) answers answered;
    same = same_text others tells asked (says.answers others other);
  }
