-- What the parts of a run answer. All of it is this project's own.
use Rattle.std.specs.Prelude.{◌≡◌, ◌⊎◌, ◌<◌, ◌≤◌, ◌+◌, ◌*◌, ℕ, Bool, List, length, take, ⊤, Option}
use Rattle.std.specs.Prelude.{None, Some, IfSome, Result, Ok, Err, Vec}
use Rattle.std.specs.Io.KnownBytes.{Appends, Keeps}
use Rattle.std.specs.List.{flat_map}
use Rattle.prefsql_io.specs.Counts.{Rose}
use Rattle.prefsql_io.specs.Streams.{AppendsLess}
use Rattle.std.specs.declared.alloc.Global.{Global}
use Rattle.prefsql_tables.specs.Table.{Tables}
use Rattle.query_meaning.specs.declared.block.Block.{Block}
use Rattle.query_meaning.specs.Answers.{answer_of}
use Rattle.table_csv.specs.AnswerText.{text_of_answer}
use Rattle.prefsql_session.specs.Counts.{AreTestCounts, IsTestCount, Takes, last_count, told_line}
use Rattle.prefsql_session.specs.Counts.{told_lines}
use Rattle.prefsql_session.specs.Course.{GoesOn}
use Rattle.prefsql_session.specs.Opening.{Job, over}
use Rattle.prefsql_session.specs.Run.{AsksForTables, AtEnd, FallsShort, Finishes, GetsAll}
use Rattle.prefsql_session.specs.Run.{GetsFront, IsDueSoFar, MayAskScript}
use Rattle.prefsql_session.specs.ScriptEnd.{AsksFor, HasQueryFault}
use Rattle.prefsql_session.specs.Stage.{Stage, ready, unaccepted, MayGive, MayHaveFault}
use Rattle.prefsql_session.specs.Texts.{text_of}
use Rattle.prefsql_session.specs.declared.command.Command.{Command}
use Rattle.prefsql_session.specs.declared.command.Command.TheVariants.{OnScript}
use Rattle.prefsql_session.specs.declared.command.Command.TheVariants as command
use Rattle.prefsql_session.specs.declared.command.Task.{Task}
use Rattle.prefsql_session.specs.declared.command.Task.TheVariants.{Ask, Execute}
use Rattle.prefsql_session.specs.declared.command.Wish.{Wish}
use Rattle.prefsql_session.specs.declared.command.Wish.TheVariants.{Show}
use Rattle.sql_reader.specs.Reads.{HasFirstFault, ReadsAs}
use Rattle.sql_tree.specs.declared.tree.SqlQuery.{SqlQuery}
use Rattle.prefsql_session.specs.Written.{AreUtf8}
use Rattle.prefsql_session.specs.declared.fault.Fault.TheVariants.{Script}
use Rattle.prefsql_session.specs.declared.fault.Stop.{Stop}
use Rattle.prefsql_session.specs.declared.fault.Stop.TheVariants as stop
use Rattle.prefsql_session.specs.declared.halt.Halt.{Halt}
use Rattle.prefsql_session.specs.declared.halt.Halt.TheVariants as halt
use Rattle.prefsql_session.specs.declared.session.Status.{Status}
use Rattle.prefsql_session.specs.declared.session.Status.TheVariants.{Done, WriteFault, Memory}
use Rattle.prefsql_session.specs.declared.work.Work.{Work}
use Rattle.prefsql_session.specs.declared.work.Work.TheVariants.{Bench, Queries, Statements}

-- the work up to the writing
module _ (Course : Stage Work → Type 0) (opens : Stage Job) (asked : Option Command) where
  abbrev pub Prepares : Result Work Stop → Type 0
  Prepares (Ok work) = AtEnd Course (λ end. MayGive end work)
  Prepares (Err stop.Usage) = Course unaccepted
  Prepares (Err (stop.Refused fault)) = AtEnd Course (λ end. MayHaveFault end fault)
  Prepares (Err stop.ReadFault) = MayAskScript opens
  Prepares (Err stop.ShelfFault) = AsksForTables asked
  Prepares (Err stop.Memory) = ⊤

-- a table, or all tables
abbrev pub Opens : {T : Type 0} → Stage T → Result T Stop → Type 0
Opens stage (Ok value) = MayGive stage value
Opens stage (Err stop.Usage) = ⊥
Opens stage (Err (stop.Refused fault)) = MayHaveFault stage fault
Opens stage (Err stop.ReadFault) = ⊥
Opens stage (Err stop.ShelfFault) = ⊤
Opens stage (Err stop.Memory) = ⊤

-- the bytes of a script, where it is told
module _ (limit : ℕ) (script : Option (List ℕ)) where
  abbrev pub Reads : Result (Vec ℕ Global) Stop → Type 0
  Reads (Ok text) = (length text.items ≤ limit) × IfSome script (λ all. all ≡ text.items)
  Reads (Err stop.Usage) = ⊥
  Reads (Err (stop.Refused fault)) =
      IfSome script (λ all. limit < length all)
      × (fault ≡ Script (record { code = 106; at = limit }))
  Reads (Err stop.ReadFault) = ⊤
  Reads (Err stop.ShelfFault) = ⊥
  Reads (Err stop.Memory) = ⊤

-- the script over the tables
module _ (task : Task) (tables : Tables) (script : Option (List ℕ)) where
  abbrev pub Ends : Result Work Stop → Type 0
  Ends (Ok work) = AtEnd (GoesOn (ready (over task tables)) script) (λ end. MayGive end work)
  Ends (Err stop.Usage) = ⊥
  Ends (Err (stop.Refused fault)) =
      AtEnd (GoesOn (ready (over task tables)) script) (λ end. MayHaveFault end fault)
  Ends (Err stop.ReadFault) = ⊤
  Ends (Err stop.ShelfFault) = ⊥
  Ends (Err stop.Memory) = ⊤

-- the text of a preference script
abbrev pub Asks : Tables → List ℕ → Result (List Block) Stop → Type 0
Asks tables text (Ok blocks) = AsksFor tables text blocks
Asks tables text (Err (stop.Refused (Script spot))) = HasQueryFault tables text spot
Asks tables text (Err stop.Memory) = ⊤
Asks tables text (Err other) = ⊥

-- the text of an SQL script
abbrev pub Reading : Tables → List ℕ → Result (List SqlQuery) Stop → Type 0
Reading tables text (Ok queries) = ReadsAs tables text queries
Reading tables text (Err (stop.Refused (Script spot))) = HasFirstFault tables text spot
Reading tables text (Err stop.Memory) = ⊤
Reading tables text (Err other) = ⊥

-- what a body that writes one line to `err` may answer
module _ (Wanted : List ℕ → Type 0) (done : Status) (before now : ℕ) (old new : Option (List ℕ))
    (result : Status) where
  abbrev pub WritesLine : Type 0
  WritesLine =
      ((result ≡ done) × GetsAll Wanted old new)
      ⊎ (((result ≡ WriteFault) × FallsShort Wanted before now old new)
      ⊎ ((result ≡ Memory) × Keeps old new))

-- its SQL texts are UTF-8
abbrev pub IsUtf8Work : Work → Type 0
IsUtf8Work (Statements (Show shown) tables blocks) = AreUtf8 shown blocks
IsUtf8Work work = ⊤

-- what a body that writes the texts of this work to `out`, and what is due beside them to `err`,
-- may answer, where so many steps were made before and after
module _ (work : Work) (before now : ℕ) (old new : Option (List ℕ))
    (err_before err_now : ℕ) (err_old err_new : Option (List ℕ)) (start end : ℕ) where
  abbrev pub WritesWork : Status → Type 0
  WritesWork Done =
      GetsAll (λ text. text ≡ text_of work) old new × Finishes work err_old err_new start end
      × IsUtf8Work work
  WritesWork WriteFault =
      (FallsShort (λ text. text ≡ text_of work) before now old new
      × GetsFront (IsDueSoFar work) err_old err_new)
      ⊎ (GetsFront (λ text. text ≡ text_of work) old new
      × FallsShort (IsDueSoFar work) err_before err_now err_old err_new)
  WritesWork Memory =
      GetsFront (λ text. text ≡ text_of work) old new × GetsFront (IsDueSoFar work) err_old err_new
  WritesWork status = ⊥

-- what a body that answers one statement may answer
module _ (tells : Bool) (tables : Tables) (block : Block) (before now : ℕ)
    (old new : Option (List ℕ))
    (err_before err_now : ℕ) (err_old err_new : Option (List ℕ)) (start end : ℕ) where
  abbrev pub WritesAnswer : Result ℕ Halt → Type 0
  WritesAnswer (Ok tests) =
      Appends old new (text_of_answer (answer_of tables block))
      × Appends err_old err_new (told_line tells tests)
      × IsTestCount tables block tests × (start + tests ≤ end)
      × (tests < last_count → end ≤ start + 8 * tests)
  WritesAnswer (Err halt.WriteFault) =
      (Rose before now × AppendsLess old new (text_of_answer (answer_of tables block))
      × Keeps err_old err_new)
      ⊎ (Appends old new (text_of_answer (answer_of tables block))
      × ((tests : ℕ) × IsTestCount tables block tests × Rose err_before err_now
      × AppendsLess err_old err_new (told_line tells tests)))
  WritesAnswer (Err halt.Memory) = Keeps old new × Keeps err_old err_new

-- and one that answers all of them
module _ (tells : Bool) (tables : Tables) (blocks : List Block) (before now : ℕ)
    (old new : Option (List ℕ))
    (err_before err_now : ℕ) (err_old err_new : Option (List ℕ)) (start end : ℕ) where
  abbrev pub AnswersOf : List ℕ → Type 0
  AnswersOf text = text ≡ flat_map (λ block. text_of_answer (answer_of tables block)) blocks

  abbrev pub TellsFirst : List ℕ → Type 0
  TellsFirst lines =
      (n : ℕ)
      × ((tests : List ℕ) × AreTestCounts tables (take n blocks) tests
      × (lines ≡ told_lines tells tests))

  abbrev pub WritesAnswers : Result ⊤ Halt → Type 0
  WritesAnswers (Ok done) =
      GetsAll AnswersOf old new
      × ((tests : List ℕ) × Takes tables blocks tests start end
      × Appends err_old err_new (told_lines tells tests))
  WritesAnswers (Err halt.WriteFault) =
      (FallsShort AnswersOf before now old new × GetsFront TellsFirst err_old err_new)
      ⊎ (GetsFront AnswersOf old new × FallsShort TellsFirst err_before err_now err_old err_new)
  WritesAnswers (Err halt.Memory) =
      GetsFront AnswersOf old new × GetsFront TellsFirst err_old err_new

-- the same of a body that stops where it cannot go on
module _ (work : Work) (before now : ℕ) (old new : Option (List ℕ))
    (err_before err_now : ℕ) (err_old err_new : Option (List ℕ)) (start end : ℕ) where
  abbrev pub WritesOrHalts : Result ⊤ Halt → Type 0
  WritesOrHalts (Ok done) =
      WritesWork work before now old new err_before err_now err_old err_new start end Done
  WritesOrHalts (Err halt.WriteFault) =
      WritesWork work before now old new err_before err_now err_old err_new start end WriteFault
  WritesOrHalts (Err halt.Memory) =
      WritesWork work before now old new err_before err_now err_old err_new start end Memory

-- the work is what the task asks for
abbrev pub IsOfTask : Task → Work → Type 0
IsOfTask (Ask wish) (Statements other tables blocks) = other ≡ wish
IsOfTask Execute (Queries tables queries) = ⊤
IsOfTask task work = ⊥

-- the work is what the words ask for
abbrev pub IsAskedFor : Option Command → Work → Type 0
IsAskedFor (Some (OnScript task words)) work = IsOfTask task work
IsAskedFor (Some (command.Bench count)) work = work ≡ Bench count
IsAskedFor None work = ⊥
