-- What a run writes, and why it ends as it does, by its course. All of it is this project's own. A
-- course is the set of the ends that a run may come to, which is one end.
use Rattle.std.specs.Prelude.{◌≡◌, ◌⊎◌, ℕ, true, List, [], ◌∷◌, take, ⊤, Option, Some}
use Rattle.std.specs.Io.KnownBytes.{Appends, Keeps}
use Rattle.prefsql_bench.specs.BenchTable.{bench_set}
use Rattle.prefsql_bench.specs.Statements.{bench_blocks}
use Rattle.prefsql_io.specs.Counts.{Rose}
use Rattle.prefsql_io.specs.Streams.{AppendsLess}
use Rattle.prefsql_session.specs.Counts.{AreFirstLinesOf, AreLinesOf, AreTestCounts, Takes}
use Rattle.prefsql_session.specs.Counts.{told_lines}
use Rattle.prefsql_session.specs.Faults.{fault_line, usage_line}
use Rattle.prefsql_session.specs.Opening.{Job, over}
use Rattle.prefsql_session.specs.Stage.{Stage, untold, barred, unaccepted, missing, faulty, ready}
use Rattle.prefsql_session.specs.Stage.{MayHaveFault}
use Rattle.prefsql_session.specs.Texts.{text_of}
use Rattle.prefsql_session.specs.declared.command.Command.{Command}
use Rattle.prefsql_session.specs.declared.command.Command.TheVariants.{OnScript}
use Rattle.prefsql_session.specs.declared.fault.Fault.{Fault}
use Rattle.prefsql_session.specs.declared.session.Status.{Status}
use Rattle.prefsql_session.specs.declared.session.Status.TheVariants.{Done, Refused, Usage}
use Rattle.prefsql_session.specs.declared.session.Status.TheVariants.{ReadFault, WriteFault, Memory}
use Rattle.prefsql_session.specs.declared.session.Status.TheVariants.{ShelfFault}
use Rattle.prefsql_session.specs.declared.command.Task.TheVariants.{Ask}
use Rattle.prefsql_session.specs.declared.command.Wish.TheVariants.{Answer, Show}
use Rattle.prefsql_session.specs.declared.work.Work.{Work}
use Rattle.prefsql_session.specs.declared.work.Work.TheVariants.{Bench, Queries, Statements}

-- ---- one end of a run

-- the run has a defined text, where that is told
abbrev pub MayBeGood : Stage Work → Type 0
MayBeGood untold = ⊤
MayBeGood (ready work) = ⊤
MayBeGood end = ⊥

-- its text, where it is told: none but at its good end
abbrev pub IsTextAt : Stage Work → List ℕ → Type 0
IsTextAt untold text = ⊤
IsTextAt (ready work) text = text ≡ text_of work
IsTextAt end text = text ≡ []

-- what is due on `err` beside the texts of some work: the lines for its counts, where they are told
abbrev pub IsDueWith : Work → List ℕ → Type 0
IsDueWith (Statements (Answer true) tables blocks) lines = AreLinesOf tables blocks lines
IsDueWith work lines = lines ≡ []

-- and what is due after some of the texts, from the first on
abbrev pub IsDueSoFar : Work → List ℕ → Type 0
IsDueSoFar (Statements (Answer true) tables blocks) lines = AreFirstLinesOf tables blocks lines
IsDueSoFar work lines = lines ≡ []

-- all that is due on `err`: the usage line, or the line of the first fault, or the lines for counts
abbrev pub IsDueAt : Stage Work → List ℕ → Type 0
IsDueAt untold line = ⊤
IsDueAt barred line = ⊤
IsDueAt unaccepted line = line ≡ usage_line
IsDueAt missing line = line ≡ []
IsDueAt (faulty fault) line = line ≡ fault_line fault
IsDueAt (ready work) lines = IsDueWith work lines

-- the same, where less than the whole text may be written
abbrev pub IsDueSoFarAt : Stage Work → List ℕ → Type 0
IsDueSoFarAt (ready work) lines = IsDueSoFar work lines
IsDueSoFarAt end lines = IsDueAt end lines

-- the tests of each query that the work answers can be counted, within the bounds of its plan
abbrev pub HasCounts : Work → Type 0
HasCounts (Statements (Answer tells) tables blocks) =
    (tests : List ℕ) × AreTestCounts tables blocks tests
HasCounts (Bench count) = (tests : List ℕ) × AreTestCounts (bench_set count) bench_blocks tests
HasCounts work = ⊤

-- so it is at the end of a run, where it is work
abbrev pub HasCountsAt : Stage Work → Type 0
HasCountsAt (ready work) = HasCounts work
HasCountsAt end = ⊤

-- the texts of the work were written, so much was appended to `err`, and so many steps were made:
-- an answer is counted, and its count is told where it is to be
abbrev pub Finishes : Work → Option (List ℕ) → Option (List ℕ) → ℕ → ℕ → Type 0
Finishes (Statements (Answer tells) tables blocks) old new before after =
    (tests : List ℕ) × Takes tables blocks tests before after
    × Appends old new (told_lines tells tests)
Finishes (Statements (Show shown) tables blocks) old new before after = Keeps old new
Finishes (Queries tables queries) old new before after = Keeps old new
Finishes (Bench count) old new before after =
    (tests : List ℕ) × Takes (bench_set count) bench_blocks tests before after × Keeps old new

-- so it is at the end of a run, where that is told
abbrev pub FinishesAt : Stage Work → Option (List ℕ) → Option (List ℕ) → ℕ → ℕ → Type 0
FinishesAt untold old new before after = ⊤
FinishesAt (ready work) old new before after = Finishes work old new before after
FinishesAt end old new before after = ⊥

-- the status of a run that comes to this end, where no device fails and memory is granted
abbrev pub HasStatus : Stage Work → Status → Type 0
HasStatus unaccepted Usage = ⊤
HasStatus missing ShelfFault = ⊤
HasStatus (faulty fault) Refused = ⊤
HasStatus (ready work) Done = ⊤
HasStatus end status = ⊥

-- it is told, and has a defined text
abbrev pub IsGood : Stage Work → Type 0
IsGood (ready work) = ⊤
IsGood end = ⊥

-- ---- the opening of a run

-- the words and the tables are good, where that is told, and a script is to be read
abbrev pub MayAskScript : Stage Job → Type 0
MayAskScript untold = ⊤
MayAskScript (ready (over task tables)) = ⊤
MayAskScript stage = ⊥

-- the words are accepted, and a table word stands among them
abbrev pub AsksForTables : Option Command → Type 0
AsksForTables (Some (OnScript task (word ∷ words))) = ⊤
AsksForTables other = ⊥

-- one thing where the words ask for counts, else another
abbrev pub IfCounts : Option Command → Type 0 → Type 0 → Type 0
IfCounts (Some (OnScript (Ask (Answer true)) words)) Told Untold = Told
IfCounts asked Told Untold = Untold

-- the words ask for a script
abbrev pub AsksForScript : Option Command → Type 0
AsksForScript (Some (OnScript task words)) = ⊤
AsksForScript asked = ⊥

-- ---- the clauses, over the course

module _ (Course : Stage Work → Type 0) where
  -- something holds of the end of the course
  abbrev pub AtEnd : (Stage Work → Type 0) → Type 0
  AtEnd Holds = (end : Stage Work) × Course end × Holds end

  abbrev pub IsTextOf : List ℕ → Type 0
  IsTextOf text = AtEnd (λ end. IsTextAt end text)

  abbrev pub IsDueOf : List ℕ → Type 0
  IsDueOf line = AtEnd (λ end. IsDueAt end line)

  abbrev pub IsDueSoFarOf : List ℕ → Type 0
  IsDueSoFarOf lines = AtEnd (λ end. IsDueSoFarAt end lines)

  -- the status may stand at the end of this course, which opens so, and for which this was asked
  abbrev pub EndsAt : Stage Job → Option Command → Status → Type 0
  EndsAt opens asked Done = AtEnd MayBeGood
  EndsAt opens asked Refused = (fault : Fault) × AtEnd (λ end. MayHaveFault end fault)
  EndsAt opens asked Usage = Course unaccepted
  EndsAt opens asked ReadFault = MayAskScript opens
  EndsAt opens asked WriteFault = ⊤
  EndsAt opens asked Memory = ⊤
  EndsAt opens asked ShelfFault = AsksForTables asked

-- bytes that a sink was to get were appended
abbrev pub GetsAll : (List ℕ → Type 0) → Option (List ℕ) → Option (List ℕ) → Type 0
GetsAll Wanted old new = (bytes : List ℕ) × Wanted bytes × Appends old new bytes

-- nothing, or some front of them was appended
abbrev pub GetsFront : (List ℕ → Type 0) → Option (List ℕ) → Option (List ℕ) → Type 0
GetsFront Wanted old new =
    Keeps old new ⊎ ((bytes : List ℕ) × Wanted bytes × ((n : ℕ) × Appends old new (take n bytes)))

-- less than them was appended, and the sink's count of faults rose
abbrev pub FallsShort : (List ℕ → Type 0) → (before now : ℕ) → Option (List ℕ) → Option (List ℕ)
    → Type 0
FallsShort Wanted before now old new =
    Rose before now × ((bytes : List ℕ) × Wanted bytes × AppendsLess old new bytes)

module _ (Course : Stage Work → Type 0) where
  -- what stands on `out`: a front of the text, and at `Done` all of it
  abbrev pub WritesText : Status → Option (List ℕ) → Option (List ℕ) → Type 0
  WritesText Done old new = GetsAll (IsTextOf Course) old new
  WritesText WriteFault old new = GetsFront (IsTextOf Course) old new
  WritesText Memory old new = GetsFront (IsTextOf Course) old new
  WritesText status old new = Keeps old new

  -- What stands on `err`: after a refusal all that is due, and a front of it where it could not be
  -- written. Beside the texts nothing stands there but the lines for counts, where they are asked
  -- for.
  abbrev pub WritesDue : Option Command → Status → Option (List ℕ) → Option (List ℕ) → Type 0
  WritesDue asked Refused old new = GetsAll (IsDueOf Course) old new
  WritesDue asked Usage old new = GetsAll (IsDueOf Course) old new
  WritesDue asked WriteFault old new = GetsFront (IsDueSoFarOf Course) old new
  WritesDue asked Done old new = IfCounts asked (GetsAll (IsDueOf Course) old new) (Keeps old new)
  WritesDue asked Memory old new =
      IfCounts asked (GetsFront (IsDueSoFarOf Course) old new) (Keeps old new)
  WritesDue asked status old new = Keeps old new
