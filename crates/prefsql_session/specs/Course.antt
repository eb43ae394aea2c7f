-- The course of a run: what the words, the files and the script come to. All of it is this
-- project's own.
use Rattle.std.specs.Prelude.{◌≡◌, ℕ, List, Option, None, Some}
use Rattle.prefsql_io.specs.Files.{Files}
use Rattle.prefsql_tables.specs.Table.{Tables}
use Rattle.prefsql_session.specs.Opening.{Job, bench_of, over, opening}
use Rattle.prefsql_session.specs.ScriptEnd.{IsScriptFault, IsScriptWork}
use Rattle.prefsql_session.specs.Stage.{Stage, untold, barred, unaccepted, missing, faulty, ready}
use Rattle.prefsql_session.specs.declared.command.Task.{Task}
use Rattle.prefsql_session.specs.declared.fault.Fault.TheVariants.{Script}
use Rattle.prefsql_session.specs.declared.work.Work.{Work}
use Rattle.prefsql_session.specs.declared.work.Work.TheVariants.{Bench}

-- a script ends with its first fault, or with what it asks for
abbrev pub ScriptComesTo : Task → Tables → List ℕ → Stage Work → Type 0
ScriptComesTo task tables text (faulty (Script spot)) = IsScriptFault task tables text spot
ScriptComesTo task tables text (ready work) = IsScriptWork task tables text work
ScriptComesTo task tables text other = ⊥

-- after the words and the tables the script decides, where it is told; the bench asks for no script
abbrev pub GoesOn : Stage Job → Option (List ℕ) → Stage Work → Type 0
GoesOn untold script end = end ≡ untold
GoesOn barred script end = end ≡ barred
GoesOn unaccepted script end = end ≡ unaccepted
GoesOn missing script end = end ≡ missing
GoesOn (faulty fault) script end = end ≡ faulty fault
GoesOn (ready (bench_of count)) script end = end ≡ ready (Bench count)
GoesOn (ready (over task tables)) None end = end ≡ untold
GoesOn (ready (over task tables)) (Some text) end = ScriptComesTo task tables text end

-- the run over these words, files and script comes to this end
abbrev pub Comes : List (List ℕ) → Option Files → Option (List ℕ) → Stage Work → Type 0
Comes words files script end = GoesOn (opening words files) script end

-- a run comes to at most one end
abbrev pub HasOneEnd : (Stage Work → Type 0) → Type 0
HasOneEnd Course = (one other : Stage Work) → Course one → Course other → one ≡ other

-- a run comes to an end
abbrev pub HasAnEnd : (Stage Work → Type 0) → Type 0
HasAnEnd Course = (end : Stage Work) × Course end
