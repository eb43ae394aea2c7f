-- The words, the tables and the script, one after the other.
use Rattle.std.proofs.Common.{◌≡◌, ◌<◌, ◌≤◌, ◌∙◌, ℕ, List, [], ◌∷◌, length, Option, Some, None, Result, Ok, Err, inl, inr, refl, sym, ap, subst, arith}
use Rattle.std.specs.Prelude.{IfSome}
use Rattle.prefsql_io.specs.Files.{Files}
use Rattle.prefsql_tables.specs.Table.{Tables}
use Rattle.query_meaning.specs.declared.block.Block.{Block}
use Rattle.prefsql_lexer.specs.Tokens.{IsTokens}
use Rattle.prefsql_lexer.specs.declared.token.Token.{Token}
use Rattle.query_grammar.specs.Scripts.{IsFault, IsScript}
use Rattle.query_parser.specs.Script.{SaysFault}
use Rattle.query_parser.specs.declared.fault.ParseFault.{ParseFault}
use Rattle.query_parser.specs.declared.fault.ParseFault.TheVariants as parse
use Rattle.query_tree.specs.declared.query.QueryTree.{QueryTree}
use Rattle.query_typing.specs.Typing.{IsFirstOfScript, Types}
use Rattle.query_typing.specs.declared.fault.TypeFault.{TypeFault}
use Rattle.query_typing.specs.declared.fault.TypeFault.TheVariants as type
use Rattle.sql_reader.specs.declared.fault.SqlFault.TheVariants as sql
use Rattle.sql_tree.specs.declared.tree.SqlQuery.{SqlQuery}
use Rattle.prefsql_session.specs.Stops.{parsing, typing}
use Rattle.prefsql_session.specs.Course.{GoesOn}
use Rattle.prefsql_session.specs.Opening.{Job, job_stage, over}
use Rattle.prefsql_session.specs.Parts.{Asks, Ends, Opens, Prepares, Reading, Reads}
use Rattle.prefsql_session.specs.Run.{AsksForTables, AtEnd}
use Rattle.prefsql_session.specs.ScriptEnd.{script_limit}
use Rattle.prefsql_session.specs.Stage.{Stage, untold, barred, unaccepted, missing, faulty, ready, and_then, ready_or, MayGive}
use Rattle.prefsql_session.specs.declared.command.Command.{Command}
use Rattle.prefsql_session.specs.declared.command.Command.TheVariants.{OnScript}
use Rattle.prefsql_session.specs.declared.command.Command.TheVariants as command
use Rattle.prefsql_session.specs.declared.command.TableWord.{TableWord}
use Rattle.prefsql_session.specs.declared.command.Task.{Task}
use Rattle.prefsql_session.specs.declared.command.Task.TheVariants.{Ask, Execute}
use Rattle.prefsql_session.specs.declared.command.Wish.{Wish}
use Rattle.prefsql_session.specs.declared.fault.Fault.{Fault}
use Rattle.prefsql_session.specs.declared.fault.Fault.TheVariants.{Table, Script}
use Rattle.prefsql_session.specs.declared.fault.Stop.{Stop}
use Rattle.prefsql_session.specs.declared.fault.Stop.TheVariants.{Usage, Refused, ReadFault, ShelfFault, Memory}
use Rattle.prefsql_session.specs.declared.work.Work.{Work}
use Rattle.prefsql_session.specs.declared.work.Work.TheVariants.{Bench, Queries, Statements}

-- ---- the script

-- a script that is too long
pub too_long : (task : Task) (tables : Tables) (script : Option (List ℕ)) (fault : Fault) → IfSome script (λ all. script_limit task < length all)
    → fault ≡ Script (record { code = 106; at = script_limit task }) → Ends task tables script (Err (Refused fault))
too_long task tables None fault long is = (untold, refl, tt)
too_long task tables (Some all) fault long is =
    subst (λ f. Ends task tables (Some all) (Err (Refused f))) (sym is)
    (faulty (Script (record { code = 106; at = script_limit task })), inl (record { long = long; place = refl }), refl)

-- a script that could not be read whole
pub unread : (task : Task) (tables : Tables) (script : Option (List ℕ)) (limit : ℕ) (stop : Stop) → limit ≡ script_limit task → Reads limit script (Err stop)
    → Ends task tables script (Err stop)
unread task tables script limit Usage e is = absurd is
unread task tables script limit ReadFault e is = tt
unread task tables script limit ShelfFault e is = absurd is
unread task tables script limit Memory e is = tt
unread task tables script limit (Refused fault) e is =
    too_long task tables script fault (subst (λ (n : ℕ). IfSome script (λ all. n < length all)) e is.0)
    (subst (λ (n : ℕ). fault ≡ Script (record { code = 106; at = n })) e is.1)

-- a preference script that was read
module _ (wish : Wish) (tables : Tables) (text : List ℕ) (short : length text ≤ 1048576) where
  pub asked : (blocks : List Block) → Asks tables text (Ok blocks) → Ends (Ask wish) tables (Some text) (Ok (Statements wish tables blocks))
  asked blocks asks = (ready (Statements wish tables blocks), (short, (blocks, asks, refl)), refl)

  pub stopped : (stop : Stop) → Asks tables text (Err stop) → Ends (Ask wish) tables (Some text) (Err stop)
  stopped Usage is = absurd is
  stopped ReadFault is = absurd is
  stopped ShelfFault is = absurd is
  stopped Memory is = tt
  stopped (Refused (Table name spot)) is = absurd is
  stopped (Refused (Script spot)) is = (faulty (Script spot), inr (short, is), refl)

-- an SQL script that was read
module _ (tables : Tables) (text : List ℕ) (short : length text ≤ 268435456) where
  pub sql_asked : (queries : List SqlQuery) → Reading tables text (Ok queries) → Ends Execute tables (Some text) (Ok (Queries tables queries))
  sql_asked queries reads = (ready (Queries tables queries), (short, (queries, reads, refl)), refl)

  pub sql_stopped : (stop : Stop) → Reading tables text (Err stop) → Ends Execute tables (Some text) (Err stop)
  sql_stopped Usage is = absurd is
  sql_stopped ReadFault is = absurd is
  sql_stopped ShelfFault is = absurd is
  sql_stopped Memory is = tt
  sql_stopped (Refused (Table name spot)) is = absurd is
  sql_stopped (Refused (Script spot)) is = (faulty (Script spot), inr (short, is), refl)

-- what a text comes to is what the script comes to, where that is told
untold_end : (task : Task) (tables : Tables) (text : List ℕ) (r : Result Work Stop) → Ends task tables (Some text) r → Ends task tables None r
untold_end task tables text (Ok work) is = (untold, refl, tt)
untold_end task tables text (Err Usage) is = is
untold_end task tables text (Err (Refused fault)) is = (untold, refl, tt)
untold_end task tables text (Err ReadFault) is = tt
untold_end task tables text (Err ShelfFault) is = is
untold_end task tables text (Err Memory) is = tt

pub read_end : (task : Task) (tables : Tables) (script : Option (List ℕ)) (items text : List ℕ) (r : Result Work Stop) → text ≡ items → IfSome script (λ all. all ≡ items)
    → Ends task tables (Some text) r → Ends task tables script r
read_end task tables None items text r same told is = untold_end task tables text r is
read_end task tables (Some all) items text r same told is = subst (λ (t : List ℕ). Ends task tables (Some t) r) (same ∙ sym told) is

-- a script that cannot be parsed or typed
pub parse_stopped : (tables : Tables) (text : List ℕ) (tokens seen : List Token) (end : ℕ) (fault : ParseFault) → IsTokens 64 text tokens → seen ≡ tokens → end ≡ length text
    → SaysFault seen end fault → Asks tables text (Err (parsing fault))
parse_stopped tables text tokens seen end (parse.Bad spot) are same at says =
    inr (tokens, are, inl (subst (λ (n : ℕ). IsFault tokens n spot) at (subst (λ (ts : List Token). IsFault ts end spot) same says)))
parse_stopped tables text tokens seen end parse.Memory are same at says = tt

pub type_stopped : (tables : Tables) (text : List ℕ) (tokens seen : List Token) (trees seen_trees : List QueryTree) (fault : TypeFault) → IsTokens 64 text tokens
    → seen ≡ tokens → IsScript seen trees → seen_trees ≡ trees → Types tables seen_trees (Err fault) → Asks tables text (Err (typing fault))
type_stopped tables text tokens seen trees seen_trees (type.Bad spot) are same parsed same_trees says =
    inr (
      tokens,
      are,
      inr (
        trees,
        subst (λ (ts : List Token). IsScript ts trees) same parsed,
        subst (λ (ts : List QueryTree). IsFirstOfScript tables ts spot) same_trees says,
      ),
    )
type_stopped tables text tokens seen trees seen_trees type.Memory are same parsed same_trees says = tt

-- ---- after the tables

some_words : (task : Task) (words : List TableWord) → 0 < length words → AsksForTables (Some (OnScript task words))
some_words task [] some = absurd (omega (arith, some))
some_words task (word ∷ words) some = tt

pub no_tables : (task : Task) (words : List TableWord) (s : Stage Tables) (script : Option (List ℕ)) (stop : Stop) → Opens s (Err stop)
    → (stop ≡ ShelfFault → 0 < length words)
    → Prepares (GoesOn (and_then s (λ tables. ready (over task tables))) script) (and_then s (λ tables. ready (over task tables))) (Some (OnScript task words)) (Err stop)
no_tables task words s script Usage is some = absurd is
no_tables task words s script ReadFault is some = absurd is
no_tables task words s script ShelfFault is some = some_words task words (some refl)
no_tables task words s script Memory is some = tt
no_tables task words untold script (Refused fault) is some = (untold, refl, tt)
no_tables task words barred script (Refused fault) is some = (barred, refl, tt)
no_tables task words unaccepted script (Refused fault) is some = absurd is
no_tables task words missing script (Refused fault) is some = absurd is
no_tables task words (faulty first) script (Refused fault) is some = (faulty first, refl, is)
no_tables task words (ready tables) script (Refused fault) is some = absurd is

untold_goes : (script : Option (List ℕ)) (asked : Option Command) (task : Task) (tables : Tables) (r : Result Work Stop) → Ends task tables script r
    → Prepares (GoesOn untold script) untold asked r
untold_goes script asked task tables (Ok work) is = (untold, refl, tt)
untold_goes script asked task tables (Err Usage) is = absurd is
untold_goes script asked task tables (Err (Refused fault)) is = (untold, refl, tt)
untold_goes script asked task tables (Err ReadFault) is = tt
untold_goes script asked task tables (Err ShelfFault) is = absurd is
untold_goes script asked task tables (Err Memory) is = tt

ready_goes : (script : Option (List ℕ)) (asked : Option Command) (task : Task) (tables : Tables) (r : Result Work Stop) → Ends task tables script r
    → Prepares (GoesOn (ready (over task tables)) script) (ready (over task tables)) asked r
ready_goes script asked task tables (Ok work) is = is
ready_goes script asked task tables (Err Usage) is = absurd is
ready_goes script asked task tables (Err (Refused fault)) is = is
ready_goes script asked task tables (Err ReadFault) is = tt
ready_goes script asked task tables (Err ShelfFault) is = absurd is
ready_goes script asked task tables (Err Memory) is = tt

pub script_read : (task : Task) (s : Stage Tables) (script : Option (List ℕ)) (asked : Option Command) (tables : Tables) (r : Result Work Stop) → MayGive s tables
    → Ends task tables script r
    → Prepares (GoesOn (and_then s (λ tables. ready (over task tables))) script) (and_then s (λ tables. ready (over task tables))) asked r
script_read task untold script asked tables r gives is = untold_goes script asked task tables r is
script_read task barred script asked tables r gives is = absurd gives
script_read task unaccepted script asked tables r gives is = absurd gives
script_read task missing script asked tables r gives is = absurd gives
script_read task (faulty fault) script asked tables r gives is = absurd gives
script_read task (ready found) script asked tables r gives is =
    subst (λ (ts : Tables). Prepares (GoesOn (ready (over task ts)) script) (ready (over task ts)) asked r) (sym gives)
    (ready_goes script asked task tables r is)

pub missing_tables : (task : Task) (s : Stage Tables) → s ≡ missing → and_then s (λ tables. ready (over task tables)) ≡ missing
missing_tables task s is = ap (λ (t : Stage Tables). and_then t (λ tables. ready (over task tables))) is

-- ---- after the words

module _ (files : Option Files) (script : Option (List ℕ)) where
  abbrev pub opens : Option Command → Stage Job
  opens asked = and_then (ready_or unaccepted asked) (job_stage files)

  pub prepared : (asked : Option Command) (command : Command) (r : Result Work Stop) → asked ≡ Some command
      → Prepares (GoesOn (job_stage files command) script) (job_stage files command) (Some command) r
      → Prepares (GoesOn (opens asked) script) (opens asked) asked r
  prepared asked command r is prepares =
      subst (λ (a : Option Command). Prepares (GoesOn (opens a) script) (opens a) a r) (sym is) prepares

  pub missing_job : (asked : Option Command) (command : Command) → asked ≡ Some command → job_stage files command ≡ missing → opens asked ≡ missing
  missing_job asked command is job = ap opens is ∙ job

-- ---- the bench

pub bench_prepared : (files : Option Files) (script : Option (List ℕ)) (asked : Option Command) (count : ℕ) → asked ≡ Some (command.Bench count)
    → AtEnd (GoesOn (opens files script asked) script) (λ end. MayGive end (Bench count))
bench_prepared files script asked count is =
    subst (λ (a : Option Command). AtEnd (GoesOn (opens files script a) script) (λ end. MayGive end (Bench count))) (sym is) (ready (Bench count), refl, refl)

-- ---- a command that is a task on a script

module _ (command : Command) (task : Task) (words seen : List TableWord) (is : command ≡ OnScript task words) (same : seen ≡ words) where
  command_seen : command ≡ OnScript task seen
  command_seen = is ∙ ap (OnScript task) (sym same)

  module _ (files : Option Files) (script : Option (List ℕ)) (asked : Option Command) (accepts : asked ≡ Some command) where
    accepts_seen : asked ≡ Some (OnScript task seen)
    accepts_seen = accepts ∙ ap Some command_seen

    pub prepared_script : (r : Result Work Stop)
        → Prepares (GoesOn (job_stage files (OnScript task seen)) script) (job_stage files (OnScript task seen)) (Some (OnScript task seen)) r
        → Prepares (GoesOn (opens files script asked) script) (opens files script asked) asked r
    prepared_script r prepares = prepared files script asked (OnScript task seen) r accepts_seen prepares

    pub missing_script : job_stage files (OnScript task seen) ≡ missing → opens files script asked ≡ missing
    missing_script job = missing_job files script asked (OnScript task seen) accepts_seen job
