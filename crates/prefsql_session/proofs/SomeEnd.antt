-- A run comes to an end.
use Rattle.std.proofs.Common.{◌≡◌, ◌⊎◌, inl, inr, ℕ, ◌<◌, ◌≤◌, List, length, Option, None, Some, Ok, refl, sym, subst, arith}
use Rattle.std.proofs.lemmas.Bool.{cases_lt}
use Rattle.std.specs.Prelude.{IsSome}
use Rattle.prefsql_io.specs.Files.{Files}
use Rattle.prefsql_lexer.proofs.Bounded.{lexes_bounded}
use Rattle.prefsql_lexer.proofs.SomeAnswer.{tokens_or_first_fault}
use Rattle.prefsql_lexer.specs.Tokens.{IsTokens}
use Rattle.prefsql_lexer.specs.declared.fault.Spot.{Spot}
use Rattle.prefsql_lexer.specs.declared.token.Token.{Token}
use Rattle.prefsql_tables.specs.Table.{Tables}
use Rattle.prefsql_tables.specs.Valid.{IsTableSet}
use Rattle.query_grammar.proofs.Language.{language}
use Rattle.query_grammar.specs.Scripts.{IsScript}
use Rattle.query_meaning.specs.declared.block.Block.{Block}
use Rattle.query_parser.proofs.WellMadeStatements.{trees_well_made}
use Rattle.query_tree.specs.declared.query.QueryTree.{QueryTree}
use Rattle.query_typing.proofs.SomeAnswer.{queries_or_fault}
use Rattle.script_forms.proofs.OneFault.{script_or_some_fault}
use Rattle.sql_reader.proofs.SomeReading.{reads_or_has_fault}
use Rattle.prefsql_session.proofs.OpenedLemmas.{opening_valid, told_opening}
use Rattle.prefsql_session.proofs.SomeCounts.{bench_counted, statements_counted}
use Rattle.prefsql_session.proofs.TypedLemmas.{typed_answerable}
use Rattle.prefsql_session.specs.Course.{Comes, GoesOn, HasAnEnd, ScriptComesTo}
use Rattle.prefsql_session.specs.Opening.{Job, bench_of, over, opening}
use Rattle.prefsql_session.specs.Run.{AtEnd, HasCounts, HasCountsAt}
use Rattle.prefsql_session.specs.ScriptEnd.{AsksFor, HasFault, HasQueryFault, IsWork, script_limit}
use Rattle.prefsql_session.specs.Stage.{Stage, untold, barred, unaccepted, missing, faulty, ready, IsTold}
use Rattle.prefsql_session.specs.declared.command.Task.{Task}
use Rattle.prefsql_session.specs.declared.command.Task.TheVariants.{Ask, Execute}
use Rattle.prefsql_session.specs.declared.fault.Fault.TheVariants.{Script}
use Rattle.prefsql_session.specs.declared.work.Work.{Work}
use Rattle.prefsql_session.specs.declared.work.Work.TheVariants.{Bench, Queries, Statements}

-- ---- a preference script

module _ (tables : Tables) (valid : IsTableSet tables) (text : List ℕ) (short : length text ≤ 1048576) where
  abbrev AskEnd : Type 0
  AskEnd = ((blocks : List Block) × AsksFor tables text blocks) ⊎ ((spot : Spot) × HasQueryFault tables text spot)

  of_trees : (tokens : List Token) → IsTokens 64 text tokens → (trees : List QueryTree) → IsScript tokens trees → AskEnd
  of_trees tokens is trees script =
      let made = trees_well_made tokens (length text) trees (omega (arith, short)) (lexes_bounded 64 text (Ok tokens) is) script in
      elim (queries_or_fault tables valid trees made) [
        | inl queries ↦ inl (queries.0, (tokens, trees, is, script, queries.1))
        | inr fault ↦ inr (fault.0, inr (tokens, is, inr (trees, script, fault.1)))
      ]

  of_tokens : (tokens : List Token) → IsTokens 64 text tokens → AskEnd
  of_tokens tokens is =
      let bounded = lexes_bounded 64 text (Ok tokens) is in
      elim (script_or_some_fault language 64 tokens (length text) bounded.depth) [
        | inl script ↦ of_trees tokens is script.0 script.1
        | inr fault ↦ inr (fault.0, inr (tokens, is, inl fault.1))
      ]

  ask_end : ((blocks : List Block) × AsksFor tables text blocks) ⊎ ((spot : Spot) × HasQueryFault tables text spot)
  ask_end = elim (tokens_or_first_fault 64 text) [ inl tokens ↦ of_tokens tokens.0 tokens.1 | inr fault ↦ inr (fault.0, inl fault.1) ]

-- ---- by task

sql_end : (tables : Tables) (text : List ℕ) → ((work : Work) × IsWork Execute tables text work) ⊎ ((spot : Spot) × HasFault Execute tables text spot)
sql_end tables text =
    elim (reads_or_has_fault tables text) [
      | inl queries ↦ inl (Queries tables queries.0, (queries.0, queries.1, refl))
      | inr fault ↦ inr fault
    ]

-- what answers queries can be counted
counted : (t : Task) (tables : Tables) (text : List ℕ) (work : Work) → IsWork t tables text work → HasCounts work
counted (Ask wish) tables text work is =
    let asked = is.1 in
    subst HasCounts (sym is.2) (statements_counted wish tables is.0 (typed_answerable tables asked.1 is.0 asked.4))
counted Execute tables text work is = subst HasCounts (sym is.2) tt

module _ (task : Task) (tables : Tables) (valid : IsTableSet tables) (text : List ℕ) where
  work_or_fault : (t : Task) → length text ≤ script_limit t → ((work : Work) × IsWork t tables text work) ⊎ ((spot : Spot) × HasFault t tables text spot)
  work_or_fault (Ask wish) short =
      elim (ask_end tables valid text short) [
        | inl asked ↦ inl (Statements wish tables asked.0, (asked.0, asked.1, refl))
        | inr fault ↦ inr fault
      ]
  work_or_fault Execute short = sql_end tables text

  abbrev ToldEnd : Type 0
  ToldEnd = (end : Stage Work) × ScriptComesTo task tables text end × HasCountsAt end × IsTold end

  within : length text ≤ script_limit task → ToldEnd
  within short =
      elim (work_or_fault task short) [
        | inl asked ↦ (ready asked.0, (short, asked.1), counted task tables text asked.0 asked.1, tt)
        | inr fault ↦ (faulty (Script fault.0), inr (short, fault.1), tt, tt)
      ]

  too_long : script_limit task < length text → ToldEnd
  too_long long =
      let spot : Spot = record { code = 106; at = script_limit task } in
      (faulty (Script spot), inl (record { long = long; place = refl }), tt, tt)

  script_end : (end : Stage Work) × ScriptComesTo task tables text end × HasCountsAt end × IsTold end
  script_end = elim (cases_lt (script_limit task) (length text)) [ inl long ↦ too_long long | inr short ↦ within (omega (arith, short)) ]

-- ---- the run

-- an end whose work can be counted, and which is told where the opening and the script are
abbrev End : Stage Job → Option (List ℕ) → Type 0
End opens script = (end : Stage Work) × GoesOn opens script end × HasCountsAt end × (IsTold opens → IsSome script → IsTold end)

ends : (opens : Stage Job) (script : Option (List ℕ)) → ((task : Task) (tables : Tables) → opens ≡ ready (over task tables) → IsTableSet tables) → End opens script
ends untold script valid = (untold, refl, tt, λ told known. told)
ends barred script valid = (barred, refl, tt, λ told known. told)
ends unaccepted script valid = (unaccepted, refl, tt, λ told known. tt)
ends missing script valid = (missing, refl, tt, λ told known. tt)
ends (faulty fault) script valid = (faulty fault, refl, tt, λ told known. tt)
ends (ready (bench_of count)) script valid = (ready (Bench count), refl, bench_counted count, λ told known. tt)
ends (ready (over task tables)) None valid = (untold, refl, tt, λ told known. let nope : ⊥ = cc in nope)
ends (ready (over task tables)) (Some text) valid =
    let end = script_end task tables (valid task tables refl) text in
    (end.0, end.1, end.2, λ told known. end.3)

module _ (words : List (List ℕ)) (files : Option Files) (script : Option (List ℕ)) where
  whole : End (opening words files) script
  whole = ends (opening words files) script (opening_valid words files)

  pub some_end : HasAnEnd (Comes words files script)
  some_end = (whole.0, whole.1)

  pub countable : AtEnd (Comes words files script) HasCountsAt
  countable = (whole.0, whole.1, whole.2)

  pub told_end : IsSome files → IsSome script → AtEnd (Comes words files script) IsTold
  told_end known read = (whole.0, whole.1, whole.3 (told_opening words files known) read)
