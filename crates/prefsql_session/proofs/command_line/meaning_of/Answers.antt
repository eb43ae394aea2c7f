use Rattle.std.proofs.Common.{◌≡◌, ◌∙◌, [], map, ap, sym, subst, rules, true}
use Rattle.std.proofs.lemmas.Result.{IfOk-weaker}
use Rattle.clap.specs.Faults.{fault_of}
use Rattle.clap.specs.Matches.{found_of}
use Rattle.clap.specs.Simple.{matches_of}
use Rattle.clap.specs.Takes.{takes}
use Rattle.clap.specs.Walk.{rows_of}
use Rattle.prefsql_session.specs.CommandLine.{accepted, begins_plain, operands}
use Rattle.prefsql_session.specs.WordsApp.{Reads, words_app}
use Rattle.prefsql_session.proofs.Meaning.{accepted_reads, plain_first, reads, refused}
use Rattle.prefsql_session.proofs.command_line.meaning_of.Goals as goal

pub returns-in-Ok-Some : goal.returns-in-Ok-Some
returns-in-Ok-Some c =
    let words = map (λ word. word.now) c.args.words.now in
    let plain : begins_plain words ≡ true = search rules in
    let first = plain_first words plain in
    let rows : rows_of (found_of c.in-Ok-Some.matches) ≡ matches_of words_app words = search rules in
    let none : fault_of words_app words ≡ [] = search rules in
    let does = reads first.0 first.1 first.3 (ap (fault_of words_app) (sym first.2) ∙ none) in
    let read_of : Reads first.0 _ (operands first.1) (rows_of (found_of c.in-Ok-Some.matches)) =
    subst (Reads first.0 _ (operands first.1)) (sym (rows ∙ ap (matches_of words_app) first.2)) does.0 in
    IfOk-weaker c.meaning.result _ _ (λ command is. is ∙ sym (accepted_reads first.0 first.1 does.1) ∙ ap accepted (sym first.2))
    (c.meaning.ensures first.0 _ (operands first.1) read_of)

pub returns-in-Ok-None : goal.returns-in-Ok-None
returns-in-Ok-None c =
    let words = map (λ word. word.now) c.args.words.now in
    let plain : begins_plain words ≡ true = search rules in
    let first = plain_first words plain in
    let refuses : takes words_app words ≡ true → ⊥ = search rules in
    sym (ap accepted first.2 ∙ refused first.0 first.1 first.3 (λ taken. refuses (ap (takes words_app) first.2 ∙ taken)))
