use Rattle.std.proofs.Common.{◌≡◌, ◌∙◌, ℕ, List, [], Option, None, Some, Bor, map, option_map, ap, ap₂, sym, codes, rules}
use Rattle.std.specs.Prelude.{unwrap_or}
use Rattle.std.proofs.lemmas.Option.{none-some}
use Rattle.std.proofs.lemmas.Result.{IfOk-weaker}
use Rattle.clap.proofs.WalkLemmas.{first_value-rows, one_text-rows, raw_values-rows}
use Rattle.clap.specs.Matches.{found_of, one_text}
use Rattle.clap.specs.Walk.{all_of, rows_of}
use Rattle.prefsql_session.specs.CommandLine.{command_of}
use Rattle.prefsql_session.proofs.Meaning.{flag_is}
use Rattle.prefsql_session.proofs.command_line.meaning.Goals as goal

abbrev texts : Option (Bor (List (Bor (List ℕ)))) → Option (List (List ℕ))
texts = option_map (λ s. map (λ v. v.now) s.now)

pub returns-in_default : goal.returns-in_default
returns-in_default c name counts words reads =
    let none : option_map (λ s. s.now) c.get_str.result ≡ None = search rules in
    absurd (none-some name (sym none ∙ c.get_str.ensures ∙ first_value-rows (found_of c.args.matches.now) (codes "command") ∙ reads.command))

pub returns : goal.returns
returns c name counts words reads =
    let given : option_map (λ s. s.now) c.get_str.result ≡ Some c.in-Some.name.now = search rules in
    let named : Some c.in-Some.name.now ≡ Some name =
    sym given ∙ c.get_str.ensures ∙ first_value-rows (found_of c.args.matches.now) (codes "command") ∙ reads.command in
    let name_is : c.in-Some.name.now ≡ name = ap (λ o. unwrap_or o []) named in
    let flag : c.get_flag.result ≡ counts =
    flag_is counts c.get_flag.result (one_text (found_of c.args.matches.now) (codes "stats"))
    (one_text-rows (found_of c.args.matches.now) (codes "stats") ∙ reads.stats) c.get_flag.ensures.value c.get_flag.ensures.other in
    let all : texts c.get_strs.result ≡ all_of (codes "words") (rows_of (found_of c.args.matches.now)) =
    c.get_strs.ensures ∙ raw_values-rows (found_of c.args.matches.now) (codes "words") in
    let further : map (λ v. v.now) c.unwrap_or-words.result.now ≡ unwrap_or (texts c.get_strs.result) [] = search rules in
    let words_are : map (λ v. v.now) c.unwrap_or-words.result.now ≡ words = further ∙ ap (λ o. unwrap_or o []) all ∙ reads.further in
    IfOk-weaker c.command_of.result _ _
    (λ command is. is ∙ ap (λ n. command_of n c.get_flag.result (map (λ v. v.now) c.unwrap_or-words.result.now)) name_is ∙ ap₂ (command_of name) flag words_are)
    c.command_of.ensures
