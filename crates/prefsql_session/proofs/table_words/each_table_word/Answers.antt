use Rattle.std.proofs.Common.{◌<◌, ℕ, List, [], Bor, length, rules, sym, ◌∙◌}
use Rattle.prefsql_session.specs.CommandLine.{table_word}
use Rattle.prefsql_session.proofs.EachLemmas.{each-more, each-stops}
use Rattle.prefsql_session.proofs.table_words.each_table_word.Goals as goal

pub returns-in-None : goal.returns-in-None
returns-in-None c =
    let lt : c.loop-word.word-index < length c.args.words.now = search rules in
    sym (each-stops table_word (λ (part : Bor (List ℕ)). part.now) c.args.words.now c.loop-word.word-index (record { ref_ptr = (0, 0); now = [] }) lt (sym c.in_ok-table.ensures ∙ c.in-None.is))

pub loop-word-preserved : goal.loop-word-preserved
loop-word-preserved c =
    let lt : c.loop-word.word-index < length c.args.words.now = search rules in
    rw c.in_ok-push-in-Some.ensures.ok
    (each-more table_word (λ (part : Bor (List ℕ)). part.now) c.args.words.now c.loop-word.word-index (record { ref_ptr = (0, 0); now = [] }) c.loop-word.tables c.in-Some.table lt
    c.loop-word.invariant (sym c.in_ok-table.ensures ∙ c.in-Some.is))
