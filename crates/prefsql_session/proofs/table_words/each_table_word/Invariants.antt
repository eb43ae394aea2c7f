use Rattle.std.proofs.Common.{◌≡◌, Some, map, take}
use Rattle.prefsql_session.specs.CommandLine.{each, table_word}
use Rattle.prefsql_session.proofs.table_words.each_table_word.Given as goal

abbrev pub invariant-loop-word : goal.invariant-loop-word
invariant-loop-word l = each table_word (map (λ word. word.now) (take l.word-index l.words)) ≡ Some l.tables
