use Rattle.std.proofs.Common.{◌≡◌, ◌∙◌, ℕ, List, true, get_or, subst, sym}
use Rattle.std.specs.Str.{is_utf8}
use Rattle.std.proofs.lemmas.List.Sums.{AllPass-from_list_all}
use Rattle.std.proofs.lemmas.Str.{IsUtf8-from_is_utf8}
use Rattle.prefsql_cli.proofs.words.texts_of.Goals as goal

pub unreachable-requires : goal.unreachable-requires
unreachable-requires c =
    let test : is_utf8 (get_or c.args.words.now c.loop-word.word-index c.word-item.result) ≡ true = AllPass-from_list_all is_utf8 c.args.words.now c.requires c.loop-word.word-index c.word-item.result c.loop-word-test.true in
    c.in_default.ensures.cases.0 (IsUtf8-from_is_utf8 c.as_slice.result.now (subst (λ (bytes : List ℕ). is_utf8 bytes ≡ true) (sym (c.as_slice.ensures ∙ c.word-item.is)) test))
