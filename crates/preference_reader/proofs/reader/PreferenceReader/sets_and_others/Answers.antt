use Rattle.std.proofs.Common.{sym}
use Rattle.std.proofs.lemmas.Result.{err_from_is_err_and}
use Rattle.query_grammar.specs.Sets.{set}
use Rattle.query_grammar.specs.ReadPreferences.{others, more_layers}
use Rattle.query_grammar.specs.Outcome.{outcome}
use Rattle.token_forms.proofs.Kept.{read_ok, read_err, pushed_read, pushed_err}
use Rattle.token_forms.proofs.Turns.{rows_less, rows_end, rows_more, rows_item_err, rows_last, rows_last_err}
use Rattle.query_grammar.proofs.Predictive.{agrees, predictive-set}
use Rattle.preference_reader.proofs.reader.PreferenceReader.sets_and_others.Goals as goal

pub more-smaller : goal.more-smaller
more-smaller c =
    let read = pushed_read (outcome c.args.self.depth set c.eat_symbol.new.self) c.set-in-more.result c.set-in-more.new.tokens c.more.found _ c.in_ok-found-2.ensures c.set-in-more.ensures in
    rows_less agrees c.args.self.depth _ set others predictive-set _ _ _ _ c.more-test.ensures.1 read.1

pub more-preserved : goal.more-preserved
unfolding more_layers others
more-preserved c =
    let read = pushed_read (outcome c.args.self.depth set c.eat_symbol.new.self) c.set-in-more.result c.set-in-more.new.tokens c.more.found _ c.in_ok-found-2.ensures c.set-in-more.ensures in
    rows_more agrees c.args.self.depth _ set others predictive-set c.more.tokens c.eat_symbol.new.self c.more.found c.more.invariant c.more-test.ensures _ _ _ (sym c.if-at_word.ensures) read.1 read.2

pub returns-then-at_word : goal.returns-then-at_word
unfolding more_layers others
returns-then-at_word c =
    let read = read_ok (outcome c.args.self.depth others c.eat_symbol.new.self) c.others.result c.others.new.tokens _ c.in_ok-before.ensures.1 c.others.ensures in
    rw c.in_ok-before.ensures.0 (rows_last agrees c.args.self.depth _ set others predictive-set c.more.tokens c.eat_symbol.new.self c.more.found c.more.invariant c.more-test.ensures _ _ (sym c.if-at_word.ensures) read)

pub returns-in_err-before : goal.returns-in_err-before
unfolding more_layers others
returns-in_err-before c =
    let p = err_from_is_err_and c.from_residual-in_err-before.result c.from_residual-in_err-before.ensures.1 in
    rw (p.1, p.2) (rows_last_err agrees c.args.self.depth _ set others predictive-set c.more.tokens c.eat_symbol.new.self c.more.found c.more.invariant c.more-test.ensures _ _ (sym c.if-at_word.ensures) (read_err (outcome c.args.self.depth others c.eat_symbol.new.self) c.others.result c.others.new.tokens _ c.in_err-before.ensures c.others.ensures))

pub returns-in_err-found-2 : goal.returns-in_err-found-2
unfolding more_layers others
returns-in_err-found-2 c =
    let p = err_from_is_err_and c.from_residual-in_err-found-2.result c.from_residual-in_err-found-2.ensures.1 in
    rw (p.1, p.2) (rows_item_err agrees c.args.self.depth _ set others predictive-set c.more.tokens c.eat_symbol.new.self c.more.found c.more.invariant c.more-test.ensures _ _ (sym c.if-at_word.ensures) (pushed_err (outcome c.args.self.depth set c.eat_symbol.new.self) c.set-in-more.result c.set-in-more.new.tokens c.more.found _ c.in_err-found-2.ensures c.set-in-more.ensures))

pub returns : goal.returns
unfolding more_layers others
returns c = rw c.more-test.ensures.1 (rows_end agrees c.args.self.depth _ set others predictive-set c.more.tokens c.more.tokens c.more.found c.more.invariant c.more-test.ensures.0)
