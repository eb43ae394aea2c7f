use Rattle.std.proofs.Common.{sym, arith}
use Rattle.std.proofs.lemmas.Result.{err_from_is_err_and}
use Rattle.sql_parser.specs.Outcome.{outcome}
use Rattle.sql_parser.specs.ReadGrammar.{statement_form}
use Rattle.token_forms.proofs.Kept.{pushed_read, pushed_err}
use Rattle.sql_parser.proofs.Language.{language}
use Rattle.script_forms.proofs.Statements.{script_stop, script_err, script_last, script_more, script_full}
use Rattle.sql_parser.proofs.reader.Reader.script.Goals as goal

pub returns-then-not-at_word : goal.returns-then-not-at_word
returns-then-not-at_word c = script_stop language c.args.self.depth c.more._turn c.more.tokens c.more.found c.more.invariant (omega arith) (sym c.if-not-at_word.ensures)

pub returns-in_err-found : goal.returns-in_err-found
returns-in_err-found c =
    let p = err_from_is_err_and c.from_residual.result c.from_residual.ensures.1 in
    let read = pushed_err (outcome c.args.self.depth statement_form c.more.tokens) c.statement.result c.statement.new.tokens c.more.found _ c.in_err-found.ensures c.statement.ensures in
    rw (p.1, p.2) (script_err language c.args.self.depth c.more._turn c.more.tokens c.more.found c.more.invariant _ _ (omega arith) (sym c.if-not-at_word.ensures) read)

pub returns-then-not-eat_symbol : goal.returns-then-not-eat_symbol
returns-then-not-eat_symbol c =
    let read = pushed_read (outcome c.args.self.depth statement_form c.more.tokens) c.statement.result c.statement.new.tokens c.more.found _ c.in_ok-found.ensures c.statement.ensures in
    rw c.if-not-eat_symbol.ensures.1 (script_last language c.args.self.depth c.more._turn c.more.tokens c.more.found c.more.invariant _ read.0 _ (omega arith) (sym c.if-not-at_word.ensures) read.1 read.2 c.if-not-eat_symbol.ensures.0)

pub more-preserved : goal.more-preserved
more-preserved c =
    let read = pushed_read (outcome c.args.self.depth statement_form c.more.tokens) c.statement.result c.statement.new.tokens c.more.found _ c.in_ok-found.ensures c.statement.ensures in
    script_more language c.args.self.depth c.more._turn c.more.tokens c.more.found c.more.invariant c.statement.new.tokens _ read.0 _ (omega arith) (sym c.if-not-at_word.ensures) read.1 read.2 c.if-not-eat_symbol.ensures

pub returns : goal.returns
returns c = script_full language c.args.self.depth c.more._turn c.more.tokens c.more.found c.more.invariant (omega arith)
