use Rattle.std.proofs.Common.{◌≡◌, ◌<◌, ◌∙◌, [], ◌∷◌, Err, ap, sym, get_or, length, rules}
use Rattle.std.proofs.lemmas.Result.{err_from_is_err_and}
use Rattle.std.specs.Io.KnownBytes.{Appends}
use Rattle.prefsql_session.specs.Texts.{shown_text}
use Rattle.prefsql_session.specs.Written.{AreUtf8}
use Rattle.prefsql_session.specs.declared.halt.Halt.TheVariants.{WriteFault, Memory}
use Rattle.prefsql_session.proofs.WritingLemmas.{front_of_all, less_of_all, one_shown}
use Rattle.prefsql_session.proofs.ResultLemmas.{err_same}
use Rattle.prefsql_session.proofs.writing.write_all_shown.Goals as goal

pub returns-in_err-write_shown-clause-less : goal.returns-in_err-write_shown-clause-less
returns-in_err-write_shown-clause-less g c = λ failed.
    let p = err_from_is_err_and c.from_residual.result c.from_residual.ensures.1 in
    let same : c.in_err-write_shown.field-0.0 ≡ WriteFault = sym p.2 ∙ err_same c.from_residual.result p.0 WriteFault p.1 failed in
    let lt : c.loop-block.block-index < length c.args.blocks.now = search rules in
    let item : get_or c.args.blocks.now c.loop-block.block-index c.block-item.result ≡ c.block-item.result = search rules in
    less_of_all (shown_text c.args.shown c.args.tables.now) c.args.blocks.now c.loop-block.block-index c.block-item.result item lt (g.O.Sink.written c.args.out.now)
    (g.O.Sink.written c.loop-block.out) (g.O.Sink.written c.write_shown.new.out) c.loop-block.invariant.written.appended (c.in_err-write_shown.ensures.less (ap Err same))

pub returns-in_err-write_shown-clause-front : goal.returns-in_err-write_shown-clause-front
returns-in_err-write_shown-clause-front g c = λ failed.
    let p = err_from_is_err_and c.from_residual.result c.from_residual.ensures.1 in
    let same : c.in_err-write_shown.field-0.0 ≡ Memory = sym p.2 ∙ err_same c.from_residual.result p.0 Memory p.1 failed in
    let lt : c.loop-block.block-index < length c.args.blocks.now = search rules in
    let item : get_or c.args.blocks.now c.loop-block.block-index c.block-item.result ≡ c.block-item.result = search rules in
    front_of_all (shown_text c.args.shown c.args.tables.now) c.args.blocks.now c.loop-block.block-index c.block-item.result item lt (g.O.Sink.written c.args.out.now)
    (g.O.Sink.written c.loop-block.out) (g.O.Sink.written c.write_shown.new.out) c.loop-block.invariant.written.appended (c.in_err-write_shown.ensures.kept (ap Err same))

pub loop-block-preserved : goal.loop-block-preserved
loop-block-preserved g c =
    let lt : c.loop-block.block-index < length c.args.blocks.now = search rules in
    let item : get_or c.args.blocks.now c.loop-block.block-index c.block-item.result ≡ c.block-item.result = search rules in
    let appends : Appends (g.O.Sink.written c.loop-block.out) (g.O.Sink.written c.write_shown.new.out) (shown_text c.args.shown c.args.tables.now c.block-item.result) = search rules in
    let same : g.O.Sink.faults c.write_shown.new.out ≡ g.O.Sink.faults c.loop-block.out = search rules in
    let utf8 : AreUtf8 c.args.shown (c.block-item.result ∷ []) = search rules in
    one_shown (shown_text c.args.shown c.args.tables.now) c.args.shown c.args.blocks.now c.loop-block.block-index c.block-item.result item lt
    (g.O.Sink.faults c.args.out.now) (g.O.Sink.faults c.loop-block.out) (g.O.Sink.faults c.write_shown.new.out)
    (g.O.Sink.written c.args.out.now) (g.O.Sink.written c.loop-block.out) (g.O.Sink.written c.write_shown.new.out) c.loop-block.invariant appends same utf8
