use Rattle.std.proofs.Common.{◌≡◌, Err, ap}
use Rattle.prefsql_session.specs.CommandLine.{accepted}
use Rattle.prefsql_session.specs.Course.{Comes}
use Rattle.prefsql_session.specs.Faults.{fault_line, usage_line}
use Rattle.prefsql_session.proofs.Decided.{refused_decided, shelf_decided, usage_decided, worked_decided}
use Rattle.prefsql_session.proofs.OneEnd.{one_end}
use Rattle.prefsql_session.proofs.RunLemmas.{refused_due, refused_unready, usage_unready, worked_counted, worked_due, worked_short, worked_text, worked_utf8}
use Rattle.prefsql_session.proofs.SomeEnd.{countable, some_end, told_end}
use Rattle.prefsql_session.proofs.WrittenLemmas.{well_written}
use Rattle.prefsql_session.proofs.session.run.Goals as goal

pub returns-in-Ok-clause-text : goal.returns-in-Ok-clause-text
returns-in-Ok-clause-text g c =
    worked_text (Comes c.args.words.now (g.H.Shelf.files c.args.shelf.now) (g.S.Source.left c.args.script.now)) (accepted c.args.words.now) c.in-Ok.work
    c.in-Ok.ensures.follows c.in-Ok.ensures.asked
    (g.O.Sink.faults c.args.out.now) (g.O.Sink.faults c.write_work.new.out) (g.O.Sink.written c.args.out.now) (g.O.Sink.written c.write_work.new.out)
    (g.E.Sink.faults c.args.err.now) (g.E.Sink.faults c.write_work.new.err) (g.E.Sink.written c.args.err.now) (g.E.Sink.written c.write_work.new.err)
    c.args.steps.now c.write_work.new.steps
    c.write_work.result c.write_work.ensures.wrote

pub returns-in-Ok-clause-due : goal.returns-in-Ok-clause-due
returns-in-Ok-clause-due g c =
    worked_due (Comes c.args.words.now (g.H.Shelf.files c.args.shelf.now) (g.S.Source.left c.args.script.now)) (accepted c.args.words.now) c.in-Ok.work
    c.in-Ok.ensures.follows c.in-Ok.ensures.asked
    (g.O.Sink.faults c.args.out.now) (g.O.Sink.faults c.write_work.new.out) (g.O.Sink.written c.args.out.now) (g.O.Sink.written c.write_work.new.out)
    (g.E.Sink.faults c.args.err.now) (g.E.Sink.faults c.write_work.new.err) (g.E.Sink.written c.args.err.now) (g.E.Sink.written c.write_work.new.err)
    c.args.steps.now c.write_work.new.steps
    c.write_work.result c.write_work.ensures.wrote

pub returns-in-Ok-clause-write_fault : goal.returns-in-Ok-clause-write_fault
returns-in-Ok-clause-write_fault g c = λ fault.
    worked_short (Comes c.args.words.now (g.H.Shelf.files c.args.shelf.now) (g.S.Source.left c.args.script.now)) (accepted c.args.words.now) c.in-Ok.work
    c.in-Ok.ensures.follows c.in-Ok.ensures.asked
    (g.O.Sink.faults c.args.out.now) (g.O.Sink.faults c.write_work.new.out) (g.O.Sink.written c.args.out.now) (g.O.Sink.written c.write_work.new.out)
    (g.E.Sink.faults c.args.err.now) (g.E.Sink.faults c.write_work.new.err) (g.E.Sink.written c.args.err.now) (g.E.Sink.written c.write_work.new.err)
    c.args.steps.now c.write_work.new.steps
    c.write_work.result fault c.write_work.ensures.wrote

pub returns-in-Ok-clause-counted : goal.returns-in-Ok-clause-counted
returns-in-Ok-clause-counted g c = λ done.
    worked_counted (Comes c.args.words.now (g.H.Shelf.files c.args.shelf.now) (g.S.Source.left c.args.script.now)) (accepted c.args.words.now) c.in-Ok.work
    c.in-Ok.ensures.follows c.in-Ok.ensures.asked
    (g.O.Sink.faults c.args.out.now) (g.O.Sink.faults c.write_work.new.out) (g.O.Sink.written c.args.out.now) (g.O.Sink.written c.write_work.new.out)
    (g.E.Sink.faults c.args.err.now) (g.E.Sink.faults c.write_work.new.err) (g.E.Sink.written c.args.err.now) (g.E.Sink.written c.write_work.new.err)
    c.args.steps.now c.write_work.new.steps
    c.write_work.result done c.write_work.ensures.wrote

pub returns-in-Ok-clause-written : goal.returns-in-Ok-clause-written
returns-in-Ok-clause-written g c = λ done.
    well_written c.args.words.now (g.H.Shelf.files c.args.shelf.now) (g.S.Source.left c.args.script.now) c.in-Ok.work c.in-Ok.ensures.follows
    (worked_utf8 (Comes c.args.words.now (g.H.Shelf.files c.args.shelf.now) (g.S.Source.left c.args.script.now)) (accepted c.args.words.now) c.in-Ok.work
    c.in-Ok.ensures.follows c.in-Ok.ensures.asked
    (g.O.Sink.faults c.args.out.now) (g.O.Sink.faults c.write_work.new.out) (g.O.Sink.written c.args.out.now) (g.O.Sink.written c.write_work.new.out)
    (g.E.Sink.faults c.args.err.now) (g.E.Sink.faults c.write_work.new.err) (g.E.Sink.written c.args.err.now) (g.E.Sink.written c.write_work.new.err)
    c.args.steps.now c.write_work.new.steps
    c.write_work.result done c.write_work.ensures.wrote)

pub returns-in-Err-Refused-clause-due : goal.returns-in-Err-Refused-clause-due
returns-in-Err-Refused-clause-due g c =
    refused_due (Comes c.args.words.now (g.H.Shelf.files c.args.shelf.now) (g.S.Source.left c.args.script.now)) c.in-Err-Refused.fault
    (rw c.in-Err-Refused.field-0-is at c.in-Err-Refused.ensures.follows)
    (g.E.Sink.faults c.args.err.now) (g.E.Sink.faults c.refuse.new.err) (g.E.Sink.written c.args.err.now) (g.E.Sink.written c.refuse.new.err)
    (accepted c.args.words.now) c.refuse.result c.refuse.ensures.wrote

pub returns-in-Err-Usage-clause-complete : goal.returns-in-Err-Usage-clause-complete
returns-in-Err-Usage-clause-complete g c = λ good _ _ _ _. absurd (usage_unready (Comes c.args.words.now (g.H.Shelf.files c.args.shelf.now) (g.S.Source.left c.args.script.now))
    (one_end c.args.words.now (g.H.Shelf.files c.args.shelf.now) (g.S.Source.left c.args.script.now)) (rw c.in-Err-Usage.field-0-is at c.in-Err-Usage.ensures.follows) good)

pub returns-in-Err-Refused-clause-complete : goal.returns-in-Err-Refused-clause-complete
returns-in-Err-Refused-clause-complete g c = λ good _ _ _ _. absurd (refused_unready (Comes c.args.words.now (g.H.Shelf.files c.args.shelf.now) (g.S.Source.left c.args.script.now)) c.in-Err-Refused.fault
    (one_end c.args.words.now (g.H.Shelf.files c.args.shelf.now) (g.S.Source.left c.args.script.now)) (rw c.in-Err-Refused.field-0-is at c.in-Err-Refused.ensures.follows) good)

pub returns-in-Ok-clause-one_end : goal.returns-in-Ok-clause-one_end
returns-in-Ok-clause-one_end g c = one_end c.args.words.now (g.H.Shelf.files c.args.shelf.now) (g.S.Source.left c.args.script.now)

pub returns-in-Err-Usage-clause-one_end : goal.returns-in-Err-Usage-clause-one_end
returns-in-Err-Usage-clause-one_end g c = one_end c.args.words.now (g.H.Shelf.files c.args.shelf.now) (g.S.Source.left c.args.script.now)

pub returns-in-Err-Refused-clause-one_end : goal.returns-in-Err-Refused-clause-one_end
returns-in-Err-Refused-clause-one_end g c = one_end c.args.words.now (g.H.Shelf.files c.args.shelf.now) (g.S.Source.left c.args.script.now)

pub returns-in-Err-ReadFault-clause-one_end : goal.returns-in-Err-ReadFault-clause-one_end
returns-in-Err-ReadFault-clause-one_end g c = one_end c.args.words.now (g.H.Shelf.files c.args.shelf.now) (g.S.Source.left c.args.script.now)

pub returns-in-Err-ShelfFault-clause-one_end : goal.returns-in-Err-ShelfFault-clause-one_end
returns-in-Err-ShelfFault-clause-one_end g c = one_end c.args.words.now (g.H.Shelf.files c.args.shelf.now) (g.S.Source.left c.args.script.now)

pub returns-in-Err-Memory-clause-one_end : goal.returns-in-Err-Memory-clause-one_end
returns-in-Err-Memory-clause-one_end g c = one_end c.args.words.now (g.H.Shelf.files c.args.shelf.now) (g.S.Source.left c.args.script.now)

pub returns-in-Ok-clause-an_end : goal.returns-in-Ok-clause-an_end
returns-in-Ok-clause-an_end g c = some_end c.args.words.now (g.H.Shelf.files c.args.shelf.now) (g.S.Source.left c.args.script.now)

pub returns-in-Ok-clause-told_end : goal.returns-in-Ok-clause-told_end
returns-in-Ok-clause-told_end g c = told_end c.args.words.now (g.H.Shelf.files c.args.shelf.now) (g.S.Source.left c.args.script.now)

pub returns-in-Err-Usage-clause-an_end : goal.returns-in-Err-Usage-clause-an_end
returns-in-Err-Usage-clause-an_end g c = some_end c.args.words.now (g.H.Shelf.files c.args.shelf.now) (g.S.Source.left c.args.script.now)

pub returns-in-Err-Usage-clause-told_end : goal.returns-in-Err-Usage-clause-told_end
returns-in-Err-Usage-clause-told_end g c = told_end c.args.words.now (g.H.Shelf.files c.args.shelf.now) (g.S.Source.left c.args.script.now)

pub returns-in-Err-Refused-clause-an_end : goal.returns-in-Err-Refused-clause-an_end
returns-in-Err-Refused-clause-an_end g c = some_end c.args.words.now (g.H.Shelf.files c.args.shelf.now) (g.S.Source.left c.args.script.now)

pub returns-in-Err-Refused-clause-told_end : goal.returns-in-Err-Refused-clause-told_end
returns-in-Err-Refused-clause-told_end g c = told_end c.args.words.now (g.H.Shelf.files c.args.shelf.now) (g.S.Source.left c.args.script.now)

pub returns-in-Err-ReadFault-clause-an_end : goal.returns-in-Err-ReadFault-clause-an_end
returns-in-Err-ReadFault-clause-an_end g c = some_end c.args.words.now (g.H.Shelf.files c.args.shelf.now) (g.S.Source.left c.args.script.now)

pub returns-in-Err-ReadFault-clause-told_end : goal.returns-in-Err-ReadFault-clause-told_end
returns-in-Err-ReadFault-clause-told_end g c = told_end c.args.words.now (g.H.Shelf.files c.args.shelf.now) (g.S.Source.left c.args.script.now)

pub returns-in-Err-ShelfFault-clause-an_end : goal.returns-in-Err-ShelfFault-clause-an_end
returns-in-Err-ShelfFault-clause-an_end g c = some_end c.args.words.now (g.H.Shelf.files c.args.shelf.now) (g.S.Source.left c.args.script.now)

pub returns-in-Err-ShelfFault-clause-told_end : goal.returns-in-Err-ShelfFault-clause-told_end
returns-in-Err-ShelfFault-clause-told_end g c = told_end c.args.words.now (g.H.Shelf.files c.args.shelf.now) (g.S.Source.left c.args.script.now)

pub returns-in-Err-Memory-clause-an_end : goal.returns-in-Err-Memory-clause-an_end
returns-in-Err-Memory-clause-an_end g c = some_end c.args.words.now (g.H.Shelf.files c.args.shelf.now) (g.S.Source.left c.args.script.now)

pub returns-in-Err-Memory-clause-told_end : goal.returns-in-Err-Memory-clause-told_end
returns-in-Err-Memory-clause-told_end g c = told_end c.args.words.now (g.H.Shelf.files c.args.shelf.now) (g.S.Source.left c.args.script.now)

pub returns-in-Ok-clause-countable : goal.returns-in-Ok-clause-countable
returns-in-Ok-clause-countable g c = countable c.args.words.now (g.H.Shelf.files c.args.shelf.now) (g.S.Source.left c.args.script.now)

pub returns-in-Err-Usage-clause-countable : goal.returns-in-Err-Usage-clause-countable
returns-in-Err-Usage-clause-countable g c = countable c.args.words.now (g.H.Shelf.files c.args.shelf.now) (g.S.Source.left c.args.script.now)

pub returns-in-Err-Refused-clause-countable : goal.returns-in-Err-Refused-clause-countable
returns-in-Err-Refused-clause-countable g c = countable c.args.words.now (g.H.Shelf.files c.args.shelf.now) (g.S.Source.left c.args.script.now)

pub returns-in-Err-ReadFault-clause-countable : goal.returns-in-Err-ReadFault-clause-countable
returns-in-Err-ReadFault-clause-countable g c = countable c.args.words.now (g.H.Shelf.files c.args.shelf.now) (g.S.Source.left c.args.script.now)

pub returns-in-Err-ShelfFault-clause-countable : goal.returns-in-Err-ShelfFault-clause-countable
returns-in-Err-ShelfFault-clause-countable g c = countable c.args.words.now (g.H.Shelf.files c.args.shelf.now) (g.S.Source.left c.args.script.now)

pub returns-in-Err-Memory-clause-countable : goal.returns-in-Err-Memory-clause-countable
returns-in-Err-Memory-clause-countable g c = countable c.args.words.now (g.H.Shelf.files c.args.shelf.now) (g.S.Source.left c.args.script.now)

pub returns-in-Ok-clause-decided : goal.returns-in-Ok-clause-decided
returns-in-Ok-clause-decided g c = λ end comes told _ quiet err_quiet _.
    worked_decided (Comes c.args.words.now (g.H.Shelf.files c.args.shelf.now) (g.S.Source.left c.args.script.now))
    (one_end c.args.words.now (g.H.Shelf.files c.args.shelf.now) (g.S.Source.left c.args.script.now)) end comes told
    c.in-Ok.work c.in-Ok.ensures.follows
    (g.O.Sink.faults c.args.out.now) (g.O.Sink.faults c.write_work.new.out) (g.O.Sink.written c.args.out.now) (g.O.Sink.written c.write_work.new.out)
    (g.E.Sink.faults c.args.err.now) (g.E.Sink.faults c.write_work.new.err) (g.E.Sink.written c.args.err.now) (g.E.Sink.written c.write_work.new.err)
    c.args.steps.now c.write_work.new.steps
    quiet err_quiet
    c.write_work.result c.write_work.ensures.wrote

pub returns-in-Err-Usage-clause-decided : goal.returns-in-Err-Usage-clause-decided
returns-in-Err-Usage-clause-decided g c = λ end comes _ _ _ quiet _.
    usage_decided (Comes c.args.words.now (g.H.Shelf.files c.args.shelf.now) (g.S.Source.left c.args.script.now))
    (one_end c.args.words.now (g.H.Shelf.files c.args.shelf.now) (g.S.Source.left c.args.script.now)) end comes
    (rw c.in-Err-Usage.field-0-is at c.in-Err-Usage.ensures.follows)
    (λ wanted. wanted ≡ usage_line)
    (g.E.Sink.faults c.args.err.now) (g.E.Sink.faults c.refuse_words.new.err) (g.E.Sink.written c.args.err.now) (g.E.Sink.written c.refuse_words.new.err)
    c.refuse_words.result c.refuse_words.ensures.wrote quiet

pub returns-in-Err-Refused-clause-decided : goal.returns-in-Err-Refused-clause-decided
returns-in-Err-Refused-clause-decided g c = λ end comes told _ _ quiet _.
    refused_decided (Comes c.args.words.now (g.H.Shelf.files c.args.shelf.now) (g.S.Source.left c.args.script.now))
    (one_end c.args.words.now (g.H.Shelf.files c.args.shelf.now) (g.S.Source.left c.args.script.now)) end comes told
    c.in-Err-Refused.fault
    (rw c.in-Err-Refused.field-0-is at c.in-Err-Refused.ensures.follows)
    (λ line. line ≡ fault_line c.in-Err-Refused.fault)
    (g.E.Sink.faults c.args.err.now) (g.E.Sink.faults c.refuse.new.err) (g.E.Sink.written c.args.err.now) (g.E.Sink.written c.refuse.new.err)
    c.refuse.result c.refuse.ensures.wrote quiet

pub returns-in-Err-ShelfFault-clause-decided : goal.returns-in-Err-ShelfFault-clause-decided
returns-in-Err-ShelfFault-clause-decided g c = λ end comes _ _ _ _ cause.
    shelf_decided c.args.words.now (g.H.Shelf.files c.args.shelf.now) (g.S.Source.left c.args.script.now) end comes
    (g.H.Shelf.sure c.args.shelf.now) (g.H.Shelf.faults c.args.shelf.now) (g.H.Shelf.faults c.prepare.new.shelf)
    (λ sure. c.in-Err-ShelfFault.ensures.sure sure (ap Err c.in-Err-ShelfFault.field-0-is))
    (c.in-Err-ShelfFault.ensures.load.failed (ap Err c.in-Err-ShelfFault.field-0-is))
    cause
