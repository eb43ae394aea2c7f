use Rattle.std.specs.Prelude.{take}
use Rattle.prefsql_session.specs.Texts.{shown_text}
use Rattle.prefsql_session.specs.Written.{AreUtf8}
use Rattle.prefsql_session.proofs.WritingLemmas.{HasShown, HasWritten}
use Rattle.prefsql_session.proofs.writing.write_all_shown.Given as goal

abbrev pub invariant-loop-block : goal.invariant-loop-block
invariant-loop-block g l =
    HasShown (HasWritten (shown_text l.shown l.tables) l.blocks l.block-index
    (g.O.Sink.faults l.initial.out) (g.O.Sink.faults l.out) (g.O.Sink.written l.initial.out) (g.O.Sink.written l.out))
    (AreUtf8 l.shown (take l.block-index l.blocks))
