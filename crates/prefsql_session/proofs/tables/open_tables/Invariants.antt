use Rattle.prefsql_session.proofs.OpeningLemmas.{HasOpened}
use Rattle.prefsql_session.proofs.tables.open_tables.Given as goal

abbrev pub invariant-loop-word : goal.invariant-loop-word
invariant-loop-word g l =
    HasOpened (g.H.Shelf.files l.initial.shelf) (g.H.Shelf.files l.shelf) (g.H.Shelf.sure l.initial.shelf) (g.H.Shelf.sure l.shelf)
    (g.H.Shelf.faults l.initial.shelf) (g.H.Shelf.faults l.shelf) l.words l.tables l.word-index
