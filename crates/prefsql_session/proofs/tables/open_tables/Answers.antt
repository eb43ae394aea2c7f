use Rattle.std.proofs.Common.{◌≡◌, ◌<◌, Err, [], ◌∷◌, ◌++◌, ap, get_or, length, rules}
use Rattle.prefsql_session.proofs.OpeningLemmas.{opened_more, opened_name}
use Rattle.prefsql_session.proofs.tables.open_tables.Goals as goal

pub loop-word-preserved : goal.loop-word-preserved
loop-word-preserved g c =
    let lt : c.loop-word.word-index < length c.args.words.now = search rules in
    let item : get_or c.args.words.now c.loop-word.word-index c.word-item.result ≡ c.word-item.result = search rules in
    let added : c.add_table.new.self ≡ c.loop-word.tables ++ record { name = c.in_ok-copy.field-0; table = c.in_ok-table.table } ∷ [] = search rules in
    opened_more (g.H.Shelf.files c.args.shelf.now) (g.H.Shelf.files c.loop-word.shelf) (g.H.Shelf.files c.open_table.new.shelf) (g.H.Shelf.sure c.args.shelf.now)
    (g.H.Shelf.sure c.loop-word.shelf) (g.H.Shelf.sure c.open_table.new.shelf) (g.H.Shelf.faults c.args.shelf.now) (g.H.Shelf.faults c.loop-word.shelf)
    (g.H.Shelf.faults c.open_table.new.shelf) c.args.words.now c.loop-word.tables c.add_table.new.self c.loop-word.word-index c.word-item.result c.in_ok-copy.field-0
    c.in_ok-table.table c.loop-word.invariant lt item c.in_ok-table.ensures.follows c.in_ok-copy.ensures added c.open_table.ensures.same.0 c.open_table.ensures.same.1
    (c.in_ok-table.ensures.kept (λ e. let bad : ⊥ = cc in bad))

pub unreachable-requires : goal.unreachable-requires
unreachable-requires g c =
    opened_name (g.H.Shelf.files c.loop-word.shelf) c.loop-word.tables c.word-item.result c.in_ok-copy.field-0 c.in_ok-table.table c.in_ok-table.ensures.follows
    c.in_ok-copy.ensures (c.in-Err-Duplicate.ensures.duplicate.0 (ap Err c.in-Err-Duplicate.field-0-is))
