use Rattle.std.proofs.Common.{rules}
use Rattle.prefsql_io.proofs.FileLemmas.{put_in_place, put_at_end}
use Rattle.prefsql_io.proofs.memory.memory_shelf.MemoryShelf.add.Goals as goal

pub returns-in-Some-clause-ok : goal.returns-in-Some-clause-ok
returns-in-Some-clause-ok c =
    rw (c.of.ensures, ← c.self.view_is)
    (put_in_place c.self.inside.files.items c.args.path.now c.args.bytes.items c.in-Some.place c.index_mut.result.now (search rules) (search rules))

pub returns-in_ok-push-in-None-clause-ok : goal.returns-in_ok-push-in-None-clause-ok
returns-in_ok-push-in-None-clause-ok c =
    rw (c.in_ok-push-in-None.ensures.items, c.in_ok-path-in-None.ensures, c.of-in-None-2.ensures, ← c.self.view_is)
    (put_at_end c.self.inside.files.items c.args.path.now c.args.bytes.items (search rules))
