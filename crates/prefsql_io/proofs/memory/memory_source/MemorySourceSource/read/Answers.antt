use Rattle.std.proofs.Common.{◌≡◌, length, take, drop, arith}
use Rattle.std.proofs.lemmas.Grind.{common_steps}
use Rattle.std.proofs.lemmas.List.{take_rest}
use Rattle.prefsql_io.proofs.Pieces.{moved_front}
use Rattle.prefsql_io.proofs.memory.memory_source.MemorySourceSource.read.Goals as goal

pub returns-clause-bytes : goal.returns-clause-bytes
returns-clause-bytes c =
    let moved : c.copy_from_slice.new.self ≡ take c.min-count.result (drop c.self.inside.at c.self.inside.bytes.items) = simp (take_rest, c.deref.ensures.value) at c.copy_from_slice.ensures.after in
    let count : length c.copy_from_slice.new.self ≡ c.min-count.result = grind (arith, common_steps) in (
      rw (← c.self.view_is) (moved_front c.self.inside.bytes.items c.args.into.now c.copy_from_slice.new.self c.self.inside.at c.min-count.result moved count),
      λ none some. grind (arith, common_steps),
    )
