use Rattle.std.proofs.Common.{◌≡◌, false, take}
use Rattle.std.specs.List.{list_any}
use Rattle.rewritten_query.specs.Columns.{place_eq}
use Rattle.sql_rewriter.proofs.used.is_mentioned.Given as goal

abbrev pub invariant-loop-other : goal.invariant-loop-other
invariant-loop-other l = list_any (place_eq l.place) (take l.other-index l.places) ≡ false
