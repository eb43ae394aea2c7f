use Rattle.std.specs.Vec.Iter.{into_iter_items}
use Rattle.query_meaning.specs.Asking.{IsRowChoice, is_kept}
use Rattle.query_meaning.proofs.KeptLemmas.{IsKeeping}
use Rattle.query_meaning.proofs.asking.Asked.kept_rows.Given as goal

abbrev pub invariant-loop-combo : goal.invariant-loop-combo
invariant-loop-combo l = IsKeeping (IsRowChoice l.self) (is_kept l.self) l.fn.best l.kept (into_iter_items l.combo-iterator)
