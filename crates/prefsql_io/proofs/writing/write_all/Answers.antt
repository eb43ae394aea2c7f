use Rattle.std.proofs.Common.{arith, ◌∙◌}
use Rattle.std.proofs.KnownBytes.{Appends-trans}
use Rattle.std.proofs.Math.Seq.{take-add}
use Rattle.std.proofs.lemmas.List.{take_rest}
use Rattle.std.proofs.lemmas.Grind.{common_steps}
use Rattle.prefsql_io.proofs.writing.write_all.Goals as goal

pub loop-at-preserved : goal.loop-at-preserved
loop-at-preserved g c = record {
  within = grind (arith, common_steps);
  appended = rw take-add (Appends-trans _ _ _ _ _ c.loop-at.invariant.appended (simp take_rest at c.in_ok-at.ensures.bytes));
  kept = c.in_ok-at.ensures.kept ∙ c.loop-at.invariant.kept;
}
