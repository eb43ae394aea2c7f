use Rattle.std.proofs.Common.{◌≡◌, map, drop}
use Rattle.prefsql_values.specs.Truth.{both_true, either_true, all_true, any_true}
use Rattle.prefsql_tables.specs.Sight.{sight}
use Rattle.conditions.specs.Meaning.{truth}
use Rattle.conditions.proofs.truth.+holds.Given as goal

abbrev pub invariant-all_hold-loop-part : goal.invariant-all_hold-loop-part
invariant-all_hold-loop-part l =
    let truths = map (truth (sight l.tables l.from l.first l.combo.rows)) in
    all_true (truths l.parts) ≡ both_true l.so_far (all_true (truths (drop l.part-index l.parts)))

abbrev pub invariant-any_holds-loop-part : goal.invariant-any_holds-loop-part
invariant-any_holds-loop-part l =
    let truths = map (truth (sight l.tables l.from l.first l.combo.rows)) in
    any_true (truths l.parts) ≡ either_true l.so_far (any_true (truths (drop l.part-index l.parts)))
