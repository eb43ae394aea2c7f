use Rattle.std.proofs.Common.{pos, ◌++◌, ◌∷◌, [], if◌then◌else◌, ℕ, List, ap, sym, ◌∙◌, get_or}
use Rattle.prefsql_values.specs.declared.value.Cell.TheVariants.{Num}
use Rattle.prefsql_values.specs.Value.{value_of}
use Rattle.value_index.specs.Places.{are_equal}
use Rattle.value_index.proofs.Adding.{cells_more}
use Rattle.value_index.proofs.index.ValueIndex.of.Goals as goal

pub loop-place-preserved : goal.loop-place-preserved
loop-place-preserved c =
    let i = c.loop-place.place in
    λ v. c.in_ok-add.ensures v
    ∙ ap (λ (places : List ℕ). places ++ (if are_equal (value_of (get_or c.args.cells.now i (Num (pos 0)))) v then i ∷ [] else [])) (c.loop-place.invariant v)
    ∙ sym (cells_more c.args.cells.now i (Num (pos 0)) v c.loop-place-test.true)
