use Rattle.std.proofs.Common.{◌++◌, ◌∷◌, [], ◌∙◌, sym, ap, subst, take, arith}
use Rattle.query_typing.specs.NamePlaces.{IsIndexOf}
use Rattle.query_typing.specs.Outputs.{names_in}
use Rattle.query_typing.proofs.NameLaws.{shown_more, shown_total}
use Rattle.query_typing.proofs.order.output_index.Goals as goal

pub loop-place-preserved : goal.loop-place-preserved
loop-place-preserved c =
    let shown = c.args.outputs.now in
    let i = c.loop-place.place in
    let output = c.index-outputs-place.result in
    let small = c.loop-place-test.true in
    subst (λ names. IsIndexOf names c.add_name.new.index)
    (ap (λ name. names_in (take i shown) ++ name ∷ []) c.as_str.ensures ∙ shown_more shown i output small c.index-outputs-place.is)
    (c.in_ok-add_name.ensures (names_in (take i shown)) c.loop-place.invariant (sym (shown_total shown i (omega (arith, small)))))
