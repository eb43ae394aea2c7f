use Rattle.std.proofs.Common.{◌≡◌, ◌∙◌}
use Rattle.query_typing.specs.Leaves.{has_wanted}
use Rattle.query_typing.specs.Tallies.{tally_in, tally_of, tally_with}
use Rattle.query_typing.specs.declared.quality.Wanted.TheVariants.{Level, Distance, Either}
use Rattle.query_typing.proofs.tally.with_leaf.Goals as goal

pub returns : goal.returns
returns c = λ wanted. elim wanted as (λ w. tally_of w _ ≡ tally_with (has_wanted w c.args.leaf.now) (tally_in w c.args.known)) [
  | Level ↦ c.with.ensures ∙ (λ i. tally_with (c.has_wanted.ensures i) (c.told.ensures i))
  | Distance ↦ c.with-2.ensures ∙ (λ i. tally_with (c.has_wanted-2.ensures i) (c.told-2.ensures i))
  | Either ↦ c.with-3.ensures ∙ (λ i. tally_with (c.has_wanted-3.ensures i) (c.told-3.ensures i))
]
