use Rattle.std.proofs.Common.{◌∙◌, ap, sym}
use Rattle.query_typing.specs.Conditions.{leaf_obligations}
use Rattle.query_typing.specs.Leaves.{wanted_count}
use Rattle.query_typing.specs.Obligations.{first_unmet}
use Rattle.query_typing.specs.Tallies.{tally_fault}
use Rattle.query_typing.proofs.TallyLaws.{tally_told}
use Rattle.query_typing.proofs.condition.Speech.leaf_fault.Goals as goal

pub returns-in-One : goal.returns-in-One
returns-in-One c =
    let speech = c.args.self.now in
    let leaves = speech.leaves.now in
    let place = c.in-One.site.place in
    c.tally_fault.ensures
    ∙ ap (λ t. tally_fault t c.args.at) (c.find_tally.ensures ∙ speech.tallied c.args.wanted place)
    ∙ tally_told (wanted_count c.args.wanted place leaves) c.args.at
    ∙ ap (λ f. first_unmet (leaf_obligations c.args.wanted f c.args.at leaves)) (sym c.in-One.is)
