use Rattle.std.proofs.Common.{◌∙◌, [], sym, ap}
use Rattle.query_typing.specs.Obligations.{earlier, first_unmet}
use Rattle.query_typing.specs.Preferences.{sets_obligations}
use Rattle.query_typing.specs.SetLists.{values_of}
use Rattle.query_typing.proofs.Firsts.{earlier_assoc}
use Rattle.query_typing.proofs.SetReads.{first-of_sets}
use Rattle.query_typing.proofs.sets.sets_fault.Goals as goal

pub returns : goal.returns
returns c =
    let domain = c.args.domain in
    let first = c.args.first.now in
    let second = c.args.second.now in
    let front = first_unmet (sets_obligations domain [] first) in
    let later = first_unmet (sets_obligations domain (values_of first) second) in
    c.later_sets_fault.ensures
    ∙ ap (λ f. earlier f later) c.later_sets_fault-fault.ensures
    ∙ earlier_assoc c.args.so_far front later
    ∙ ap (earlier c.args.so_far) (sym (first-of_sets domain first second))
