use Rattle.std.proofs.Common.{◌∙◌}
use Rattle.query_meaning.proofs.AskedLemmas.{candidates_fit, best_are_rows}
use Rattle.query_meaning.proofs.asking.Asked.best_rows.Goals as goal

pub best_of-requires : goal.best_of-requires
best_of-requires g c = candidates_fit c.args.self.now c.requires.asked c.in-Some.term c.in-Some.is c.as_slice.result.now c.as_slice.ensures c.args.combos.items c.requires.given

pub returns-in_ok-best-in-Some : goal.returns-in_ok-best-in-Some
returns-in_ok-best-in-Some g c =
    c.in_ok-best-in-Some.ensures.exact
    ∙ best_are_rows c.args.self.now c.requires.asked c.in-Some.term c.in-Some.is c.as_slice.result.now c.as_slice.ensures c.args.combos.items c.requires.given
