use Rattle.std.proofs.Common.{◌≡◌, drop}
use Rattle.pref_terms.specs.Terms.{shown}
use Rattle.query_meaning.specs.Answers.{passes}
use Rattle.query_meaning.proofs.asking.Asked.passes.Given as goal

abbrev pub invariant-loop-cond : goal.invariant-loop-cond
invariant-loop-cond l =
    let sight = shown l.self.tables.now l.self.from.now 0 l.combo in
    passes l.conds sight ≡ passes (drop l.cond-index l.conds) sight
