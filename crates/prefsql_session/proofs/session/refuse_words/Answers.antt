use Rattle.std.proofs.Common.{◌≡◌, List, ℕ, subst}
use Rattle.prefsql_session.specs.Parts.{WritesLine}
use Rattle.prefsql_session.specs.declared.session.Status.TheVariants.{Usage}
use Rattle.prefsql_session.proofs.session.refuse_words.Goals as goal

pub returns-clause-wrote : goal.returns-clause-wrote
returns-clause-wrote g c =
    subst (λ (line : List ℕ). WritesLine (λ wanted. wanted ≡ line) Usage (g.E.Sink.faults c.args.err.now) (g.E.Sink.faults c.put.new.sink)
    (g.E.Sink.written c.args.err.now) (g.E.Sink.written c.put.new.sink) c.put.result)
    c.as_bytes.ensures.value c.put.ensures.wrote
