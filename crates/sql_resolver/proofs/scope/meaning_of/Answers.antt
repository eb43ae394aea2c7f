use Rattle.std.proofs.Common.{◌≡◌, ◌∙◌, true, false, ap, sym}
use Rattle.sql_resolver.specs.Meant.{meaning}
use Rattle.sql_resolver.specs.NamesMeant.{decides, places_in}
use Rattle.sql_resolver.specs.Scope.{scope_names}
use Rattle.sql_resolver.proofs.PlaceLaws.{decided_here, decided_later}
use Rattle.sql_resolver.proofs.scope.meaning_of.Goals as goal

pub loop-up-preserved : goal.loop-up-preserved
loop-up-preserved c =
    let f = c.args.name.now.first in
    let s = c.args.name.now.second in
    let is = c.in_ok-key.ensures in
    let level = c.index-levels-up.result in
    let fails : decides f s (scope_names level) ≡ false = (λ j. decides (sym is.first_part j) (sym is.second_part j) (scope_names level)) ∙ sym c.if-decides.ensures in
    sym (decided_later f s c.loop-up.up c.args.levels.now c.loop-up.up level c.loop-up-test.true c.index-levels-up.is fails) ∙ c.loop-up.invariant

pub returns-then-decides : goal.returns-then-decides
returns-then-decides c =
    let f = c.args.name.now.first in
    let s = c.args.name.now.second in
    let is = c.in_ok-key.ensures in
    let level = c.index-levels-up.result in
    let holds : decides f s (scope_names level) ≡ true = (λ j. decides (sym is.first_part j) (sym is.second_part j) (scope_names level)) ∙ sym c.if-decides.ensures in
    c.meaning.ensures
    ∙ (λ j. meaning (places_in (is.first_part j) (is.second_part j) (c.in_ok-narrow.ensures j) 0 (scope_names level)))
    ∙ ap meaning (sym (decided_here f s c.loop-up.up c.args.levels.now c.loop-up.up level c.loop-up-test.true c.index-levels-up.is holds) ∙ c.loop-up.invariant)
