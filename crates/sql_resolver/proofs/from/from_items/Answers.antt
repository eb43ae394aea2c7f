use Rattle.std.proofs.Common.{[], map, ap, ◌∙◌}
use Rattle.sql_resolver.specs.declared.found.FoundFrom.{FoundFrom}
use Rattle.sql_resolver.specs.Found.{first_repeated}
use Rattle.sql_resolver.specs.Outcomes.{all_of, also}
use Rattle.sql_resolver.proofs.from.from_items.Goals as goal

pub returns : goal.returns
returns c =
    c.also.ensures
    ∙ ap (λ items. also items c.in_ok-fault.fault) c.in_ok-items.ensures
    ∙ ap (λ parts. also (all_of parts) c.in_ok-fault.fault) c.in_ok-items_of.ensures
    ∙ ap (also (all_of (map (λ (from : FoundFrom). from.item) c.args.froms.items)))
    (c.in_ok-fault.ensures ∙ ap (first_repeated []) c.deref.ensures.value)
