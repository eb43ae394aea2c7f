use Rattle.std.proofs.Common.{◌∙◌, ap}
use Rattle.std.specs.HashMap.{get}
use Rattle.query_typing.specs.Leaves.{has_wanted}
use Rattle.query_typing.specs.Tallies.{same_key, tally_in, tally_with}
use Rattle.prefsql_tables.specs.declared.place.ColumnPlace.{ColumnPlace}
use Rattle.query_typing.proofs.TallyLaws.{leaf_more}
use Rattle.query_typing.proofs.tally.add_leaf.Goals as goal

pub returns : goal.returns
returns c = λ leaves is.
    let leaf = c.args.leaf.now in
    leaf_more (λ (p : ColumnPlace). get same_key c.args.tallies.now (p.table, p.column)) (λ (p : ColumnPlace). get same_key c.insert.new.self (p.table, p.column)) leaves leaf c.in-Some.place c.with_leaf.result
    is (c.in-Some.is)
    (λ wanted. c.with_leaf.ensures wanted ∙ ap (λ k. tally_with (has_wanted wanted leaf) (tally_in wanted k)) (c.copied-known.ensures ∙ c.get.ensures.value))
    (λ place. c.in_ok-insert.ensures.updates.0 (place.table, place.column))
