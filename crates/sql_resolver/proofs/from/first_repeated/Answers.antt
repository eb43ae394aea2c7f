use Rattle.std.proofs.Common.{◌∙◌, ℕ, List, ap, sym, take}
use Rattle.std.specs.HashSet.{contains}
use Rattle.std.specs.Str.{bytes_eq}
use denote.Ref.{Bor}
use Rattle.std.proofs.lemmas.List.{drop_all}
use Rattle.sql_resolver.specs.Found.{first_repeated}
use Rattle.sql_resolver.specs.Outcomes.{earlier_if}
use Rattle.sql_resolver.specs.declared.found.FoundFrom.{FoundFrom}
use Rattle.sql_resolver.proofs.OutcomeLaws.{earlier_if_none}
use Rattle.sql_resolver.proofs.RepeatLaws.{names_of, seen_more}
use Rattle.sql_resolver.proofs.from.first_repeated.Goals as goal

pub loop-from-preserved : goal.loop-from-preserved
loop-from-preserved c =
    let has = contains (λ (x y : Bor (List ℕ)). bytes_eq x.now y.now) in
    seen_more c.args.froms.now c.loop-from.from-index c.from-item.result c.as_str.result c.loop-from.fault c.repeated.result c.earlier_if-fault.result c.in_ok-is_new.is_new
    (has c.loop-from.names) (has c.insert.new.self)
    c.loop-from-test.true c.from-item.is c.as_str.ensures c.loop-from.invariant c.in_ok-is_new.ensures.added c.repeated.ensures c.earlier_if-fault.ensures
    c.in_ok-is_new.ensures.updates.0

pub returns : goal.returns
returns c =
    let froms = c.args.froms.now in
    let i = c.loop-from.from-index in
    sym (earlier_if_none c.loop-from.fault)
    ∙ ap (λ (fs : List FoundFrom). earlier_if c.loop-from.fault (first_repeated (names_of (take i froms)) fs)) (sym (drop_all i froms c.loop-from-test.false))
    ∙ c.loop-from.invariant.told
