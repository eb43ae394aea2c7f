use Rattle.std.proofs.Common.{◌<◌, filter, ap, ◌∙◌, subst}
use Rattle.plan_algebra.specs.Meaning.{single_rows}
use Rattle.native_plan.specs.Asking.{holds_all}
use Rattle.native_plan.proofs.Arms.{scanned}
use Rattle.native_plan.proofs.finding.scan.Goals as goal

pub row_count-count-requires : goal.row_count-count-requires
row_count-count-requires c = (scanned c.args.asked.now c.requires.asked c.args.table c.requires.there).0

pub singles-requires : goal.singles-requires
singles-requires c =
    let is = c.row_count-count.ensures ∙ (scanned c.args.asked.now c.requires.asked c.args.table c.requires.there).1 in
    λ row small. c.requires.askable row (subst (λ n. row < n) is small)

pub returns-clause-combos : goal.returns-clause-combos
returns-clause-combos c =
    let is = c.row_count-count.ensures ∙ (scanned c.args.asked.now c.requires.asked c.args.table c.requires.there).1 in
    c.in_ok-combos.ensures ∙ ap (λ n. filter (holds_all c.args.asked.now c.args.conjuncts.now c.args.table) (single_rows n)) is
