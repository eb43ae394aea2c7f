use Rattle.std.proofs.Common.{◌≡◌, not, ap, ◌∙◌, subst, IfOk}
use Rattle.pref_terms.specs.Terms.{leaves_of}
use Rattle.pref_terms.specs.declared.term.Term.{Term}
use Rattle.sql_tree.specs.declared.tree.SqlCond.{SqlCond}
use Rattle.rewritten_query.specs.Rankings.{better_if, ranking_of}
use Rattle.sql_rewriter.proofs.TermReads.{better_dual}
use Rattle.sql_rewriter.proofs.terms.+better.Goals as goal

pub returns-in-Dual : goal.returns-in-Dual
returns-in-Dual t c =
    let places = c.args.places.now in
    let leaves = leaves_of c.args.whole.now in
    subst (λ (s : SqlCond). IfOk c.better-in-Dual.result (λ cond. cond ≡ s))
    (ap (λ (u : Term). better_if (not c.args.turned) (ranking_of places leaves u)) c.get-in-Dual.ensures ∙ better_dual places leaves c.args.term.now c.args.turned c.in-Dual.inner c.in-Dual.is) c.better-in-Dual.ensures
