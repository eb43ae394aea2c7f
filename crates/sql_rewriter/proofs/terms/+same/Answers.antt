use Rattle.std.proofs.Common.{◌≡◌, ap, ◌∙◌, subst, IfOk}
use Rattle.pref_terms.specs.Terms.{leaves_of}
use Rattle.pref_terms.specs.declared.term.Term.{Term}
use Rattle.sql_tree.specs.declared.tree.SqlCond.{SqlCond}
use Rattle.rewritten_query.specs.Rankings.{ranking_of}
use Rattle.sql_rewriter.proofs.TermReads.{same_dual}
use Rattle.sql_rewriter.proofs.terms.+same.Goals as goal

pub returns-in-Dual : goal.returns-in-Dual
returns-in-Dual t c =
    let places = c.args.places.now in
    let leaves = leaves_of c.args.whole.now in
    subst (λ (s : SqlCond). IfOk c.same-in-Dual.result (λ cond. cond ≡ s))
    (ap (λ (u : Term). (ranking_of places leaves u).same) c.get-in-Dual.ensures ∙ same_dual places leaves c.args.term.now c.in-Dual.inner c.in-Dual.is) c.same-in-Dual.ensures
