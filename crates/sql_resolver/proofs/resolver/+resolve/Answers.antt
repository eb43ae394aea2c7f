use Rattle.std.proofs.Common.{◌≡◌, map, IfOk, sym, ap, subst, ◌∙◌}
use Rattle.sql_tree.specs.declared.tree.SqlCond as sql
use Rattle.sql_text.specs.declared.named.NamedCond.{NamedCond}
use Rattle.sql_text.specs.declared.named.NamedScalar.{NamedScalar}
use Rattle.sql_text.specs.declared.named.NamedTerm.{NamedTerm}
use Rattle.sql_text.specs.declared.named.NamedWhen.{NamedWhen}
use Rattle.sql_resolver.specs.declared.found.FoundScalar.{FoundScalar}
use Rattle.sql_resolver.specs.Found.{choice, cond_found, scalar_found, sum_of, term_found, when_found}
use Rattle.sql_resolver.specs.Outcomes.{all_of, formed}
use Rattle.sql_resolver.proofs.Equations.{found-And, found-Case, found-Or, found-Sum}
use Rattle.sql_resolver.proofs.resolver.+resolve.Goals as goal

pub cond_in-returns-in_ok-all_of-in-And : goal.cond_in-returns-in_ok-all_of-in-And
cond_in-returns-in_ok-all_of-in-And t c =
    let tables = c.args.tables.now in
    let scopes = c.args.levels.now in
    c.conjunction.ensures
    ∙ ap (formed sql.And) (c.in_ok-all_of-in-And.ensures ∙ ap all_of (c.in_ok-parts-in-And.ensures ∙ ap (map (λ (part : NamedCond). cond_found tables part scopes)) c.as_slice.ensures))
    ∙ sym (found-And tables c.in-And.parts scopes)
    ∙ ap (λ (cond : NamedCond). cond_found tables cond scopes) (sym c.in-And.is)

pub cond_in-returns-in_ok-all_of-in-Or : goal.cond_in-returns-in_ok-all_of-in-Or
cond_in-returns-in_ok-all_of-in-Or t c =
    let tables = c.args.tables.now in
    let scopes = c.args.levels.now in
    c.disjunction.ensures
    ∙ ap (formed sql.Or) (c.in_ok-all_of-in-Or.ensures ∙ ap all_of (c.in_ok-parts-in-Or.ensures ∙ ap (map (λ (part : NamedCond). cond_found tables part scopes)) c.as_slice-in-Or.ensures))
    ∙ sym (found-Or tables c.in-Or.parts scopes)
    ∙ ap (λ (cond : NamedCond). cond_found tables cond scopes) (sym c.in-Or.is)

pub scalar-returns-in_ok-terms-in-Sum : goal.scalar-returns-in_ok-terms-in-Sum
scalar-returns-in_ok-terms-in-Sum t c =
    let tables = c.args.tables.now in
    let scopes = c.args.levels.now in
    subst (λ (whole : FoundScalar). IfOk c.sum_of.result (λ found. found ≡ whole))
    (ap sum_of (c.in_ok-terms-in-Sum.ensures ∙ ap (map (λ (term : NamedTerm). term_found tables term scopes)) c.as_slice.ensures)
    ∙ sym (found-Sum tables c.in-Sum.parts scopes)
    ∙ ap (λ (scalar : NamedScalar). scalar_found tables scalar scopes) (sym c.in-Sum.is))
    c.sum_of.ensures

pub scalar-returns-in_ok-last-in-Case : goal.scalar-returns-in_ok-last-in-Case
scalar-returns-in_ok-last-in-Case t c =
    let tables = c.args.tables.now in
    let scopes = c.args.levels.now in
    let whens = c.in_ok-whens-in-Case.ensures ∙ ap (map (λ (when : NamedWhen). when_found tables when scopes)) c.as_slice-in-Case.ensures in
    subst (λ (whole : FoundScalar). IfOk c.choice.result (λ found. found ≡ whole))
    ((λ j. choice c.in-Case.at (whens j) (c.in_ok-last-in-Case.ensures j))
    ∙ sym (found-Case tables c.in-Case.at c.in-Case.parts c.in-Case.value scopes)
    ∙ ap (λ (scalar : NamedScalar). scalar_found tables scalar scopes) (sym c.in-Case.is))
    c.choice.ensures
