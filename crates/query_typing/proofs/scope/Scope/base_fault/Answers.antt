use Rattle.std.proofs.Common.{◌≡◌, ◌∙◌, sym, ap, subst}
use Rattle.std.specs.Prelude.{IfOk}
use Rattle.query_typing.specs.Columns.{column_of}
use Rattle.query_typing.specs.Obligations.{earlier, first_unmet}
use Rattle.query_typing.specs.Preferences.{base_column_obligations, base_obligations, form_obligations}
use Rattle.query_typing.proofs.Firsts.{earlier_assoc, first_unmet-append}
use Rattle.query_typing.proofs.InOrderLaws.{form_in_order}
use Rattle.query_typing.proofs.scope.Scope.base_fault.Goals as goal

pub form_fault-requires : goal.form_fault-requires
form_fault-requires c = form_in_order c.args.base.now c.requires

pub returns : goal.returns
unfolding base_obligations
returns c =
    let tables = c.args.self.now.tables.now in
    let from = c.args.self.now.from.now in
    let base = c.args.base.now in
    let found = column_of tables from base.column in
    let column = base_column_obligations tables from found base in
    let form = form_obligations tables from found base.form in
    subst (λ whole. IfOk c.form_fault.result (λ first. first ≡ whole))
    ((λ i. earlier ((c.earlier-fault.ensures ∙ ap (λ f. earlier c.args.fault f) (c.base_column_fault.ensures ∙ ap (λ f. first_unmet (base_column_obligations tables from f base)) c.find-found.ensures)) i) (first_unmet (form_obligations tables from (c.find-found.ensures i) base.form)))
    ∙ earlier_assoc c.args.fault (first_unmet column) (first_unmet form)
    ∙ ap (earlier c.args.fault) (sym (first_unmet-append column form)))
    c.form_fault.ensures
