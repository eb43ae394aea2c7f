-- Searches, item by item, and choices.
use Rattle.std.proofs.Common.{◌≡◌, Option, List, map, sym, ap, ◌∙◌}
use Rattle.prefsql_values.specs.declared.value.Value.{Value}
use Rattle.sql_tree.specs.Meaning.{Scopes, or_else, first_some}
use Rattle.sql_exec.specs.declared.ready.ReadyScalar.{ReadyScalar, Case}
use Rattle.sql_exec.specs.declared.ready.ReadyWhen.{ReadyWhen}
use Rattle.sql_exec.specs.Ready.{value, when_value}
use Rattle.sql_exec.proofs.ReadyReads.{value-Case}

-- a choice where a WHEN is True, and where none is
pub chosen : (scalar : ReadyScalar) (whens : List ReadyWhen) (last : ReadyScalar) (scopes : Scopes) (found : Option Value)
    → scalar ≡ Case whens last → found ≡ first_some (map (λ w. when_value w scopes) whens) → or_else found (value last scopes) ≡ value scalar scopes
chosen scalar whens last scopes found is first =
    ap (λ o. or_else o (value last scopes)) first ∙ sym (ap (λ s. value s scopes) is ∙ value-Case whens last scopes)
