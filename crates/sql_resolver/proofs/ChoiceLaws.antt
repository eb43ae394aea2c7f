-- What is found of a CASE, by what is found of its WHENs and its ELSE.
use Rattle.std.proofs.Common.{◌≡◌, ℕ, Option, Some, None, List, [], ◌∷◌, ◌++◌, map, max, refl, ap, ◌∙◌, arith, append_assoc}
use Rattle.std.specs.List.{flat_map}
use Rattle.std.specs.Option.{option_map}
use Rattle.prefsql_values.specs.declared.value.Domain.{Domain}
use Rattle.sql_tree.specs.declared.tree.SqlScalar.{Case}
use Rattle.sql_tree.specs.declared.tree.SqlWhen.{SqlWhen}
use Rattle.sql_resolver.specs.declared.found.FoundScalar.{FoundScalar}
use Rattle.sql_resolver.specs.declared.found.FoundWhen.{FoundWhen}
use Rattle.sql_resolver.specs.Owed.{Fault, both_bounds, differ, fault_if}
use Rattle.sql_resolver.specs.Outcomes.{all_of, also, earlier_if, first_fault, formed, outcome, paired}
use Rattle.sql_resolver.specs.Reading as reading
use Rattle.sql_resolver.specs.Reading.{ScalarReading, WhenReading, case_reading, faults_if, results_of, tree_if}
use Rattle.sql_resolver.specs.Found.{capped, choice, first_domain, first_unlike, found_scalar, found_when, greatest, last_tree, results, when_tree}
use Rattle.sql_resolver.proofs.OutcomeLaws.{first_fault_append, outcome_also, outcome_each, outcome_form, outcome_pair}
use Rattle.sql_resolver.proofs.CondLaws.{tested}

results_are : (whens : List WhenReading) (last : Option ScalarReading) → map found_scalar (results_of whens last) ≡ results (map found_when whens) (option_map found_scalar last)
results_are [] None = refl
results_are [] (Some last) = refl
results_are (when ∷ more) None = ap (λ values. found_scalar when.value ∷ values) (results_are more None)
results_are (when ∷ more) (Some last) = ap (λ values. found_scalar when.value ∷ values) (results_are more (Some last))

domain_is : (values : List ScalarReading) → reading.first_domain values ≡ first_domain (map found_scalar values)
domain_is [] = refl
domain_is (value ∷ more) = refl

capped_max : (m n : ℕ) → capped (max m n) ≡ max (capped m) (capped n)
capped_max m n = omega arith

greater_is : (a b : Option ℕ) → option_map capped (both_bounds max a b) ≡ both_bounds max (option_map capped a) (option_map capped b)
greater_is (Some m) (Some n) = ap Some (capped_max m n)
greater_is (Some m) None = refl
greater_is None b = refl

greatest_is : (values : List ScalarReading) → option_map capped (reading.greatest_bound values) ≡ greatest (map found_scalar values)
greatest_is [] = refl
greatest_is (value ∷ more) = greater_is value.bound (reading.greatest_bound more) ∙ ap (both_bounds max (option_map capped value.bound)) (greatest_is more)

unlikes : Option Domain → List ScalarReading → List Fault
unlikes domain = flat_map (λ value. fault_if (differ domain value.domain) 305 value.at)

unlikes_are : (domain : Option Domain) (values : List ScalarReading) → first_fault (unlikes domain values) ≡ first_unlike domain (map found_scalar values)
unfolding unlikes
unlikes_are domain [] = refl
unlikes_are domain (value ∷ more) =
    first_fault_append (fault_if (differ domain value.domain) 305 value.at) (flat_map (λ value. fault_if (differ domain value.domain) 305 value.at) more)
    ∙ (λ j. earlier_if (tested (differ domain value.domain) 305 value.at j) (unlikes_are domain more j))

when_is : (when : WhenReading) → outcome (record { cond = when.cond.tree; value = when.value.tree }) (when.cond.faults ++ when.value.faults) ≡ when_tree (found_when when)
when_is when =
    outcome_form (λ both. record { cond = both.0; value = both.1 }) (when.cond.tree, when.value.tree) (when.cond.faults ++ when.value.faults)
    ∙ ap (formed (λ both. record { cond = both.0; value = both.1 })) (outcome_pair when.cond.tree when.value.tree when.cond.faults when.value.faults)

whens_are : (whens : List WhenReading) → map (λ when. outcome (record { cond = when.cond.tree; value = when.value.tree }) (when.cond.faults ++ when.value.faults)) whens ≡ map when_tree (map found_when whens)
whens_are [] = refl
whens_are (when ∷ more) = λ j. when_is when j ∷ whens_are more j

last_is : (last : Option ScalarReading) → outcome (tree_if last) (faults_if last) ≡ last_tree (option_map found_scalar last)
last_is None = refl
last_is (Some value) = outcome_form Some value.tree value.faults

trees_of : List WhenReading → List SqlWhen
trees_of = map (λ when. record { cond = when.cond.tree; value = when.value.tree })

faults_of : List WhenReading → List Fault
faults_of = flat_map (λ when. when.cond.faults ++ when.value.faults)

tree_is : (whens : List WhenReading) (last : Option ScalarReading) (domain : Option Domain) (values : List ScalarReading)
    → outcome (Case (trees_of whens) (tree_if last)) (faults_of whens ++ (faults_if last ++ unlikes domain values))
    ≡ formed (λ both. Case both.0 both.1) (paired (all_of (map when_tree (map found_when whens))) (also (last_tree (option_map found_scalar last)) (first_unlike domain (map found_scalar values))))
unfolding trees_of faults_of
tree_is whens last domain values =
    outcome_form (λ both. Case both.0 both.1) (trees_of whens, tree_if last) (faults_of whens ++ (faults_if last ++ unlikes domain values))
    ∙ ap (formed (λ both. Case both.0 both.1))
    (outcome_pair (trees_of whens) (tree_if last) (faults_of whens) (faults_if last ++ unlikes domain values)
    ∙ (λ j. paired ((outcome_each (λ (when : WhenReading). record { cond = when.cond.tree; value = when.value.tree }) (λ (when : WhenReading). when.cond.faults ++ when.value.faults) whens ∙ ap all_of (whens_are whens)) j)
    ((outcome_also (tree_if last) (faults_if last) (unlikes domain values) ∙ (λ i. also (last_is last i) (unlikes_are domain values i))) j)))

-- a choice by its values
by_values : ℕ → List FoundWhen → Option FoundScalar → Option Domain → Option Domain → List FoundScalar → FoundScalar
by_values at whens last shown domain values = record {
  at = at;
  domain = shown;
  bound = greatest values;
  own_name = None;
  tree = formed (λ both. Case both.0 both.1) (paired (all_of (map when_tree whens)) (also (last_tree last) (first_unlike domain values)));
}

pub choice_is : (at : ℕ) (whens : List WhenReading) (last : Option ScalarReading) → found_scalar (case_reading at whens last) ≡ choice at (map found_when whens) (option_map found_scalar last)
unfolding trees_of faults_of unlikes by_values
choice_is at whens last =
    let values = results_of whens last in
    let ws = map found_when whens in
    let l = option_map found_scalar last in
    (λ j. record {
      at = at;
      domain = domain_is values j;
      bound = greatest_is values j;
      own_name = None;
      tree = (ap (outcome (Case (trees_of whens) (tree_if last))) (append_assoc (faults_of whens) (faults_if last) (unlikes (reading.first_domain values) values))
          ∙ tree_is whens last (reading.first_domain values) values) j;
    })
    ∙ (λ j. by_values at ws l (first_domain (map found_scalar values)) (domain_is values j) (map found_scalar values))
    ∙ (λ j. by_values at ws l (first_domain (results_are whens last j)) (first_domain (results_are whens last j)) (results_are whens last j))
