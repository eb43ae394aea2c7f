-- What is found of a sum, by what is found of its terms.
use Rattle.std.proofs.Common.{◌≡◌, ℕ, ◌+◌, ◌≤◌, nat_lt, false, cond, Option, Some, None, List, [], ◌∷◌, ◌++◌, map, Result, refl, sym, ap, ◌∙◌, arith, ⊎_elim}
use Rattle.std.specs.List.{flat_map}
use Rattle.std.specs.Option.{option_map}
use Rattle.std.proofs.lemmas.Bool.{cases_Bool}
use Rattle.std.proofs.lemmas.Bool.Decides.{nat_tests}
use Rattle.prefsql_values.specs.declared.value.Domain.{Domain}
use Rattle.prefsql_values.specs.declared.value.Domain.TheVariants.{Integer, Chars as CharsDomain}
use Rattle.sql_tree.specs.declared.tree.SqlScalar.{Sum}
use Rattle.sql_tree.specs.declared.tree.SumTerm.{SumTerm}
use Rattle.sql_resolver.specs.Owed.{Fault, both_bounds, fault, fault_if, is_text, max_bound}
use Rattle.sql_resolver.specs.Outcomes.{all_of, also, first_fault, formed, outcome}
use Rattle.sql_resolver.specs.Reading as reading
use Rattle.sql_resolver.specs.Reading.{ScalarReading, TermReading, bound_faults, bound_step, sum_reading}
use Rattle.sql_resolver.specs.Found.{above, above_step, added, capped, found_scalar, found_term, place_of_terms, sum_bound, sum_of, term_tree}
use Rattle.sql_resolver.proofs.OutcomeLaws.{outcome_also, outcome_each, outcome_form}

place_is : (terms : List TermReading) → reading.place_of_terms terms ≡ place_of_terms (map found_term terms)
place_is [] = refl
place_is (term ∷ more) = refl

capped_sum : (m n : ℕ) → capped (m + n) ≡ capped (capped m + capped n)
capped_sum m n = omega arith

added_is : (a b : Option ℕ) → option_map capped (both_bounds (λ m n. m + n) a b) ≡ added (option_map capped a) (option_map capped b)
added_is (Some m) (Some n) = ap Some (capped_sum m n)
added_is (Some m) None = refl
added_is None b = refl

bound_is : (terms : List TermReading) → option_map capped (reading.sum_bound terms) ≡ sum_bound (map found_term terms)
bound_is [] = refl
bound_is (term ∷ more) =
    added_is term.scalar.bound (reading.sum_bound more) ∙ ap (added (option_map capped term.scalar.bound)) (bound_is more)

-- ---- the first term that is too much

test_is : (total bound : ℕ) → nat_lt max_bound (total + bound) ≡ nat_lt max_bound (total + capped bound)
test_is total bound = grind (arith, nat_tests)

small_is : (total bound : ℕ) → nat_lt max_bound (total + bound) ≡ false → total + bound ≤ max_bound
small_is total bound not = grind (arith, nat_tests)

uncapped : (total bound : ℕ) → total + bound ≤ max_bound → capped bound ≡ bound
uncapped total bound small = omega arith

step_is : (total at : ℕ) (bound : Option ℕ) (later : ℕ → List Fault) (found : ℕ → Option Fault)
    → ((sum : ℕ) → sum ≤ max_bound → first_fault (later sum) ≡ found sum)
    → first_fault (bound_step total at bound later) ≡ above_step total at (option_map capped bound) found
step_is total at None later found same = refl
step_is total at (Some bound) later found same =
    ⊎_elim
    (λ over.
    ap (λ b. first_fault (cond b (fault 401 at ∷ []) (later (total + bound)))) over
    ∙ sym (ap (λ b. cond b (Some (fault 401 at)) (found (total + capped bound))) (sym (test_is total bound) ∙ over)))
    (λ under.
    let small = small_is total bound under in
    ap (λ b. first_fault (cond b (fault 401 at ∷ []) (later (total + bound)))) under
    ∙ same (total + bound) small
    ∙ ap (λ n. found (total + n)) (sym (uncapped total bound small))
    ∙ sym (ap (λ b. cond b (Some (fault 401 at)) (found (total + capped bound))) (sym (test_is total bound) ∙ under)))
    (cases_Bool (nat_lt max_bound (total + bound)))

above_is : (total : ℕ) (terms : List TermReading) → first_fault (bound_faults total terms) ≡ above total (map found_term terms)
above_is total [] = refl
above_is total (term ∷ more) =
    step_is total term.scalar.at term.scalar.bound (λ sum. bound_faults sum more) (λ sum. above sum (map found_term more))
    (λ sum small. above_is sum more)

-- ---- the terms

text_is : (at : ℕ) (domain : Option Domain) → first_fault (fault_if (is_text domain) 305 at) ≡ cond (is_text domain) (Some (fault 305 at)) None
text_is at (Some CharsDomain) = refl
text_is at (Some Integer) = refl
text_is at None = refl

term_outcome : TermReading → Result SumTerm Fault
term_outcome term =
    outcome (record { minus = term.minus; scalar = term.scalar.tree }) (term.scalar.faults ++ fault_if (is_text term.scalar.domain) 305 term.scalar.at)

term_is : (term : TermReading) → term_outcome term ≡ term_tree (found_term term)
unfolding term_outcome
term_is term =
    outcome_form (λ tree. record { minus = term.minus; scalar = tree }) term.scalar.tree (term.scalar.faults ++ fault_if (is_text term.scalar.domain) 305 term.scalar.at)
    ∙ ap (formed (λ tree. record { minus = term.minus; scalar = tree }))
    (outcome_also term.scalar.tree term.scalar.faults (fault_if (is_text term.scalar.domain) 305 term.scalar.at)
    ∙ ap (also (outcome term.scalar.tree term.scalar.faults)) (text_is term.scalar.at term.scalar.domain))

terms_are : (terms : List TermReading) → map term_outcome terms ≡ map term_tree (map found_term terms)
terms_are [] = refl
terms_are (term ∷ more) = λ j. term_is term j ∷ terms_are more j

term_trees : List TermReading → List SumTerm
term_trees = map (λ term. record { minus = term.minus; scalar = term.scalar.tree })

term_faults : List TermReading → List Fault
term_faults = flat_map (λ term. term.scalar.faults ++ fault_if (is_text term.scalar.domain) 305 term.scalar.at)

tree_is : (terms : List TermReading) → outcome (sum_reading terms).tree (sum_reading terms).faults ≡ (sum_of (map found_term terms)).tree
unfolding term_outcome term_trees term_faults
tree_is terms =
    outcome_also (Sum (term_trees terms)) (term_faults terms) (bound_faults 0 terms)
    ∙ (λ j. also (outcome_form Sum (term_trees terms) (term_faults terms) j) (above_is 0 terms j))
    ∙ ap (λ trees. also (formed Sum trees) (above 0 (map found_term terms)))
    (outcome_each (λ (term : TermReading). record { minus = term.minus; scalar = term.scalar.tree })
    (λ (term : TermReading). term.scalar.faults ++ fault_if (is_text term.scalar.domain) 305 term.scalar.at) terms
    ∙ ap all_of (terms_are terms))

pub sum_is : (terms : List TermReading) → found_scalar (sum_reading terms) ≡ sum_of (map found_term terms)
sum_is terms = λ j. record {
  at = place_is terms j;
  domain = Some Integer;
  bound = bound_is terms j;
  own_name = None;
  tree = tree_is terms j;
}
