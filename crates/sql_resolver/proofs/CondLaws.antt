-- What is found of a condition, by what is found of its parts.
use Rattle.std.proofs.Common.{◌≡◌, ℕ, Bool, true, false, cond, Option, Some, None, List, [], ◌∷◌, ◌++◌, map, refl, sym, ap, ◌∙◌, append_assoc}
use Rattle.std.specs.List.{flat_map}
use Rattle.prefsql_lexer.specs.declared.fault.Spot.{Spot}
use Rattle.prefsql_values.specs.declared.value.CompareOp.{CompareOp}
use Rattle.sql_tree.specs.declared.tree.SqlCond.{Compare, Between, OneOf, Exists}
use Rattle.sql_tree.specs.declared.tree.SqlQuery.{SqlQuery}
use Rattle.sql_resolver.specs.Scope.{ScopeColumn}
use Rattle.sql_resolver.specs.Owed.{differ, fault, fault_if, inner_faults}
use Rattle.sql_resolver.specs.Outcomes.{all_of, also, first_fault, formed, outcome, paired}
use Rattle.sql_resolver.specs.Reading as reading
use Rattle.sql_resolver.specs.Reading.{QueryReading, ScalarReading}
use Rattle.sql_resolver.specs.Found.{alike, between, capped_column, compared, exists, exists_at, found_query, found_scalar, one_of, unless_spot, unlike}
use Rattle.sql_resolver.proofs.OutcomeLaws.{outcome_also, outcome_each, outcome_form, outcome_pair}

pub tested : (test : Bool) (code at : ℕ) → first_fault (fault_if test code at) ≡ cond test (Some (fault code at)) None
tested true code at = refl
tested false code at = refl

pub unlike_is : (a b : ScalarReading) → first_fault (reading.unlike a b) ≡ unlike a.domain (found_scalar b)
unlike_is a b = tested (differ a.domain b.domain) 305 b.at

alike_is : (a b : ScalarReading) → outcome b.tree (b.faults ++ reading.unlike a b) ≡ alike a.domain (found_scalar b)
alike_is a b = outcome_also b.tree b.faults (reading.unlike a b) ∙ ap (also (outcome b.tree b.faults)) (unlike_is a b)

pub compare_is : (op : CompareOp) (a b : ScalarReading) → outcome (Compare op a.tree b.tree) (a.faults ++ (b.faults ++ reading.unlike a b)) ≡ compared op (found_scalar a) (found_scalar b)
compare_is op a b =
    outcome_form (λ both. Compare op both.0 both.1) (a.tree, b.tree) (a.faults ++ (b.faults ++ reading.unlike a b))
    ∙ ap (formed (λ both. Compare op both.0 both.1))
    (outcome_pair a.tree b.tree a.faults (b.faults ++ reading.unlike a b) ∙ ap (paired (outcome a.tree a.faults)) (alike_is a b))

high_is : (a low high : ScalarReading) → outcome high.tree (high.faults ++ (reading.unlike a low ++ reading.unlike a high))
    ≡ also (also (outcome high.tree high.faults) (unlike a.domain (found_scalar low))) (unlike a.domain (found_scalar high))
high_is a low high =
    ap (outcome high.tree) (sym (append_assoc high.faults (reading.unlike a low) (reading.unlike a high)))
    ∙ outcome_also high.tree (high.faults ++ reading.unlike a low) (reading.unlike a high)
    ∙ (λ j. also (outcome_also high.tree high.faults (reading.unlike a low) j) (unlike_is a high j))
    ∙ (λ j. also (also (outcome high.tree high.faults) (unlike_is a low j)) (unlike a.domain (found_scalar high)))

pub between_is : (negated : Bool) (a low high : ScalarReading)
    → outcome (Between negated a.tree low.tree high.tree) (a.faults ++ (low.faults ++ (high.faults ++ (reading.unlike a low ++ reading.unlike a high))))
    ≡ between negated (found_scalar a) (found_scalar low) (found_scalar high)
between_is negated a low high =
    let more = high.faults ++ (reading.unlike a low ++ reading.unlike a high) in
    outcome_form (λ both. Between negated both.0 both.1.0 both.1.1) (a.tree, (low.tree, high.tree)) (a.faults ++ (low.faults ++ more))
    ∙ ap (formed (λ both. Between negated both.0 both.1.0 both.1.1))
    (outcome_pair a.tree (low.tree, high.tree) a.faults (low.faults ++ more)
    ∙ ap (paired (outcome a.tree a.faults))
    (outcome_pair low.tree high.tree low.faults more ∙ ap (paired (outcome low.tree low.faults)) (high_is a low high)))

alikes : {R : Type 0} (a : ScalarReading) (read : R → ScalarReading) (bs : List R)
    → map (λ b. outcome (read b).tree ((read b).faults ++ reading.unlike a (read b))) bs ≡ map (alike a.domain) (map (λ b. found_scalar (read b)) bs)
alikes a read [] = refl
alikes a read (b ∷ bs) = λ j. alike_is a (read b) j ∷ alikes a read bs j

pub one_of_is : {R : Type 0} (negated : Bool) (a : ScalarReading) (read : R → ScalarReading) (bs : List R)
    → outcome (OneOf negated a.tree (map (λ b. (read b).tree) bs)) (a.faults ++ flat_map (λ b. (read b).faults ++ reading.unlike a (read b)) bs)
    ≡ one_of negated (found_scalar a) (map (λ b. found_scalar (read b)) bs)
one_of_is negated a read bs =
    outcome_form (λ both. OneOf negated both.0 both.1) (a.tree, map (λ b. (read b).tree) bs) (a.faults ++ flat_map (λ b. (read b).faults ++ reading.unlike a (read b)) bs)
    ∙ ap (formed (λ both. OneOf negated both.0 both.1))
    (outcome_pair a.tree (map (λ b. (read b).tree) bs) a.faults (flat_map (λ b. (read b).faults ++ reading.unlike a (read b)) bs)
    ∙ ap (paired (outcome a.tree a.faults))
    (outcome_each (λ b. (read b).tree) (λ b. (read b).faults ++ reading.unlike a (read b)) bs ∙ ap all_of (alikes a read bs)))

exists_by : (at : ℕ) (tree : SqlQuery) (columns : List ScopeColumn) (first : Option Spot) → outcome (Exists tree) (inner_faults at first) ≡ exists_at at (unless_spot (record { tree = tree; columns = columns }) first)
exists_by at tree columns None = refl
exists_by at tree columns (Some spot) = refl

pub exists_is : (query : QueryReading) → outcome (Exists query.tree) (inner_faults query.at query.first) ≡ exists (found_query query)
exists_is query = exists_by query.at query.tree (map capped_column query.columns) query.first
