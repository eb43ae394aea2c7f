use Rattle.std.proofs.Common.{map, take}
use Rattle.prefsql_tables.specs.Table.{Tables}
use Rattle.sql_exec.specs.Reach.{SpeaksOf}
use Rattle.sql_exec.specs.Wrapping.{term_value, truth_in, value_in, when_value}
use Rattle.sql_exec.proofs.reach.+reach.Given as goal

abbrev pub invariant-conds_reach-loop-cond : goal.invariant-conds_reach-loop-cond
invariant-conds_reach-loop-cond l = (tables : Tables) → SpeaksOf l.depth l.reach (λ scopes. map (λ y. truth_in tables y scopes) (take l.cond-index l.conds))

abbrev pub invariant-scalars_reach-loop-scalar : goal.invariant-scalars_reach-loop-scalar
invariant-scalars_reach-loop-scalar l = (tables : Tables) → SpeaksOf l.depth l.reach (λ scopes. map (λ y. value_in tables y scopes) (take l.scalar-index l.scalars))

abbrev pub invariant-terms_reach-loop-term : goal.invariant-terms_reach-loop-term
invariant-terms_reach-loop-term l = (tables : Tables) → SpeaksOf l.depth l.reach (λ scopes. map (λ y. term_value tables y scopes) (take l.term-index l.terms))

abbrev pub invariant-whens_reach-loop-when : goal.invariant-whens_reach-loop-when
invariant-whens_reach-loop-when l = (tables : Tables) → SpeaksOf l.depth l.reach (λ scopes. map (λ y. when_value tables y scopes) (take l.when-index l.whens))
