-- What is found of each part of a script, by what is found of the parts below it.
use Rattle.std.proofs.Common.{◌≡◌, ℕ, Bool, rules, Option, Some, None, List, ◌++◌, map, sym, ap, ◌∙◌, append_assoc}
use Rattle.std.specs.List.{flat_map}
use Rattle.std.specs.Option.{option_map}
use Rattle.std.proofs.lemmas.Simd.{map-map}
use Rattle.prefsql_values.specs.declared.value.CompareOp.{CompareOp}
use Rattle.prefsql_tables.specs.Table.{Tables}
use Rattle.query_tree.specs.declared.name.NameTree.{NameTree}
use Rattle.query_tree.specs.declared.name.LiteralTree.{LiteralTree}
use Rattle.sql_tree.specs.declared.tree.SqlCond as sql
use Rattle.sql_text.specs.declared.named.NamedCond.{NamedCond, And, Or, Not, Compare, Between, OneOf, IsNull, Exists}
use Rattle.sql_text.specs.declared.named.NamedCond.TheOpen.{NamedCond-F, NamedScalar-F}
use Rattle.sql_text.specs.declared.named.NamedCond.TheFolds.{the_lemmas, fold-roll-NamedCond, fold-roll-NamedScalar}
use Rattle.sql_text.specs.declared.named.NamedCond.TheViews.{rolls-And, rolls-Or, rolls-Not, rolls-Compare, rolls-Between, rolls-OneOf, rolls-IsNull, rolls-Exists, rolls-Column, rolls-Literal, rolls-Sum, rolls-Case}
use Rattle.sql_text.specs.declared.named.NamedScalar.{NamedScalar, Column, Literal, Sum, Case}
use Rattle.sql_text.specs.declared.named.NamedQuery.{NamedQuery}
use Rattle.sql_text.specs.declared.named.NamedTerm.{NamedTerm}
use Rattle.sql_text.specs.declared.named.NamedWhen.{NamedWhen}
use Rattle.sql_resolver.specs.NamesMeant.{places_of}
use Rattle.sql_resolver.specs.Scope.{Scopes, names_in}
use Rattle.sql_resolver.specs.Outcomes.{all_of, formed, outcome}
use Rattle.sql_resolver.specs.Reading.{CondReading, In, ScalarReading, TermReading, WhenReading, column_reading, cond_reading, cond_step, from_reading, from_step, item_reading, item_step, literal_reading, query_reading, query_step, scalar_reading, scalar_step, select_reading, select_step, term_reading, term_step, unlike, when_reading, when_step}
use Rattle.sql_resolver.specs.Found.{between, choice, compared, cond_found, exists, found_cond, found_scalar, found_term, found_when, one_of, query_found, scalar_found, sum_of, term_found, when_found}
use Rattle.sql_resolver.proofs.OutcomeLaws.{outcome_each, outcome_form}
use Rattle.sql_resolver.proofs.CondLaws.{between_is, compare_is, exists_is, one_of_is}
use Rattle.sql_resolver.proofs.SumLaws.{sum_is}
use Rattle.sql_resolver.proofs.ChoiceLaws.{choice_is}

-- ---- conditions

cond_rolled : (tables : Tables) (c d : NamedCond) (scopes : Scopes) → c ≡ d → cond_found tables d scopes ≡ cond_found tables c scopes
cond_rolled tables c d scopes is = ap (λ x. cond_found tables x scopes) (sym is)

pub found-And : (tables : Tables) (parts : List NamedCond) (scopes : Scopes) → cond_found tables (And parts) scopes ≡ formed sql.And (all_of (map (λ part. cond_found tables part scopes) parts))
unfolding cond_found cond_reading from_reading scalar_reading select_reading item_reading query_reading term_reading when_reading
found-And tables parts scopes =
    let trees : List (In CondReading) = map (cond_reading tables) parts in
    cond_rolled tables _ _ scopes (rolls-And parts)
    ∙ (λ j. found_cond (fold-roll-NamedCond _ _ _ _ _ _ _ _ cond_step (from_step tables) scalar_step select_step item_step (query_step tables) term_step when_step (NamedCond-F.And parts) j scopes))
    ∙ outcome_form sql.And (map (λ (part : In CondReading). (part scopes).tree) trees) (flat_map (λ (part : In CondReading). (part scopes).faults) trees)
    ∙ ap (formed sql.And) (outcome_each (λ (part : In CondReading). (part scopes).tree) (λ (part : In CondReading). (part scopes).faults) trees
    ∙ ap all_of (map-map (λ (part : In CondReading). found_cond (part scopes)) (cond_reading tables) parts))

pub found-Or : (tables : Tables) (parts : List NamedCond) (scopes : Scopes) → cond_found tables (Or parts) scopes ≡ formed sql.Or (all_of (map (λ part. cond_found tables part scopes) parts))
unfolding cond_found cond_reading from_reading scalar_reading select_reading item_reading query_reading term_reading when_reading
found-Or tables parts scopes =
    let trees : List (In CondReading) = map (cond_reading tables) parts in
    cond_rolled tables _ _ scopes (rolls-Or parts)
    ∙ (λ j. found_cond (fold-roll-NamedCond _ _ _ _ _ _ _ _ cond_step (from_step tables) scalar_step select_step item_step (query_step tables) term_step when_step (NamedCond-F.Or parts) j scopes))
    ∙ outcome_form sql.Or (map (λ (part : In CondReading). (part scopes).tree) trees) (flat_map (λ (part : In CondReading). (part scopes).faults) trees)
    ∙ ap (formed sql.Or) (outcome_each (λ (part : In CondReading). (part scopes).tree) (λ (part : In CondReading). (part scopes).faults) trees
    ∙ ap all_of (map-map (λ (part : In CondReading). found_cond (part scopes)) (cond_reading tables) parts))

pub found-Not : (tables : Tables) (part : NamedCond) (scopes : Scopes) → cond_found tables (Not part) scopes ≡ formed sql.Not (cond_found tables part scopes)
unfolding cond_found cond_reading from_reading scalar_reading select_reading item_reading query_reading term_reading when_reading
found-Not tables part scopes =
    cond_rolled tables _ _ scopes (rolls-Not part)
    ∙ (λ j. found_cond (fold-roll-NamedCond _ _ _ _ _ _ _ _ cond_step (from_step tables) scalar_step select_step item_step (query_step tables) term_step when_step (NamedCond-F.Not part) j scopes))
    ∙ outcome_form sql.Not (cond_reading tables part scopes).tree (cond_reading tables part scopes).faults

pub found-Compare : (tables : Tables) (op : CompareOp) (a b : NamedScalar) (scopes : Scopes) → cond_found tables (Compare op a b) scopes ≡ compared op (scalar_found tables a scopes) (scalar_found tables b scopes)
unfolding cond_found scalar_found cond_reading from_reading scalar_reading select_reading item_reading query_reading term_reading when_reading
found-Compare tables op a b scopes =
    let ra = scalar_reading tables a scopes in
    let rb = scalar_reading tables b scopes in
    cond_rolled tables _ _ scopes (rolls-Compare op a b)
    ∙ (λ j. found_cond (fold-roll-NamedCond _ _ _ _ _ _ _ _ cond_step (from_step tables) scalar_step select_step item_step (query_step tables) term_step when_step (NamedCond-F.Compare op a b) j scopes))
    ∙ ap (outcome (sql.Compare op ra.tree rb.tree)) (append_assoc ra.faults rb.faults (unlike ra rb))
    ∙ compare_is op ra rb

pub found-Between : (tables : Tables) (negated : Bool) (a low high : NamedScalar) (scopes : Scopes)
    → cond_found tables (Between negated a low high) scopes ≡ between negated (scalar_found tables a scopes) (scalar_found tables low scopes) (scalar_found tables high scopes)
unfolding cond_found scalar_found cond_reading from_reading scalar_reading select_reading item_reading query_reading term_reading when_reading
found-Between tables negated a low high scopes =
    let ra = scalar_reading tables a scopes in
    let rl = scalar_reading tables low scopes in
    let rh = scalar_reading tables high scopes in
    let u = unlike ra rl in
    let v = unlike ra rh in
    cond_rolled tables _ _ scopes (rolls-Between negated a low high)
    ∙ (λ j. found_cond (fold-roll-NamedCond _ _ _ _ _ _ _ _ cond_step (from_step tables) scalar_step select_step item_step (query_step tables) term_step when_step (NamedCond-F.Between negated a low high) j scopes))
    ∙ ap (outcome (sql.Between negated ra.tree rl.tree rh.tree))
    (append_assoc ((ra.faults ++ rl.faults) ++ rh.faults) u v ∙ append_assoc (ra.faults ++ rl.faults) rh.faults (u ++ v) ∙ append_assoc ra.faults rl.faults (rh.faults ++ (u ++ v)))
    ∙ between_is negated ra rl rh

pub found-OneOf : (tables : Tables) (negated : Bool) (a : NamedScalar) (list : List NamedScalar) (scopes : Scopes)
    → cond_found tables (OneOf negated a list) scopes ≡ one_of negated (scalar_found tables a scopes) (map (λ b. scalar_found tables b scopes) list)
unfolding cond_found scalar_found cond_reading from_reading scalar_reading select_reading item_reading query_reading term_reading when_reading
found-OneOf tables negated a list scopes =
    let ra = scalar_reading tables a scopes in
    cond_rolled tables _ _ scopes (rolls-OneOf negated a list)
    ∙ (λ j. found_cond (fold-roll-NamedCond _ _ _ _ _ _ _ _ cond_step (from_step tables) scalar_step select_step item_step (query_step tables) term_step when_step (NamedCond-F.OneOf negated a list) j scopes))
    ∙ one_of_is negated ra (λ (b : In ScalarReading). b scopes) (map (scalar_reading tables) list)
    ∙ ap (one_of negated (found_scalar ra)) (map-map (λ (b : In ScalarReading). found_scalar (b scopes)) (scalar_reading tables) list)

pub found-IsNull : (tables : Tables) (negated : Bool) (a : NamedScalar) (scopes : Scopes) → cond_found tables (IsNull negated a) scopes ≡ formed (sql.IsNull negated) (scalar_found tables a scopes).tree
unfolding cond_found scalar_found cond_reading from_reading scalar_reading select_reading item_reading query_reading term_reading when_reading
found-IsNull tables negated a scopes =
    cond_rolled tables _ _ scopes (rolls-IsNull negated a)
    ∙ (λ j. found_cond (fold-roll-NamedCond _ _ _ _ _ _ _ _ cond_step (from_step tables) scalar_step select_step item_step (query_step tables) term_step when_step (NamedCond-F.IsNull negated a) j scopes))
    ∙ outcome_form (sql.IsNull negated) (scalar_reading tables a scopes).tree (scalar_reading tables a scopes).faults

pub found-Exists : (tables : Tables) (query : NamedQuery) (scopes : Scopes) → cond_found tables (Exists query) scopes ≡ exists (query_found tables query scopes)
unfolding cond_found query_found cond_reading from_reading scalar_reading select_reading item_reading query_reading term_reading when_reading
found-Exists tables query scopes =
    cond_rolled tables _ _ scopes (rolls-Exists query)
    ∙ (λ j. found_cond (fold-roll-NamedCond _ _ _ _ _ _ _ _ cond_step (from_step tables) scalar_step select_step item_step (query_step tables) term_step when_step (NamedCond-F.Exists query) j scopes))
    ∙ exists_is (query_reading tables query scopes)

-- ---- scalars

scalar_rolled : (tables : Tables) (a b : NamedScalar) (scopes : Scopes) → a ≡ b → scalar_found tables b scopes ≡ scalar_found tables a scopes
scalar_rolled tables a b scopes is = ap (λ x. scalar_found tables x scopes) (sym is)

pub found-Column : (tables : Tables) (name : NameTree) (scopes : Scopes) → scalar_found tables (Column name) scopes ≡ found_scalar (column_reading name scopes (places_of name.first name.second 0 (names_in scopes)))
unfolding scalar_found cond_reading from_reading scalar_reading select_reading item_reading query_reading term_reading when_reading
found-Column tables name scopes =
    scalar_rolled tables _ _ scopes (rolls-Column name)
    ∙ (λ j. found_scalar (fold-roll-NamedScalar _ _ _ _ _ _ _ _ cond_step (from_step tables) scalar_step select_step item_step (query_step tables) term_step when_step (NamedScalar-F.Column name) j scopes))

pub found-Literal : (tables : Tables) (literal : LiteralTree) (scopes : Scopes) → scalar_found tables (Literal literal) scopes ≡ found_scalar (literal_reading literal.value literal.at)
unfolding scalar_found cond_reading from_reading scalar_reading select_reading item_reading query_reading term_reading when_reading
found-Literal tables literal scopes =
    scalar_rolled tables _ _ scopes (rolls-Literal literal)
    ∙ (λ j. found_scalar (fold-roll-NamedScalar _ _ _ _ _ _ _ _ cond_step (from_step tables) scalar_step select_step item_step (query_step tables) term_step when_step (NamedScalar-F.Literal literal) j scopes))

pub found-Sum : (tables : Tables) (terms : List NamedTerm) (scopes : Scopes) → scalar_found tables (Sum terms) scopes ≡ sum_of (map (λ term. term_found tables term scopes) terms)
unfolding scalar_found term_found cond_reading from_reading scalar_reading select_reading item_reading query_reading term_reading when_reading
found-Sum tables terms scopes =
    let read : In TermReading → TermReading = λ term. term scopes in
    scalar_rolled tables _ _ scopes (rolls-Sum terms)
    ∙ (λ j. found_scalar (fold-roll-NamedScalar _ _ _ _ _ _ _ _ cond_step (from_step tables) scalar_step select_step item_step (query_step tables) term_step when_step (NamedScalar-F.Sum terms) j scopes))
    ∙ sum_is (map read (map (term_reading tables) terms))
    ∙ ap sum_of (map-map found_term read (map (term_reading tables) terms) ∙ map-map (λ (term : In TermReading). found_term (term scopes)) (term_reading tables) terms)

pub found-Case : (tables : Tables) (at : ℕ) (whens : List NamedWhen) (last : Option NamedScalar) (scopes : Scopes)
    → scalar_found tables (Case at whens last) scopes ≡ choice at (map (λ when. when_found tables when scopes) whens) (option_map (λ value. scalar_found tables value scopes) last)
unfolding scalar_found when_found cond_reading from_reading scalar_reading select_reading item_reading query_reading term_reading when_reading
found-Case tables at whens None scopes =
    let read : In WhenReading → WhenReading = λ when. when scopes in
    scalar_rolled tables _ _ scopes (rolls-Case at whens None)
    ∙ (λ j. found_scalar (fold-roll-NamedScalar _ _ _ _ _ _ _ _ cond_step (from_step tables) scalar_step select_step item_step (query_step tables) term_step when_step (NamedScalar-F.Case at whens None) j scopes))
    ∙ choice_is at (map read (map (when_reading tables) whens)) None
    ∙ ap (λ ws. choice at ws None) (map-map found_when read (map (when_reading tables) whens) ∙ map-map (λ (when : In WhenReading). found_when (when scopes)) (when_reading tables) whens)
found-Case tables at whens (Some value) scopes =
    let read : In WhenReading → WhenReading = λ when. when scopes in
    scalar_rolled tables _ _ scopes (rolls-Case at whens (Some value))
    ∙ (λ j. found_scalar (fold-roll-NamedScalar _ _ _ _ _ _ _ _ cond_step (from_step tables) scalar_step select_step item_step (query_step tables) term_step when_step (NamedScalar-F.Case at whens (Some value)) j scopes))
    ∙ choice_is at (map read (map (when_reading tables) whens)) (Some (scalar_reading tables value scopes))
    ∙ ap (λ ws. choice at ws (Some (found_scalar (scalar_reading tables value scopes)))) (map-map found_when read (map (when_reading tables) whens) ∙ map-map (λ (when : In WhenReading). found_when (when scopes)) (when_reading tables) whens)

pub found_of_term : (tables : Tables) (term : NamedTerm) (scopes : Scopes) → term_found tables term scopes ≡ record { minus = term.minus; scalar = scalar_found tables term.scalar scopes }
unfolding scalar_found term_found cond_reading from_reading scalar_reading select_reading item_reading query_reading term_reading when_reading
found_of_term tables term scopes = search (rules, the_lemmas)

pub found_of_when : (tables : Tables) (when : NamedWhen) (scopes : Scopes) → when_found tables when scopes ≡ record { cond = cond_found tables when.cond scopes; value = scalar_found tables when.value scopes }
unfolding scalar_found cond_found when_found cond_reading from_reading scalar_reading select_reading item_reading query_reading term_reading when_reading
found_of_when tables when scopes = search (rules, the_lemmas)

pub ruleset cond_rules = (found-And, found-Or, found-Not, found-Compare, found-Between, found-OneOf, found-IsNull, found-Exists)

pub ruleset scalar_rules = (found-Column, found-Literal, found-Sum, found-Case)

pub ruleset part_rules = (found_of_term, found_of_when)
