-- What a leaf ranks by, as an SQL scalar over the scalar of its column. The form is this project's
-- own, after the level columns of Kießling and Köstler (2002).
use Rattle.std.specs.Prelude.{ℕ, ◌+◌, pos, true, false, nat_eq, Some, None, List, [], ◌∷◌, ◌++◌}
use Rattle.std.specs.Prelude.{length, map, filter}
use Rattle.std.specs.List.{range_with_len}
use Rattle.prefsql_values.specs.declared.value.CompareOp.TheVariants.{Eq, Lt, Gt}
use Rattle.prefsql_values.specs.declared.value.Value.{Value}
use Rattle.prefsql_values.specs.declared.value.Value.TheVariants.{Num, Str, Null}
use Rattle.base_prefs.specs.declared.edge.Edge.{Edge}
use Rattle.base_prefs.specs.declared.edge.ValueSet.{ValueSet}
use Rattle.base_prefs.specs.declared.kind.Kind.{Kind}
use Rattle.base_prefs.specs.declared.kind.Kind.TheVariants.{Pos, Neg, PosPos, PosNeg, Layered}
use Rattle.base_prefs.specs.declared.kind.Kind.TheVariants.{Explicit, Around, Between, Lowest}
use Rattle.base_prefs.specs.declared.kind.Kind.TheVariants.{Highest}
use Rattle.base_prefs.specs.Graph.{graph_height, graph_level, graph_values, greatest}
use Rattle.sql_tree.specs.declared.tree.SqlCond.{SqlCond, Compare, OneOf}
use Rattle.sql_tree.specs.declared.tree.SqlScalar.{SqlScalar, Number, Chars, Sum, Case}
use Rattle.sql_tree.specs.declared.tree.SqlWhen.{SqlWhen}

abbrev pub number : ℕ → SqlScalar
number n = Number (pos n)

-- a literal; NULL, which no literal is, is a CASE without a WHEN
abbrev pub literal : Value → SqlScalar
literal (Num n) = Number n
literal (Str text) = Chars text
literal Null = Case [] None

-- the values that a set keeps
abbrev pub is_among : SqlScalar → List Value → SqlCond
is_among x values = OneOf false x (map literal values)

abbrev pub when_so : SqlCond → SqlScalar → SqlWhen
when_so cond value = record { cond = cond; value = value }

abbrev pub cases : List SqlWhen → SqlScalar → SqlScalar
cases whens otherwise = Case whens (Some otherwise)

-- a - b
abbrev pub less : SqlScalar → SqlScalar → SqlScalar
less a b =
    Sum (record { minus = false; scalar = a } ∷ record { minus = true; scalar = b } ∷ [])

-- one WHEN for each set in order, with the numbers from n on
abbrev pub set_whens : SqlScalar → ℕ → List ValueSet → List SqlWhen
set_whens x n [] = []
set_whens x n (s ∷ sets) =
    when_so (is_among x s.values) (number n) ∷ set_whens x (n + 1) sets

-- the greatest level of a value of the graph
abbrev pub greatest_level : List Edge → ℕ
greatest_level edges = greatest (map (graph_height edges) (graph_values edges)) + 1

-- the values of the graph that have the level, in the order of their first writing
abbrev pub values_of_level : List Edge → ℕ → List Value
values_of_level edges n =
    filter (λ v. nat_eq (graph_level edges v) n) (graph_values edges)

abbrev pub level_when : SqlScalar → List Edge → ℕ → SqlWhen
level_when x edges n = when_so (is_among x (values_of_level edges n)) (number n)

-- one WHEN for each level from 1 on
abbrev pub level_whens : SqlScalar → List Edge → List SqlWhen
level_whens x edges = map (level_when x edges) (range_with_len 1 (greatest_level edges))

-- the level, the distance, or for LOWEST and HIGHEST the value
abbrev pub rank_scalar : Kind → SqlScalar → SqlScalar
rank_scalar (Pos s) x = cases (when_so (is_among x s.values) (number 1) ∷ []) (number 2)
rank_scalar (Neg s) x = cases (when_so (is_among x s.values) (number 2) ∷ []) (number 1)
rank_scalar (PosPos first second) x = cases
    (when_so (is_among x first.values) (number 1)
    ∷ when_so (is_among x second.values) (number 2) ∷ [])
    (number 3)
rank_scalar (PosNeg good bad) x = cases
    (when_so (is_among x good.values) (number 1)
    ∷ when_so (is_among x bad.values) (number 3) ∷ [])
    (number 2)
rank_scalar (Layered before after) x = cases
    (set_whens x 1 before ++ set_whens x (length before + 2) after)
    (number (length before + 1))
rank_scalar (Explicit g) x =
    cases (level_whens x g.edges) (number (greatest_level g.edges + 1))
rank_scalar (Around center) x = cases
    (when_so (Compare Lt x (Number center)) (less (Number center) x) ∷ [])
    (less x (Number center))
rank_scalar (Between low up) x = cases
    (when_so (Compare Lt x (Number low)) (less (Number low) x)
    ∷ when_so (Compare Gt x (Number up)) (less x (Number up)) ∷ [])
    (number 0)
rank_scalar Lowest x = x
rank_scalar Highest x = x

-- one WHEN for each value in order, with the codes from n on
abbrev pub code_whens : SqlScalar → ℕ → List Value → List SqlWhen
code_whens x n [] = []
code_whens x n (v ∷ values) =
    when_so (Compare Eq x (literal v)) (number n) ∷ code_whens x (n + 1) values

-- the code of a value of the graph, from 1 in the order of first writing, and 0 outside it
abbrev pub code_scalar : List Edge → SqlScalar → SqlScalar
code_scalar edges x = cases (code_whens x 1 (graph_values edges)) (number 0)
