-- The codes of a graph, one value after another.
use Rattle.std.proofs.Common.{◌≡◌, ℕ, zero, suc, ◌+◌, ◌<◌, Bool, true, false, cond, List, [], ◌∷◌, ◌++◌, length, get_or, take, map, refl, sym, ap, ◌∙◌, arith, append-nil}
use Rattle.std.proofs.lemmas.List.{map-append}
use Rattle.prefsql_values.specs.declared.value.Value.{Value}
use Rattle.prefsql_values.specs.declared.value.Value.TheVariants.{Null}
use Rattle.base_prefs.specs.declared.edge.Edge.{Edge}
use Rattle.base_prefs.specs.Graph.{graph_values, is_above}
use Rattle.base_prefs.specs.View.{is_above_at}
use Rattle.sql_tree.specs.declared.tree.SqlCond.{SqlCond}
use Rattle.sql_tree.specs.declared.tree.SqlScalar.{SqlScalar}
use Rattle.rewritten_query.specs.Leaves.{number}
use Rattle.rewritten_query.specs.Rankings.{code_part, code_parts, codes_where}

-- the code, if the value passes
abbrev pub code_if : Bool → ℕ → List ℕ
code_if passes n = cond passes (n ∷ []) []

joined : (b : Bool) (n : ℕ) (xs ys : List ℕ) → cond b (n ∷ (xs ++ ys)) (xs ++ ys) ≡ cond b (n ∷ xs) xs ++ ys
joined true n xs ys = refl
joined false n xs ys = refl

codes_step : (passes : Value → Bool) (n i : ℕ) (values : List Value) → i < length values → codes_where passes n (take (suc i) values) ≡ codes_where passes n (take i values) ++ code_if (passes (get_or values i Null)) (n + i)
codes_step passes n i [] small = absurd (omega arith)
codes_step passes n zero (v ∷ values) small = let e : n ≡ n + 0 = omega arith in ap (λ m. cond (passes v) (m ∷ []) []) e
codes_step passes n (suc i) (v ∷ values) small =
    let e : n + 1 + i ≡ n + suc i = omega arith in
    ap (λ more. cond (passes v) (n ∷ more) more) (codes_step passes (n + 1) i values (omega arith))
    ∙ joined (passes v) n (codes_where passes (n + 1) (take i values)) (code_if (passes (get_or values i Null)) (n + 1 + i))
    ∙ ap (λ m. cond (passes v) (n ∷ codes_where passes (n + 1) (take i values)) (codes_where passes (n + 1) (take i values)) ++ code_if (passes (get_or values i Null)) m) e

pub codes_more : (passes : Value → Bool) (n i : ℕ) (values : List Value) → i < length values → codes_where passes n (take (i + 1) values) ≡ codes_where passes n (take i values) ++ code_if (passes (get_or values i Null)) (n + i)
codes_more passes n i values small = ap (λ m. codes_where passes n (take m values)) add-one_at ∙ codes_step passes n i values small
  where
    add-one_at : i + 1 ≡ suc i
    add-one_at = omega arith

-- the listing after one more value
listed_by : (b : Bool) (codes : List SqlScalar) (ns : List ℕ) (n : ℕ) → codes ≡ number 0 ∷ map number ns → cond b (codes ++ number n ∷ []) codes ≡ number 0 ∷ map number (ns ++ code_if b n)
listed_by true codes ns n is = ap (λ xs. xs ++ number n ∷ []) is ∙ ap (λ xs. number 0 ∷ xs) (sym (map-append number ns (n ∷ [])))
listed_by false codes ns n is = is ∙ ap (λ xs. number 0 ∷ map number xs) (sym (append-nil ns))

pub codes_listed : (passes : Value → Bool) (values : List Value) (i : ℕ) (b : Bool) (codes new : List SqlScalar) → i < length values → b ≡ passes (get_or values i Null)
    → codes ≡ number 0 ∷ map number (codes_where passes 1 (take i values)) → new ≡ cond b (codes ++ number (1 + i) ∷ []) codes
    → new ≡ number 0 ∷ map number (codes_where passes 1 (take (i + 1) values))
codes_listed passes values i b codes new small b_is so_far new_is =
    new_is
    ∙ listed_by b codes (codes_where passes 1 (take i values)) (1 + i) so_far
    ∙ ap (λ ns. number 0 ∷ map number ns) (ap (λ c. codes_where passes 1 (take i values) ++ code_if c (1 + i)) b_is ∙ sym (codes_more passes 1 i values small))

-- what `graph_better` tells of two places
pub above_is : (edges : List Edge) (values : List Value) (upper lower : ℕ) (r : Bool) → values ≡ graph_values edges → r ≡ is_above_at edges upper lower
    → r ≡ is_above edges (get_or values upper Null) (get_or values lower Null)
above_is edges values upper lower r listed told = told ∙ ap (λ ws. is_above edges (get_or ws upper Null) (get_or ws lower Null)) (sym listed)

-- ---- the parts

parts_step : (upper lower : ℕ → SqlScalar) (edges : List Edge) (column n i : ℕ) (values : List Value) → i < length values → code_parts upper lower edges column n (take (suc i) values) ≡ code_parts upper lower edges column n (take i values) ++ code_part upper lower edges column (n + i) (get_or values i Null) ∷ []
parts_step upper lower edges column n i [] small = absurd (omega arith)
parts_step upper lower edges column n zero (v ∷ values) small = let e : n ≡ n + 0 = omega arith in ap (λ m. code_part upper lower edges column m v ∷ []) e
parts_step upper lower edges column n (suc i) (v ∷ values) small =
    let e : n + 1 + i ≡ n + suc i = omega arith in
    ap (λ more. code_part upper lower edges column n v ∷ more) (parts_step upper lower edges column (n + 1) i values (omega arith) ∙ ap (λ m. code_parts upper lower edges column (n + 1) (take i values) ++ code_part upper lower edges column m (get_or values i Null) ∷ []) e)

pub parts_pushed : (upper lower : ℕ → SqlScalar) (edges : List Edge) (column i : ℕ) (values : List Value) (parts new : List SqlCond) (part : SqlCond) → i < length values → parts ≡ code_parts upper lower edges column 1 (take i values)
    → part ≡ code_part upper lower edges column (i + 1) (get_or values i Null) → new ≡ parts ++ part ∷ [] → new ≡ code_parts upper lower edges column 1 (take (i + 1) values)
parts_pushed upper lower edges column i values parts new part small so_far part_is pushed =
    let one : i + 1 ≡ 1 + i = omega arith in
    let next : suc i ≡ i + 1 = omega arith in
    pushed
    ∙ (λ j. so_far j ++ (part_is ∙ ap (λ m. code_part upper lower edges column m (get_or values i Null)) one) j ∷ [])
    ∙ sym (parts_step upper lower edges column 1 i values small)
    ∙ ap (λ m. code_parts upper lower edges column 1 (take m values)) next
