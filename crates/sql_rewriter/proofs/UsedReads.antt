-- The columns of conditions and terms, variant by variant and one after another.
use Rattle.std.proofs.Common.{◌≡◌, ℕ, ◌+◌, ◌<◌, Bool, true, false, cond, List, [], ◌∷◌, ◌++◌, length, get_or, take, map, filter, refl, sym, ap, ◌∙◌, append_assoc, append-nil, arith}
use Rattle.std.specs.List.{flat_map, list_any, range_with_len}
use Rattle.std.proofs.lemmas.Grind.{flat_map-append}
use Rattle.std.proofs.lemmas.List.{take_more}
use Rattle.std.proofs.lemmas.List.FromFn.{filter_of_map_range_with_len_more}
use Rattle.prefsql_values.specs.declared.value.CompareOp.{CompareOp}
use Rattle.prefsql_tables.specs.declared.place.ColumnPlace.{ColumnPlace}
use Rattle.pref_terms.specs.declared.term.Leaf.{Leaf}
use Rattle.pref_terms.specs.declared.term.Term.{Term, Pareto, Prior, Dual}
use Rattle.pref_terms.specs.declared.term.Term as term
use Rattle.pref_terms.specs.Equations.{leaves_of-Leaf, leaves_of-Pareto, leaves_of-Prior, leaves_of-Dual}
use Rattle.pref_terms.specs.Terms.{leaves_of}
use Rattle.conditions.specs.declared.condition.Quality.{Quality}
use Rattle.conditions.specs.declared.condition.Scalar.{Scalar}
use Rattle.conditions.specs.declared.condition.Cond.{Cond}
use Rattle.conditions.specs.declared.condition.Cond as condition
use Rattle.conditions.specs.Meaning.{scalars_of}
use Rattle.conditions.proofs.CondReads.{scalars_of-And, scalars_of-Or, scalars_of-Not, scalars_of-Compare, scalars_of-Between, scalars_of-OneOf, scalars_of-IsNull, scalars_of-Top}
use Rattle.rewritten_query.specs.Columns.{own_column, place_eq, trivial_column}

flat_joined : (parts : List Cond) → flat_map (λ scalars. scalars) (map scalars_of parts) ≡ flat_map scalars_of parts
flat_joined [] = refl
flat_joined (part ∷ parts) = ap (λ more. scalars_of part ++ more) (flat_joined parts)

abbrev own : List Scalar → List ColumnPlace
own = flat_map own_column

pub own-And : (c : Cond) (parts : List Cond) → c ≡ condition.And parts → flat_map own_column (scalars_of c) ≡ flat_map own_column (flat_map scalars_of parts)
own-And c parts is = ap own (ap scalars_of is ∙ scalars_of-And parts ∙ flat_joined parts)

pub own-Or : (c : Cond) (parts : List Cond) → c ≡ condition.Or parts → flat_map own_column (scalars_of c) ≡ flat_map own_column (flat_map scalars_of parts)
own-Or c parts is = ap own (ap scalars_of is ∙ scalars_of-Or parts ∙ flat_joined parts)

pub own-Not : (c part : Cond) → c ≡ condition.Not part → flat_map own_column (scalars_of c) ≡ flat_map own_column (scalars_of part)
own-Not c part is = ap own (ap scalars_of is ∙ scalars_of-Not part)

pub own-Compare : (c : Cond) (op : CompareOp) (a b : Scalar) → c ≡ condition.Compare op a b → flat_map own_column (scalars_of c) ≡ own_column a ++ own_column b
own-Compare c op a b is = ap own (ap scalars_of is ∙ scalars_of-Compare op a b) ∙ ap (λ more. own_column a ++ more) (append-nil (own_column b))

pub own-Between : (c : Cond) (negate : Bool) (a low high : Scalar) → c ≡ condition.Between negate a low high → flat_map own_column (scalars_of c) ≡ own_column a ++ (own_column low ++ own_column high)
own-Between c negate a low high is = ap own (ap scalars_of is ∙ scalars_of-Between negate a low high) ∙ ap (λ more. own_column a ++ (own_column low ++ more)) (append-nil (own_column high))

pub own-OneOf : (c : Cond) (negate : Bool) (a : Scalar) (list : List Scalar) → c ≡ condition.OneOf negate a list → flat_map own_column (scalars_of c) ≡ own_column a ++ flat_map own_column list
own-OneOf c negate a list is = ap own (ap scalars_of is ∙ scalars_of-OneOf negate a list)

pub own-IsNull : (c : Cond) (negate : Bool) (a : Scalar) → c ≡ condition.IsNull negate a → flat_map own_column (scalars_of c) ≡ own_column a
own-IsNull c negate a is = ap own (ap scalars_of is ∙ scalars_of-IsNull negate a) ∙ append-nil (own_column a)

pub own-Top : (c : Cond) (q : Quality) → c ≡ condition.Top q → flat_map own_column (scalars_of c) ≡ []
own-Top c q is = ap own (ap scalars_of is ∙ scalars_of-Top q)

pub ruleset cond_columns = (own-And, own-Or, own-Not, own-Compare, own-Between, own-OneOf, own-IsNull, own-Top, append_assoc, append-nil)

pub conds_columns : (conds : List Cond) (i : ℕ) (c : Cond) (start places new : List ColumnPlace) → i < length conds → c ≡ get_or conds i c
    → places ≡ start ++ flat_map own_column (flat_map scalars_of (take i conds)) → new ≡ places ++ flat_map own_column (scalars_of c)
    → new ≡ start ++ flat_map own_column (flat_map scalars_of (take (i + 1) conds))
conds_columns conds i c start places new small at so_far pushed =
    let before = flat_map scalars_of (take i conds) in
    pushed
    ∙ ap (λ ps. ps ++ own (scalars_of c)) so_far
    ∙ append_assoc start (own before) (own (scalars_of c))
    ∙ ap (λ ps. start ++ ps)
    (sym (flat_map-append own_column before (scalars_of c))
    ∙ ap own (ap (λ more. before ++ more) (sym (append-nil (scalars_of c)) ∙ ap (λ d. flat_map scalars_of (d ∷ [])) at)
    ∙ sym (flat_map-append scalars_of (take i conds) (get_or conds i c ∷ []))
    ∙ ap (flat_map scalars_of) (sym (take_more conds i c small))))

pub trivial-Leaf : (t : Term) (leaf : Leaf) → t ≡ term.Leaf leaf → flat_map trivial_column (leaves_of t) ≡ trivial_column leaf
trivial-Leaf t leaf is = ap (flat_map trivial_column) (ap leaves_of is ∙ leaves_of-Leaf leaf) ∙ append-nil (trivial_column leaf)

pub trivial-Pareto : (t p q : Term) → t ≡ Pareto p q → flat_map trivial_column (leaves_of t) ≡ flat_map trivial_column (leaves_of p) ++ flat_map trivial_column (leaves_of q)
trivial-Pareto t p q is = ap (flat_map trivial_column) (ap leaves_of is ∙ leaves_of-Pareto p q) ∙ flat_map-append trivial_column (leaves_of p) (leaves_of q)

pub trivial-Prior : (t p q : Term) → t ≡ Prior p q → flat_map trivial_column (leaves_of t) ≡ flat_map trivial_column (leaves_of p) ++ flat_map trivial_column (leaves_of q)
trivial-Prior t p q is = ap (flat_map trivial_column) (ap leaves_of is ∙ leaves_of-Prior p q) ∙ flat_map-append trivial_column (leaves_of p) (leaves_of q)

pub trivial-Dual : (t p : Term) → t ≡ Dual p → flat_map trivial_column (leaves_of t) ≡ flat_map trivial_column (leaves_of p)
trivial-Dual t p is = ap (flat_map trivial_column) (ap leaves_of is ∙ leaves_of-Dual p)

pub ruleset term_columns = (trivial-Leaf, trivial-Pareto, trivial-Prior, trivial-Dual, append_assoc, append-nil)

-- the columns of a table, one more
pub column_pushed : (table n : ℕ) (mentioned start used new : List ColumnPlace) (b : Bool) → b ≡ list_any (place_eq (record { table = table; column = n })) mentioned
    → used ≡ start ++ filter (λ place. list_any (place_eq place) mentioned) (map (λ c. let place : ColumnPlace = record { table = table; column = c } in place) (range_with_len 0 n))
    → new ≡ cond b (used ++ record { table = table; column = n } ∷ []) used
    → new ≡ start ++ filter (λ place. list_any (place_eq place) mentioned) (map (λ c. let place : ColumnPlace = record { table = table; column = c } in place) (range_with_len 0 (n + 1)))
column_pushed table n mentioned start used new b b_is so_far pushed =
    let place : ℕ → ColumnPlace = λ c. record { table = table; column = c } in
    let passes : ColumnPlace → Bool = λ p. list_any (place_eq p) mentioned in
    let front = filter passes (map place (range_with_len 0 n)) in
    let zero_on : 0 + n ≡ n = omega arith in
    pushed
    ∙ added b (place n) used
    ∙ (λ j. so_far j ++ cond (b_is j) (place n ∷ []) [])
    ∙ append_assoc start front (cond (passes (place n)) (place n ∷ []) [])
    ∙ ap (λ ps. start ++ ps) (sym (filter_of_map_range_with_len_more passes place 0 n n zero_on))
  where
    added : (c : Bool) (p : ColumnPlace) (ps : List ColumnPlace) → cond c (ps ++ p ∷ []) ps ≡ ps ++ cond c (p ∷ []) []
    added true p ps = refl
    added false p ps = sym (append-nil ps)
