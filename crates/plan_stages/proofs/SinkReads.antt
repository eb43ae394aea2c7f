-- Which conditions sink, variant by variant.
use Rattle.std.proofs.Common.{◌≡◌, Bool, true, false, ◌&&◌, List, [], ◌∷◌, map, refl, sym, ap, ◌∙◌, rules}
use Rattle.std.specs.List.{flat_map, list_all}
use Rattle.std.proofs.lemmas.List.Folds.{list_all-append}
use Rattle.prefsql_values.specs.declared.value.CompareOp.{CompareOp}
use Rattle.prefsql_tables.specs.declared.place.ColumnPlace.{ColumnPlace}
use Rattle.conditions.specs.declared.condition.Quality.{Quality}
use Rattle.conditions.specs.declared.condition.Scalar.{Scalar}
use Rattle.conditions.specs.declared.condition.Cond.{Cond, And, Or, Not}
use Rattle.conditions.specs.declared.condition.Cond as cond
use Rattle.conditions.specs.declared.condition.Cond.TheFolds.{the_lemmas}
use Rattle.conditions.specs.Meaning.{scalars_of}
use Rattle.conditions.proofs.CondReads.{scalars_of-And, scalars_of-Or, scalars_of-Not, scalars_of-Compare, scalars_of-Between, scalars_of-OneOf, scalars_of-IsNull, scalars_of-Top}
use Rattle.pref_terms.specs.declared.term.Term.{Term}
use Rattle.pref_terms.specs.Parts.{closed_numbers}
use Rattle.plan_stages.specs.Sinking.{is_bound, is_closed, is_group_scalar, is_of_groups, is_quality_of, is_upper}

-- ---- closed

pub closed-And : (t : Term) (parts : List Cond) → is_closed t (And parts) ≡ false
unfolding is_closed
closed-And t parts = search (rules, the_lemmas)

pub closed-Or : (t : Term) (parts : List Cond) → is_closed t (Or parts) ≡ false
unfolding is_closed
closed-Or t parts = search (rules, the_lemmas)

pub closed-Not : (t : Term) (part : Cond) → is_closed t (Not part) ≡ false
unfolding is_closed
closed-Not t part = search (rules, the_lemmas)

pub closed-Compare : (t : Term) (op : CompareOp) (a b : Scalar) → is_closed t (cond.Compare op a b) ≡ (is_upper op && is_bound (closed_numbers t) a b)
unfolding is_closed
closed-Compare t op a b = search (rules, the_lemmas)

pub closed-Between : (t : Term) (negate : Bool) (a low high : Scalar) → is_closed t (cond.Between negate a low high) ≡ false
unfolding is_closed
closed-Between t negate a low high = search (rules, the_lemmas)

pub closed-OneOf : (t : Term) (negate : Bool) (a : Scalar) (list : List Scalar) → is_closed t (cond.OneOf negate a list) ≡ false
unfolding is_closed
closed-OneOf t negate a list = search (rules, the_lemmas)

pub closed-IsNull : (t : Term) (negate : Bool) (a : Scalar) → is_closed t (cond.IsNull negate a) ≡ false
unfolding is_closed
closed-IsNull t negate a = search (rules, the_lemmas)

pub closed-Top : (t : Term) (quality : Quality) → is_closed t (cond.Top quality) ≡ is_quality_of (closed_numbers t) quality
unfolding is_closed
closed-Top t quality = search (rules, the_lemmas)

pub reads-And : (t : Term) (c : Cond) (parts : List Cond) → c ≡ And parts → is_closed t c ≡ false
reads-And t c parts is = ap (is_closed t) is ∙ closed-And t parts

pub reads-Or : (t : Term) (c : Cond) (parts : List Cond) → c ≡ Or parts → is_closed t c ≡ false
reads-Or t c parts is = ap (is_closed t) is ∙ closed-Or t parts

pub reads-Not : (t : Term) (c part : Cond) → c ≡ Not part → is_closed t c ≡ false
reads-Not t c part is = ap (is_closed t) is ∙ closed-Not t part

pub reads-Compare : (t : Term) (c : Cond) (op : CompareOp) (a b : Scalar) → c ≡ cond.Compare op a b → is_closed t c ≡ (is_upper op && is_bound (closed_numbers t) a b)
reads-Compare t c op a b is = ap (is_closed t) is ∙ closed-Compare t op a b

pub reads-Between : (t : Term) (c : Cond) (negate : Bool) (a low high : Scalar) → c ≡ cond.Between negate a low high → is_closed t c ≡ false
reads-Between t c negate a low high is = ap (is_closed t) is ∙ closed-Between t negate a low high

pub reads-OneOf : (t : Term) (c : Cond) (negate : Bool) (a : Scalar) (list : List Scalar) → c ≡ cond.OneOf negate a list → is_closed t c ≡ false
reads-OneOf t c negate a list is = ap (is_closed t) is ∙ closed-OneOf t negate a list

pub reads-IsNull : (t : Term) (c : Cond) (negate : Bool) (a : Scalar) → c ≡ cond.IsNull negate a → is_closed t c ≡ false
reads-IsNull t c negate a is = ap (is_closed t) is ∙ closed-IsNull t negate a

pub reads-Top : (t : Term) (c : Cond) (quality : Quality) → c ≡ cond.Top quality → is_closed t c ≡ is_quality_of (closed_numbers t) quality
reads-Top t c quality is = ap (is_closed t) is ∙ closed-Top t quality

pub ruleset closed_reads = (reads-And, reads-Or, reads-Not, reads-Compare, reads-Between, reads-OneOf, reads-IsNull, reads-Top)

-- ---- group columns

module _ (groups : List ColumnPlace) where
  abbrev all : List Scalar → Bool
  all = list_all (is_group_scalar groups)

  all_parts : (parts : List Cond) → all (flat_map (λ scalars. scalars) (map scalars_of parts)) ≡ list_all (is_of_groups groups) parts
  unfolding is_of_groups
  all_parts [] = refl
  all_parts (part ∷ parts) = list_all-append (is_group_scalar groups) (scalars_of part) (flat_map (λ scalars. scalars) (map scalars_of parts)) ∙ ap (λ b. all (scalars_of part) && b) (all_parts parts)

  and_true : (b : Bool) → (b && true) ≡ b
  and_true true = refl
  and_true false = refl

  pub group-And : (c : Cond) (parts : List Cond) → c ≡ And parts → is_of_groups groups c ≡ list_all (is_of_groups groups) parts
  unfolding is_of_groups
  group-And c parts is = ap (is_of_groups groups) is ∙ ap all (scalars_of-And parts) ∙ all_parts parts

  pub group-Or : (c : Cond) (parts : List Cond) → c ≡ Or parts → is_of_groups groups c ≡ list_all (is_of_groups groups) parts
  unfolding is_of_groups
  group-Or c parts is = ap (is_of_groups groups) is ∙ ap all (scalars_of-Or parts) ∙ all_parts parts

  pub group-Not : (c part : Cond) → c ≡ Not part → is_of_groups groups c ≡ is_of_groups groups part
  unfolding is_of_groups
  group-Not c part is = ap (is_of_groups groups) is ∙ ap all (scalars_of-Not part)

  pub group-Compare : (c : Cond) (op : CompareOp) (a b : Scalar) → c ≡ cond.Compare op a b → is_of_groups groups c ≡ (is_group_scalar groups a && is_group_scalar groups b)
  unfolding is_of_groups
  group-Compare c op a b is = ap (is_of_groups groups) is ∙ ap all (scalars_of-Compare op a b) ∙ ap (λ r. is_group_scalar groups a && r) (and_true (is_group_scalar groups b))

  pub group-Between : (c : Cond) (negate : Bool) (a low high : Scalar) → c ≡ cond.Between negate a low high → is_of_groups groups c ≡ (is_group_scalar groups a && (is_group_scalar groups low && is_group_scalar groups high))
  unfolding is_of_groups
  group-Between c negate a low high is = ap (is_of_groups groups) is ∙ ap all (scalars_of-Between negate a low high) ∙ ap (λ r. is_group_scalar groups a && (is_group_scalar groups low && r)) (and_true (is_group_scalar groups high))

  pub group-OneOf : (c : Cond) (negate : Bool) (a : Scalar) (list : List Scalar) → c ≡ cond.OneOf negate a list → is_of_groups groups c ≡ (is_group_scalar groups a && list_all (is_group_scalar groups) list)
  unfolding is_of_groups
  group-OneOf c negate a list is = ap (is_of_groups groups) is ∙ ap all (scalars_of-OneOf negate a list)

  pub group-IsNull : (c : Cond) (negate : Bool) (a : Scalar) → c ≡ cond.IsNull negate a → is_of_groups groups c ≡ is_group_scalar groups a
  unfolding is_of_groups
  group-IsNull c negate a is = ap (is_of_groups groups) is ∙ ap all (scalars_of-IsNull negate a) ∙ and_true (is_group_scalar groups a)

  pub group-Top : (c : Cond) (quality : Quality) → c ≡ cond.Top quality → is_of_groups groups c ≡ false
  unfolding is_of_groups
  group-Top c quality is = ap (is_of_groups groups) is ∙ ap all (scalars_of-Top quality)

pub ruleset group_reads = (group-And, group-Or, group-Not, group-Compare, group-Between, group-OneOf, group-IsNull, group-Top)

-- below a literal, where the operator is < or <=
pub closed_then : (t : Term) (c : Cond) (op : CompareOp) (a b : Scalar) (r : Bool) → c ≡ cond.Compare op a b → is_upper op ≡ true → r ≡ is_bound (closed_numbers t) a b → r ≡ is_closed t c
closed_then t c op a b r is upper bound = bound ∙ sym (reads-Compare t c op a b is ∙ ap (λ u. u && is_bound (closed_numbers t) a b) upper)
