-- The FROM items and the base preferences of a statement that is well made stand in order.
use Rattle.std.proofs.Common.{◌≡◌, ℕ, Option, Some, None, List, [], ◌∷◌, ◌++◌, map, All, refl, sym, subst, inl, inr, ⊎_elim, arith}
use Rattle.std.specs.Prelude.{◌⊎◌}
use Rattle.std.specs.List.{concat, flat_map}
use Rattle.std.proofs.lemmas.List.Elements.{All-nil, All-cons, All-append, All-head, All-tail}
use Rattle.query_tree.proofs.PrefLemmas.{pref_places-Base, pref_places-Pareto, pref_places-Prior, pref_places-Dual}
use Rattle.query_tree.specs.Places.{base_places, cond_places, form_places, places_if, pref_places, query_places, select_places, set_places}
use Rattle.query_tree.specs.WellMade.{IsQuery}
use Rattle.query_tree.specs.declared.name.NameTree.{NameTree}
use Rattle.query_tree.specs.declared.preference.BaseForm.{BaseForm}
use Rattle.query_tree.specs.declared.preference.BaseForm.TheVariants as forms
use Rattle.query_tree.specs.declared.preference.BaseTree.{BaseTree}
use Rattle.query_tree.specs.declared.preference.PrefTree.{PrefTree, Pareto, Prior, Dual}
use Rattle.query_tree.specs.declared.preference.PrefTree as pref
use Rattle.query_tree.specs.declared.preference.SetTree.{SetTree}
use Rattle.query_tree.specs.declared.query.OrderTree.{OrderTree}
use Rattle.query_tree.specs.declared.query.QueryTree.{QueryTree}
use Rattle.query_typing.specs.InOrder.{AreInOrder, Ascends, IsInOrder, from_places, literal_places}
use Rattle.query_typing.specs.Leaves.{bases_if, bases_of}
use Rattle.query_typing.proofs.BasesReads.{bases-Base, bases-Pareto, bases-Prior, bases-Dual}
use Rattle.query_typing.proofs.Stops.{ascends_left, ascends_lower, ascends_right, sorted_ascends}
use Rattle.query_typing.proofs.TreeInduction.{pref_induction}

abbrev AscendsBelow : PrefTree → Type 0
AscendsBelow p = (low : ℕ) → Ascends low (pref_places p) → All IsInOrder (bases_of p)

parts_in_order : (parts : List PrefTree) → All AscendsBelow parts → (low : ℕ) → Ascends low (concat (map pref_places parts)) → All IsInOrder (flat_map bases_of parts)
parts_in_order [] each low up = All-nil IsInOrder
parts_in_order (p ∷ ps) each low up =
    All-append IsInOrder (bases_of p) (flat_map bases_of ps)
    (All-head AscendsBelow p ps each low (ascends_left low (pref_places p) (concat (map pref_places ps)) up))
    (parts_in_order ps (All-tail AscendsBelow p ps each) low (ascends_right low (pref_places p) (concat (map pref_places ps)) up))

bases_in_order : (p : PrefTree) → AscendsBelow p
bases_in_order =
    pref_induction AscendsBelow
    (λ base low up.
    subst (All IsInOrder) (sym (bases-Base (pref.Base base) base refl))
    (All-cons IsInOrder base [] (ascends_lower low 0 (base_places base) (omega arith) (subst (Ascends low) (pref_places-Base base) up)) (All-nil IsInOrder)))
    (λ parts each low up. subst (All IsInOrder) (sym (bases-Pareto (Pareto parts) parts refl)) (parts_in_order parts each low (subst (Ascends low) (pref_places-Pareto parts) up)))
    (λ parts each low up. subst (All IsInOrder) (sym (bases-Prior (Prior parts) parts refl)) (parts_in_order parts each low (subst (Ascends low) (pref_places-Prior parts) up)))
    (λ part each low up. subst (All IsInOrder) (sym (bases-Dual (Dual part) part refl)) (each low (subst (Ascends low) (pref_places-Dual part) up)))

written_in_order : (prefer : Option PrefTree) → Ascends 0 (places_if pref_places prefer) → All IsInOrder (bases_if prefer)
written_in_order None up = All-nil IsInOrder
written_in_order (Some p) up = bases_in_order p 0 up

-- the second and the fourth of seven parts
in_parts : (a b c d e f g : List ℕ) → Ascends 0 (a ++ b ++ c ++ d ++ e ++ f ++ g) → Ascends 0 b × Ascends 0 d
in_parts a b c d e f g up =
    let front = ascends_left 0 (a ++ b ++ c ++ d) e (ascends_left 0 (a ++ b ++ c ++ d ++ e) f (ascends_left 0 (a ++ b ++ c ++ d ++ e ++ f) g up)) in
    (ascends_right 0 a b (ascends_left 0 (a ++ b) c (ascends_left 0 (a ++ b ++ c) d front)), ascends_right 0 (a ++ b ++ c) d front)

module _ (query : QueryTree) (is : IsQuery query) where
  query_in_order : Ascends 0 (from_places query.from) × Ascends 0 (places_if pref_places query.prefer)
  unfolding query_places
  query_in_order =
      in_parts (select_places query.select) (from_places query.from) (places_if cond_places query.filter) (places_if pref_places query.prefer)
      (map (λ (column : NameTree). column.at) query.groups) (places_if cond_places query.only) (map (λ (item : OrderTree). item.at) query.order)
      (sorted_ascends (query_places query) is.places)

  pub from_in_order : Ascends 0 (from_places query.from)
  from_in_order = query_in_order.0

  pub prefer_in_order : All IsInOrder (bases_if query.prefer)
  prefer_in_order = written_in_order query.prefer query_in_order.1

-- the form of a base preference, behind its column
pub form_in_order : (base : BaseTree) → IsInOrder base → Ascends 0 (form_places base.form)
form_in_order base up = ascends_lower base.column.at 0 (form_places base.form) (omega arith) up.1.1

-- ---- the parts of a form

each_set : (low : ℕ) (sets : List SetTree) → Ascends low (flat_map set_places sets) → AreInOrder sets
each_set low [] up = All-nil (λ (set : SetTree). Ascends 0 (literal_places set.literals))
each_set low (set ∷ sets) up =
    All-cons (λ (set : SetTree). Ascends 0 (literal_places set.literals)) set sets
    (ascends_lower low 0 (literal_places set.literals) (omega arith) (ascends_left low (set_places set) (flat_map set_places sets) up))
    (each_set low sets (ascends_right low (set_places set) (flat_map set_places sets) up))

module _ (form : BaseForm) (up : Ascends 0 (form_places form)) where
  pub one_set : (set : SetTree) → (form ≡ forms.Pos set) ⊎ (form ≡ forms.Neg set) → Ascends 0 (literal_places set.literals)
  one_set set (inl is) = subst (λ f. Ascends 0 (form_places f)) is up
  one_set set (inr is) = subst (λ f. Ascends 0 (form_places f)) is up

  pub two_sets : (first : SetTree) (column : NameTree) (second : SetTree) → (form ≡ forms.PosPos first column second) ⊎ (form ≡ forms.PosNeg first column second)
      → Ascends 0 (literal_places first.literals) × Ascends 0 (literal_places second.literals)
  two_sets first column second is =
      let all : Ascends 0 (literal_places first.literals ++ column.at ∷ literal_places second.literals) =
      ⊎_elim (λ pos. subst (λ f. Ascends 0 (form_places f)) pos up) (λ neg. subst (λ f. Ascends 0 (form_places f)) neg up) is
      in
      let later = ascends_right 0 (literal_places first.literals) (column.at ∷ literal_places second.literals) all in
      (ascends_left 0 (literal_places first.literals) (column.at ∷ literal_places second.literals) all, ascends_lower column.at 0 (literal_places second.literals) (omega arith) later.1)

  pub layers : (before after : List SetTree) → form ≡ forms.Layered before after → AreInOrder before × AreInOrder after
  layers before after is =
      let all = subst (λ f. Ascends 0 (form_places f)) is up in
      (each_set 0 before (ascends_left 0 (flat_map set_places before) (flat_map set_places after) all), each_set 0 after (ascends_right 0 (flat_map set_places before) (flat_map set_places after) all))
