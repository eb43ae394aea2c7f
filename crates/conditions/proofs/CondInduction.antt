-- Induction on a condition.
use Rattle.std.proofs.Common.{◌≡◌, Bool, List, [], ◌∷◌, map, All, subst, sym}
use Rattle.std.proofs.lemmas.List.Elements.{All-nil, All-cons, All-contains}
use Rattle.prefsql_values.specs.declared.value.CompareOp.{CompareOp}
use Rattle.order_laws.proofs.Members.{Among, Contains_from_among}
use Rattle.conditions.specs.declared.condition.Quality.{Quality}
use Rattle.conditions.specs.declared.condition.Scalar.{Scalar}
use Rattle.conditions.specs.declared.condition.Cond.{Cond}
use Rattle.conditions.specs.declared.condition.Cond as condition
use Rattle.conditions.specs.declared.condition.Cond.TheOpen.{Cond-F}
use Rattle.conditions.specs.declared.condition.Cond.TheFolds.{ind-Cond}
use Rattle.conditions.specs.declared.condition.Cond.TheViews.{rolls-And, rolls-Or, rolls-Not, rolls-Compare, rolls-Between, rolls-OneOf, rolls-IsNull, rolls-Top}

module _ (P : Cond → Type 0) where
  abbrev Known : Type 0
  Known = (c : Cond) × P c

  each : (parts : List Known) → All P (map (λ (e : Known). e.0) parts)
  each [] = All-nil P
  each (e ∷ parts) = All-cons P e.0 (map (λ (e : Known). e.0) parts) e.1 (each parts)

module _ (P : Cond → Type 0)
    (at_and : (parts : List Cond) → All P parts → P (condition.And parts))
    (at_or : (parts : List Cond) → All P parts → P (condition.Or parts))
    (at_not : (part : Cond) → P part → P (condition.Not part))
    (at_compare : (op : CompareOp) (a b : Scalar) → P (condition.Compare op a b))
    (at_between : (negate : Bool) (a low high : Scalar) → P (condition.Between negate a low high))
    (at_one_of : (negate : Bool) (a : Scalar) (list : List Scalar) → P (condition.OneOf negate a list))
    (at_is_null : (negate : Bool) (a : Scalar) → P (condition.IsNull negate a))
    (at_top : (quality : Quality) → P (condition.Top quality)) where
  -- what holds of a condition where it holds of its parts holds of every condition
  pub cond_induction : (c : Cond) → P c
  cond_induction = ind-Cond P (λ x y is. elim y as (λ z. condition.map-Cond _ Cond (λ e. e.0) z ≡ x → P (condition.roll-Cond x)) [
    | Cond-F.And parts ↦ λ same. subst (λ z. P (condition.roll-Cond z)) same (subst P (sym (rolls-And (map (λ e. e.0) parts))) (at_and _ (each P parts)))
    | Cond-F.Or parts ↦ λ same. subst (λ z. P (condition.roll-Cond z)) same (subst P (sym (rolls-Or (map (λ e. e.0) parts))) (at_or _ (each P parts)))
    | Cond-F.Not part ↦ λ same. subst (λ z. P (condition.roll-Cond z)) same (subst P (sym (rolls-Not part.0)) (at_not part.0 part.1))
    | Cond-F.Compare op a b ↦ λ same. subst (λ z. P (condition.roll-Cond z)) same (subst P (sym (rolls-Compare op a b)) (at_compare op a b))
    | Cond-F.Between negate a low high ↦ λ same. subst (λ z. P (condition.roll-Cond z)) same (subst P (sym (rolls-Between negate a low high)) (at_between negate a low high))
    | Cond-F.OneOf negate a list ↦ λ same. subst (λ z. P (condition.roll-Cond z)) same (subst P (sym (rolls-OneOf negate a list)) (at_one_of negate a list))
    | Cond-F.IsNull negate a ↦ λ same. subst (λ z. P (condition.roll-Cond z)) same (subst P (sym (rolls-IsNull negate a)) (at_is_null negate a))
    | Cond-F.Top quality ↦ λ same. subst (λ z. P (condition.roll-Cond z)) same (subst P (sym (rolls-Top quality)) (at_top quality))
  ] is)

module _ (P : Cond → Type 0)
    (at_and : (parts : List Cond) → ((c : Cond) → Among parts c → P c) → P (condition.And parts))
    (at_or : (parts : List Cond) → ((c : Cond) → Among parts c → P c) → P (condition.Or parts))
    (at_not : (part : Cond) → P part → P (condition.Not part))
    (at_compare : (op : CompareOp) (a b : Scalar) → P (condition.Compare op a b))
    (at_between : (negate : Bool) (a low high : Scalar) → P (condition.Between negate a low high))
    (at_one_of : (negate : Bool) (a : Scalar) (list : List Scalar) → P (condition.OneOf negate a list))
    (at_is_null : (negate : Bool) (a : Scalar) → P (condition.IsNull negate a))
    (at_top : (quality : Quality) → P (condition.Top quality)) where
  -- the same, where the parts are told by membership
  pub cond_induction_among : (c : Cond) → P c
  cond_induction_among =
      cond_induction P
      (λ parts all. at_and parts (λ c there. All-contains P parts c all (Contains_from_among parts c there)))
      (λ parts all. at_or parts (λ c there. All-contains P parts c all (Contains_from_among parts c there)))
      at_not at_compare at_between at_one_of at_is_null at_top
