-- A condition reads the columns of its scalars alone.
use Rattle.std.proofs.Common.{◌≡◌, Bool, List, map, refl, sym, ap, ◌∙◌, inl, inr, subst}
use Rattle.std.specs.List.{flat_map}
use Rattle.prefsql_values.specs.declared.value.CompareOp.{CompareOp}
use Rattle.prefsql_values.specs.Truth.{all_true, any_true, negated, negated_if}
use Rattle.prefsql_values.specs.Value.{between, comparison, is_null, one_of, truth_of}
use Rattle.prefsql_tables.specs.Sight.{Sight}
use Rattle.prefsql_tables.specs.declared.place.ColumnPlace.{ColumnPlace}
use Rattle.order_laws.proofs.Members.{Among, among_flat_map, among_flat_mapped, among_mapped, map_same}
use Rattle.base_prefs.specs.Kind.{distance_of, level_of}
use Rattle.conditions.specs.declared.condition.Quality.{Quality}
use Rattle.conditions.specs.declared.condition.Scalar.{Scalar}
use Rattle.conditions.specs.declared.condition.Scalar.TheVariants as scalar
use Rattle.conditions.specs.declared.condition.Cond.{Cond, And, Or, Not}
use Rattle.conditions.specs.declared.condition.Cond as cond
use Rattle.conditions.specs.Meaning.{is_best, quality_of, scalar_value, scalars_of, truth}
use Rattle.conditions.proofs.CondReads.{scalars_of-And, scalars_of-Or, scalars_of-Not, scalars_of-Compare, scalars_of-Between, scalars_of-OneOf, scalars_of-IsNull, scalars_of-Top, truth-And, truth-Or, truth-Not, truth-Compare, truth-Between, truth-OneOf, truth-IsNull, truth-Top}
use Rattle.conditions.specs.Places.{read_by, scalar_places}
use Rattle.conditions.proofs.CondInduction.{cond_induction_among}

-- both show the same in these columns
pub record Agree (a b : Sight) (places : List ColumnPlace) : Type 0 where
  pub at : (p : ColumnPlace) → Among places p → a p ≡ b p

module _ (a b : Sight) where
  pub scalar_same : (s : Scalar) → Agree a b (scalar_places s) → scalar_value a s ≡ scalar_value b s
  scalar_same (scalar.Column place) same = same.at place (inl refl)
  scalar_same (scalar.Literal value) same = refl
  scalar_same (scalar.Quality quality) same = ap (λ v. quality_of (level_of quality.base v) (distance_of quality.base v)) (same.at quality.place (inl refl))

  scalar_agrees : (c : Cond) (s : Scalar) → Among (scalars_of c) s → Agree a b (read_by c) → Agree a b (scalar_places s)
  scalar_agrees c s there same = record { at = λ p reads. same.at p (among_flat_mapped scalar_places (scalars_of c) s p there reads) }

  value_same : (c : Cond) (s : Scalar) → Among (scalars_of c) s → Agree a b (read_by c) → scalar_value a s ≡ scalar_value b s
  value_same c s there same = scalar_same s (scalar_agrees c s there same)

  part_agrees : (c part : Cond) → ((s : Scalar) → Among (scalars_of part) s → Among (scalars_of c) s) → Agree a b (read_by c) → Agree a b (read_by part)
  part_agrees c part within same = record {
    at = λ p reads.
        let found = among_flat_map scalar_places (scalars_of part) p reads in
        same.at p (among_flat_mapped scalar_places (scalars_of c) found.0 p (within found.0 found.1) found.2);
  }

  of_parts : (parts : List Cond) (part : Cond) → Among parts part → (s : Scalar) → Among (scalars_of part) s → Among (flat_map (λ scalars. scalars) (map scalars_of parts)) s
  of_parts parts part there s reads = among_flat_mapped (λ scalars. scalars) (map scalars_of parts) (scalars_of part) s (among_mapped scalars_of parts part there) reads

  abbrev IsReadAlone : Cond → Type 0
  IsReadAlone c = Agree a b (read_by c) → truth a c ≡ truth b c

  parts_same : (c : Cond) (parts : List Cond) → scalars_of c ≡ flat_map (λ scalars. scalars) (map scalars_of parts) → ((part : Cond) → Among parts part → IsReadAlone part) → Agree a b (read_by c) → map (truth a) parts ≡ map (truth b) parts
  parts_same c parts is each same =
      map_same (truth a) (truth b) parts (λ part there. each part there
      (part_agrees c part (λ s reads. subst (λ (scalars : List Scalar). Among scalars s) (sym is) (of_parts parts part there s reads)) same))

  scalar_of : (c : Cond) (scalars : List Scalar) → scalars_of c ≡ scalars → (s : Scalar) → Among scalars s → Agree a b (read_by c) → scalar_value a s ≡ scalar_value b s
  scalar_of c scalars is s there same = value_same c s (subst (λ (ss : List Scalar). Among ss s) (sym is) there) same

  at_and : (parts : List Cond) → ((part : Cond) → Among parts part → IsReadAlone part) → IsReadAlone (And parts)
  at_and parts each same =
      truth-And a (And parts) parts refl ∙ ap all_true (parts_same (And parts) parts (scalars_of-And parts) each same) ∙ sym (truth-And b (And parts) parts refl)

  at_or : (parts : List Cond) → ((part : Cond) → Among parts part → IsReadAlone part) → IsReadAlone (Or parts)
  at_or parts each same =
      truth-Or a (Or parts) parts refl ∙ ap any_true (parts_same (Or parts) parts (scalars_of-Or parts) each same) ∙ sym (truth-Or b (Or parts) parts refl)

  at_not : (part : Cond) → IsReadAlone part → IsReadAlone (Not part)
  at_not part alone same =
      truth-Not a (Not part) part refl
      ∙ ap negated (alone (part_agrees (Not part) part (λ s reads. subst (λ (ss : List Scalar). Among ss s) (sym (scalars_of-Not part)) reads) same))
      ∙ sym (truth-Not b (Not part) part refl)

  at_compare : (op : CompareOp) (x y : Scalar) → IsReadAlone (cond.Compare op x y)
  at_compare op x y same =
      let c = cond.Compare op x y in
      let is = scalars_of-Compare op x y in
      truth-Compare a c op x y refl
      ∙ ap (λ v. comparison op v (scalar_value a y)) (scalar_of c _ is x (inl refl) same)
      ∙ ap (λ v. comparison op (scalar_value b x) v) (scalar_of c _ is y (inr (inl refl)) same)
      ∙ sym (truth-Compare b c op x y refl)

  at_between : (negate : Bool) (x low high : Scalar) → IsReadAlone (cond.Between negate x low high)
  at_between negate x low high same =
      let c = cond.Between negate x low high in
      let is = scalars_of-Between negate x low high in
      truth-Between a c negate x low high refl
      ∙ ap (λ v. negated_if negate (between v (scalar_value a low) (scalar_value a high))) (scalar_of c _ is x (inl refl) same)
      ∙ ap (λ v. negated_if negate (between (scalar_value b x) v (scalar_value a high))) (scalar_of c _ is low (inr (inl refl)) same)
      ∙ ap (λ v. negated_if negate (between (scalar_value b x) (scalar_value b low) v)) (scalar_of c _ is high (inr (inr (inl refl))) same)
      ∙ sym (truth-Between b c negate x low high refl)

  at_one_of : (negate : Bool) (x : Scalar) (list : List Scalar) → IsReadAlone (cond.OneOf negate x list)
  at_one_of negate x list same =
      let c = cond.OneOf negate x list in
      let is = scalars_of-OneOf negate x list in
      truth-OneOf a c negate x list refl
      ∙ ap (λ v. negated_if negate (one_of v (map (scalar_value a) list))) (scalar_of c _ is x (inl refl) same)
      ∙ ap (λ vs. negated_if negate (one_of (scalar_value b x) vs)) (map_same (scalar_value a) (scalar_value b) list (λ s there. scalar_of c _ is s (inr there) same))
      ∙ sym (truth-OneOf b c negate x list refl)

  at_is_null : (negate : Bool) (x : Scalar) → IsReadAlone (cond.IsNull negate x)
  at_is_null negate x same =
      let c = cond.IsNull negate x in
      truth-IsNull a c negate x refl
      ∙ ap (λ v. negated_if negate (truth_of (is_null v))) (scalar_of c _ (scalars_of-IsNull negate x) x (inl refl) same)
      ∙ sym (truth-IsNull b c negate x refl)

  at_top : (quality : Quality) → IsReadAlone (cond.Top quality)
  at_top quality same =
      let c = cond.Top quality in
      let there = subst (λ (ss : List Scalar). Among ss (scalar.Quality quality)) (sym (scalars_of-Top quality)) (inl refl) in
      let here = (scalar_agrees c (scalar.Quality quality) there same).at quality.place (inl refl) in
      truth-Top a c quality refl
      ∙ ap (λ v. truth_of (is_best (level_of quality.base v) (distance_of quality.base v))) here
      ∙ sym (truth-Top b c quality refl)

  -- where two combinations show the same in the columns of a condition, it has one truth
  pub truth_same : (c : Cond) → Agree a b (read_by c) → truth a c ≡ truth b c
  truth_same = cond_induction_among IsReadAlone at_and at_or at_not at_compare at_between at_one_of at_is_null at_top
