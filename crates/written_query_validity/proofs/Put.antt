-- A condition put into SQL is well formed where the columns and qualities in it are.
use Rattle.std.proofs.Common.{◌≡◌, ◌<◌, ◌^◌, Bool, true, false, Some, List, [], ◌∷◌, map, All, refl, sym, ap, subst, ◌∙◌, arith, inl, inr, cond}
use Rattle.std.specs.List.{flat_map}
use Rattle.std.specs.Option.{option_map}
use Rattle.std.proofs.lemmas.List.{length-map}
use Rattle.std.proofs.lemmas.List.Elements.{All-contains}
use Rattle.prefsql_values.specs.declared.value.CompareOp.TheVariants.{Eq}
use Rattle.prefsql_values.specs.declared.value.Domain.{Domain}
use Rattle.prefsql_values.specs.declared.value.Domain.TheVariants.{Integer}
use Rattle.prefsql_tables.specs.declared.place.ColumnPlace.{ColumnPlace}
use Rattle.order_laws.proofs.Members.{Among, Contains_from_among, among_flat_mapped, among_map, among_mapped}
use Rattle.base_prefs.specs.Kind.{has_level}
use Rattle.conditions.specs.Meaning.{scalars_of}
use Rattle.conditions.specs.declared.condition.Quality.{Quality}
use Rattle.conditions.specs.declared.condition.Scalar.{Scalar}
use Rattle.conditions.specs.declared.condition.Scalar.TheVariants as scalar
use Rattle.conditions.specs.declared.condition.Cond.{Cond}
use Rattle.conditions.specs.declared.condition.Cond as condition
use Rattle.conditions.proofs.CondInduction.{cond_induction_among}
use Rattle.conditions.proofs.CondReads.{scalars_of-And, scalars_of-Or, scalars_of-Not, scalars_of-Compare, scalars_of-Between, scalars_of-OneOf, scalars_of-IsNull, scalars_of-Top}
use Rattle.query_meaning.specs.Valid.{Agree, IsFormed, scalar_domain}
use Rattle.query_meaning.specs.declared.block.FromTable.{FromTable}
use Rattle.query_meaning.proofs.CondParts.{And-IsFormed, Not-IsFormed, Or-IsFormed}
use Rattle.sql_tree.specs.declared.tree.SqlCond.{SqlCond}
use Rattle.sql_tree.specs.declared.tree.SqlScalar.{SqlScalar}
use Rattle.sql_tree.specs.Shown.{View}
use Rattle.sql_tree.specs.WellFormed.{filter_well, judged_cond}
use Rattle.rewritten_query.specs.Conditions.{best_rank, cond_put, conjunction, scalar_put}
use Rattle.rewritten_query.specs.Leaves.{number}
use Rattle.rewritten_query.proofs.ConditionReads.{put, put-And, put-Or, put-Not, put-Compare, put-Between, put-OneOf, put-IsNull, put-Top}
use Rattle.written_query_validity.proofs.Formed.{And_formed, Between_formed, Compare_formed, Formed, IsNull_formed, IsOf, Not_formed, OneOf_formed, Or_formed, count_of}
use Rattle.written_query_validity.proofs.Ranks.{some_domain}

best_small : (b : Bool) → cond b 1 0 < 10 ^ 18
best_small true = omega arith
best_small false = omega arith

module _ (writing : Bool) (view : View) (from : List FromTable) (column : ColumnPlace → SqlScalar) (quality : Quality → SqlScalar) where
  -- the scalar has a domain, and is put as a well formed one of that domain
  abbrev pub IsGood : Scalar → Type 0
  IsGood s = (d : Domain) × (scalar_domain from s ≡ Some d) × IsOf writing view d (scalar_put column quality s)

  abbrev pub AreGood : List Scalar → Type 0
  AreGood scalars = (s : Scalar) → Among scalars s → IsGood s

  -- the same of the domain of another with which it agrees
  joined : (a b : Scalar) → (a_is : IsGood a) → IsGood b → Agree from a b → IsOf writing view a_is.0 (put column quality b)
  joined a b a_is b_is agree =
      subst (λ d. IsOf writing view d (put column quality b)) (some_domain b_is.0 a_is.0 (sym b_is.1 ∙ sym agree ∙ a_is.1)) b_is.2

  abbrev IsPutFormed : Cond → Type 0
  IsPutFormed c = IsFormed from c → AreGood (scalars_of c) → Formed writing view (cond_put column quality c)

  at : (c : Cond) (s : SqlCond) → cond_put column quality c ≡ s → Formed writing view s → Formed writing view (cond_put column quality c)
  at c s is formed = ap (λ t. judged_cond writing t view) is ∙ formed

  part_good : (parts : List Cond) (c : Cond) → Among parts c → AreGood (flat_map (λ scalars. scalars) (map scalars_of parts)) → AreGood (scalars_of c)
  part_good parts c there good s has = good s (among_flat_mapped (λ scalars. scalars) (map scalars_of parts) (scalars_of c) s (among_mapped scalars_of parts c there) has)

  parts_formed : (parts : List Cond) → ((c : Cond) → Among parts c → IsPutFormed c) → All (IsFormed from) parts → AreGood (flat_map (λ scalars. scalars) (map scalars_of parts))
      → (s : SqlCond) → Among (map (cond_put column quality) parts) s → Formed writing view s
  parts_formed parts each formed good s there =
      let found = among_map (cond_put column quality) parts s there in
      let c = found.0 in
      ap (λ t. judged_cond writing t view) (sym found.2)
      ∙ each c found.1 (All-contains (IsFormed from) parts c formed (Contains_from_among parts c found.1)) (part_good parts c found.1 good)

  pub put_formed : (c : Cond) → IsPutFormed c
  put_formed = cond_induction_among IsPutFormed
      (λ parts each formed good.
      let are = And-IsFormed from parts formed in
      at (condition.And parts) _ (put-And column quality parts)
      (And_formed writing view (map (cond_put column quality) parts) (let same = length-map parts (cond_put column quality) in omega (arith, same, are.0.0))
      (parts_formed parts each are.1 (subst AreGood (scalars_of-And parts) good))))
      (λ parts each formed good.
      let are = Or-IsFormed from parts formed in
      at (condition.Or parts) _ (put-Or column quality parts)
      (Or_formed writing view (map (cond_put column quality) parts) (let same = length-map parts (cond_put column quality) in omega (arith, same, are.0.0))
      (parts_formed parts each are.1 (subst AreGood (scalars_of-Or parts) good))))
      (λ part is formed good.
      at (condition.Not part) _ (put-Not column quality part)
      (Not_formed writing view (cond_put column quality part) (is (Not-IsFormed from part formed) (subst AreGood (scalars_of-Not part) good))))
      (λ op a b agree good.
      let are = subst AreGood (scalars_of-Compare op a b) good in
      let a_is = are a (inl refl) in
      at (condition.Compare op a b) _ (put-Compare column quality op a b)
      (Compare_formed writing view op a_is.0 (put column quality a) (put column quality b) a_is.2 (joined a b a_is (are b (inr (inl refl))) agree)))
      (λ negate a low high agree good.
      let are = subst AreGood (scalars_of-Between negate a low high) good in
      let a_is = are a (inl refl) in
      at (condition.Between negate a low high) _ (put-Between column quality negate a low high)
      (Between_formed writing view negate a_is.0 (put column quality a) (put column quality low) (put column quality high) a_is.2
      (joined a low a_is (are low (inr (inl refl))) agree.0) (joined a high a_is (are high (inr (inr (inl refl)))) agree.1)))
      (λ negate a list agree good.
      let are = subst AreGood (scalars_of-OneOf negate a list) good in
      let a_is = are a (inl refl) in
      at (condition.OneOf negate a list) _ (put-OneOf column quality negate a list)
      (OneOf_formed writing view negate a_is.0 (put column quality a) (map (put column quality) list) a_is.2
      (let same = length-map list (put column quality) in omega (arith, same, agree.0))
      (λ s there.
      let found = among_map (put column quality) list s there in
      let b = found.0 in
      subst (IsOf writing view a_is.0) found.2
      (joined a b a_is (are b (inr found.1)) (All-contains (Agree from a) list b agree.2 (Contains_from_among list b found.1))))))
      (λ negate a formed good.
      let are = subst AreGood (scalars_of-IsNull negate a) good in
      let a_is = are a (inl refl) in
      at (condition.IsNull negate a) _ (put-IsNull column quality negate a) (IsNull_formed writing view negate a_is.0 (put column quality a) a_is.2))
      (λ q formed good.
      let are = subst AreGood (scalars_of-Top q) good in
      let q_is = are (scalar.Quality q) (inl refl) in
      at (condition.Top q) _ (put-Top column quality q)
      (Compare_formed writing view Eq Integer (quality q) (number (best_rank q.base))
      (subst (λ d. IsOf writing view d (quality q)) (some_domain q_is.0 Integer (sym q_is.1)) q_is.2)
      (count_of writing view (best_rank q.base) (best_small (has_level q.base)))))

  -- conditions joined by AND, or nothing
  pub conjunction_formed : (conds : List SqlCond) → ((c : SqlCond) → Among conds c → Formed writing view c) → filter_well (option_map (judged_cond writing) (conjunction conds)) view ≡ true
  conjunction_formed [] each = refl
  conjunction_formed (c ∷ []) each = each c (inl refl)
  conjunction_formed (c ∷ other ∷ more) each = And_formed writing view (c ∷ other ∷ more) (omega arith) each

  pub puts_formed : (conds : List Cond) → All (IsFormed from) conds → AreGood (flat_map scalars_of conds) → (c : SqlCond) → Among (map (cond_put column quality) conds) c → Formed writing view c
  puts_formed conds formed good s there =
      let found = among_map (cond_put column quality) conds s there in
      let c = found.0 in
      ap (λ t. judged_cond writing t view) (sym found.2)
      ∙ put_formed c (All-contains (IsFormed from) conds c formed (Contains_from_among conds c found.1)) (λ t has. good t (among_flat_mapped scalars_of conds c t found.1 has))
