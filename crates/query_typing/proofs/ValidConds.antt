-- Conditions that keep what they owe, and the conditions that AND joins at their top.
use Rattle.std.proofs.Common.{◌≡◌, ℕ, ◌+◌, ◌^◌, ◌<◌, ◌≤◌, Bool, List, [], ◌∷◌, ◌++◌, map, length, get_or, All, refl, sym, ap, ◌∙◌, subst, arith, max}
use Rattle.std.specs.List.{flat_map}
use Rattle.std.proofs.lemmas.List.{length-map}
use Rattle.std.proofs.lemmas.List.Elements.{All-nil, All-cons, All-head, All-tail, All-append, All-map, All-weaker}
use Rattle.prefsql_values.specs.Nesting.{Standing, alone, in_and, in_or, after_not, wraps_and, wraps_or, wraps_not, in_parentheses, deepest}
use Rattle.prefsql_tables.specs.Table.{Tables}
use Rattle.pref_terms.specs.declared.term.Leaf.{Leaf}
use Rattle.conditions.proofs.CondReads.{scalars_of-And, scalars_of-Or, scalars_of-Not, scalars_of-Compare, scalars_of-Between, scalars_of-OneOf, scalars_of-IsNull, scalars_of-Top}
use Rattle.conditions.specs.Meaning.{scalars_of}
use Rattle.conditions.specs.declared.condition.Cond.{Cond}
use Rattle.conditions.specs.declared.condition.Cond as cond
use Rattle.conditions.specs.declared.condition.Scalar.{Scalar}
use Rattle.conditions.specs.declared.condition.Scalar.TheVariants as resolved
use Rattle.query_meaning.proofs.CondParts.{IsFormed-And, IsFormed-Not, IsFormed-Or, conjuncts-And, conjuncts-Between, conjuncts-Compare, conjuncts-IsNull, conjuncts-Not, conjuncts-OneOf, conjuncts-Or, conjuncts-Top, joined-several}
use Rattle.query_meaning.proofs.CondParts as parts_of
use Rattle.query_meaning.specs.BlockFits as fits
use Rattle.query_meaning.specs.BlockFits.{IsLeaf}
use Rattle.query_meaning.specs.Conjuncts.{conjuncts, joined}
use Rattle.query_meaning.specs.Nesting as meaning
use Rattle.query_meaning.specs.Valid.{Agree, AreConjuncts, IsFormed, IsOverLeaves}
use Rattle.query_tree.proofs.CondLemmas as trees
use Rattle.query_tree.specs.Nesting as tree
use Rattle.query_tree.specs.WellMade.{IsCond, IsCondition}
use Rattle.query_tree.specs.declared.condition.CondTree.{CondTree, Or, Not, Compare, Between, OneOf, IsNull, Top}
use Rattle.query_tree.specs.declared.condition.ScalarTree.{ScalarTree}
use Rattle.query_tree.specs.declared.preference.BaseTree.{BaseTree}
use Rattle.query_tree.specs.declared.query.FromTree.{FromTree}
use Rattle.query_typing.specs.declared.quality.Wanted.TheVariants.{Either}
use Rattle.query_typing.specs.Conditions.{compared_obligations, cond_obligations, scalar_domain, scalar_obligations}
use Rattle.query_typing.specs.Leaves.{leaf_sites}
use Rattle.query_typing.specs.Obligations.{AllMet, Obligation}
use Rattle.query_typing.specs.Preferences.{bases_obligations}
use Rattle.query_typing.specs.Resolution.{AreLeavesOf, from_table, resolved_cond, resolved_quality, resolved_scalar}
use Rattle.query_typing.proofs.CondReads.{owed-And, owed-Between, owed-Compare, owed-IsNull, owed-Not, owed-OneOf, owed-Or, owed-Top}
use Rattle.query_typing.proofs.MadeLaws.{first_met, second_met}
use Rattle.query_typing.proofs.ResolvedReads.{of_And, of_Between, of_Compare, of_IsNull, of_Not, of_OneOf, of_Or, of_Top}
use Rattle.query_typing.proofs.TreeInduction.{cond_induction}
use Rattle.query_typing.proofs.ValidScalars.{IsGood, compared_good, over, quality_good, scalar_good}

-- ---- nesting

module _ (tables : Tables) (from : List FromTree) (leaves : List Leaf) where
  abbrev of : CondTree → Cond
  of = resolved_cond tables from leaves

  -- the condition nests as its tree does
  abbrev NestsAlike : CondTree → Type 0
  NestsAlike c = (standing : Standing) → meaning.nesting_in (resolved_cond tables from leaves c) standing ≡ tree.nesting_in c standing

  parts_alike : (parts : List CondTree) → All NestsAlike parts → (standing : Standing)
      → deepest (map (λ part. meaning.nesting_in part standing) (map (resolved_cond tables from leaves) parts)) ≡ deepest (map (λ part. tree.nesting_in part standing) parts)
  parts_alike [] each standing = refl
  parts_alike (part ∷ parts) each standing =
      let own = All-head NestsAlike part parts each standing in
      let more = parts_alike parts (All-tail NestsAlike part parts each) standing in
      λ i. max (own i) (more i)

  pub nests_alike : (c : CondTree) → (standing : Standing) → meaning.nesting_in (resolved_cond tables from leaves c) standing ≡ tree.nesting_in c standing
  nests_alike =
      cond_induction NestsAlike
      (λ parts each standing.
      ap (λ c. meaning.nesting_in c standing) (of_And tables from leaves parts)
      ∙ parts_of.nesting_in-And (map of parts) standing
      ∙ ap (in_parentheses (wraps_and standing)) (parts_alike parts each in_and)
      ∙ sym (trees.nesting_in-And parts standing))
      (λ parts each standing.
      ap (λ c. meaning.nesting_in c standing) (of_Or tables from leaves parts)
      ∙ parts_of.nesting_in-Or (map of parts) standing
      ∙ ap (in_parentheses (wraps_or standing)) (parts_alike parts each in_or)
      ∙ sym (trees.nesting_in-Or parts standing))
      (λ part each standing.
      ap (λ c. meaning.nesting_in c standing) (of_Not tables from leaves part)
      ∙ parts_of.nesting_in-Not (of part) standing
      ∙ ap (in_parentheses (wraps_not standing)) (each after_not)
      ∙ sym (trees.nesting_in-Not part standing))
      (λ op a b standing.
      ap (λ c. meaning.nesting_in c standing) (of_Compare tables from leaves op a b)
      ∙ parts_of.nesting_in-Compare op _ _ standing ∙ sym (trees.nesting_in-Compare op a b standing))
      (λ negated a low high standing.
      ap (λ c. meaning.nesting_in c standing) (of_Between tables from leaves negated a low high)
      ∙ parts_of.nesting_in-Between negated _ _ _ standing ∙ sym (trees.nesting_in-Between negated a low high standing))
      (λ negated a list standing.
      ap (λ c. meaning.nesting_in c standing) (of_OneOf tables from leaves negated a list)
      ∙ parts_of.nesting_in-OneOf negated _ _ standing ∙ sym (trees.nesting_in-OneOf negated a list standing))
      (λ negated a standing.
      ap (λ c. meaning.nesting_in c standing) (of_IsNull tables from leaves negated a)
      ∙ parts_of.nesting_in-IsNull negated _ standing ∙ sym (trees.nesting_in-IsNull negated a standing))
      (λ name standing.
      ap (λ c. meaning.nesting_in c standing) (of_Top tables from leaves name)
      ∙ parts_of.nesting_in-Top _ standing ∙ sym (trees.nesting_in-Top name standing))

-- ---- scalars and domains

met_parts : {A : Type 0} (owed : A → List Obligation) (xs : List A) → AllMet (flat_map (λ part. part) (map owed xs)) → All (λ (x : A). AllMet (owed x)) xs
met_parts {A} owed [] all = All-nil (λ (x : A). AllMet (owed x))
met_parts {A} owed (x ∷ xs) all =
    let rest = flat_map (λ part. part) (map owed xs) in
    All-cons (λ (y : A). AllMet (owed y)) x xs (first_met (owed x) rest all) (met_parts owed xs (second_met (owed x) rest all))

pub met_items : {A : Type 0} (owed : A → List Obligation) (xs : List A) → AllMet (flat_map owed xs) → All (λ (x : A). AllMet (owed x)) xs
met_items {A} owed [] all = All-nil (λ (x : A). AllMet (owed x))
met_items {A} owed (x ∷ xs) all =
    let rest = flat_map owed xs in
    All-cons (λ (y : A). AllMet (owed y)) x xs (first_met (owed x) rest all) (met_items owed xs (second_met (owed x) rest all))

flat_good : (P : Scalar → Type 0) (conds : List Cond) → All (λ (c : Cond). All P (scalars_of c)) conds → All P (flat_map scalars_of conds)
flat_good P [] all = All-nil P
flat_good P (c ∷ cs) all =
    All-append P (scalars_of c) (flat_map scalars_of cs)
    (All-head (λ (c : Cond). All P (scalars_of c)) c cs all)
    (flat_good P cs (All-tail (λ (c : Cond). All P (scalars_of c)) c cs all))

flat_parts : (conds : List Cond) → flat_map (λ (scalars : List Scalar). scalars) (map scalars_of conds) ≡ flat_map scalars_of conds
flat_parts [] = refl
flat_parts (c ∷ cs) = ap (λ more. scalars_of c ++ more) (flat_parts cs)

module _ (tables : Tables) (from : List FromTree) (bases : List BaseTree) (leaves : List Leaf) (are : AreLeavesOf tables from 1 bases leaves) (all : AllMet (bases_obligations tables from 0 bases)) (good : All (IsLeaf (map (from_table tables) from)) leaves) (qualities : Bool) where
  abbrev Good : Scalar → Type 0
  Good = IsGood (map (from_table tables) from) (over qualities leaves)

  -- all its scalars are good, and it is formed
  record IsRight (c : Cond) : Type 0 where
    scalars : All (IsGood (map (from_table tables) from) (over qualities leaves)) (scalars_of c)
    formed : IsFormed (map (from_table tables) from) c

  abbrev owed_by : CondTree → List Obligation
  owed_by = cond_obligations tables from (leaf_sites tables from bases)

  abbrev IsRightIfMet : CondTree → Type 0
  IsRightIfMet c = IsCond qualities c → AllMet (cond_obligations tables from (leaf_sites tables from bases) c) → IsRight (resolved_cond tables from leaves c)

  all_right : (parts : List CondTree) → All IsRightIfMet parts → All (IsCond qualities) parts → All (λ (c : CondTree). AllMet (cond_obligations tables from (leaf_sites tables from bases) c)) parts → All IsRight (map (resolved_cond tables from leaves) parts)
  all_right parts each made met = All-map IsRight (of tables from leaves) parts (λ k d small. each k d small (made k d small) (met k d small))

  parts_good : (conds : List Cond) → All IsRight conds → All Good (flat_map scalars_of conds)
  parts_good conds right = flat_good Good conds (All-weaker IsRight (λ (c : Cond). All Good (scalars_of c)) (λ c is. is.scalars) conds right)

  parts_formed : (conds : List Cond) → All IsRight conds → All (IsFormed (map (from_table tables) from)) conds
  parts_formed conds right = All-weaker IsRight (IsFormed (map (from_table tables) from)) (λ c is. is.formed) conds right

  abbrev scalar_of : ScalarTree → Scalar
  scalar_of = resolved_scalar tables from leaves

  one : (s : Scalar) → Good s → All Good (s ∷ [])
  one s is = All-cons Good s [] is (All-nil Good)

  right_if_met : (c : CondTree) → IsRightIfMet c
  right_if_met =
      cond_induction IsRightIfMet
      (λ parts each is met.
      let both = trees.And-IsCond qualities parts is in
      let owed = met_parts owed_by parts (subst AllMet (owed-And tables from (leaf_sites tables from bases) parts) met) in
      let right = all_right parts each both.1 owed in
      subst IsRight (sym (of_And tables from leaves parts))
      (record {
        scalars = subst (All Good) (sym (scalars_of-And (map (of tables from leaves) parts) ∙ flat_parts (map (of tables from leaves) parts))) (parts_good (map (of tables from leaves) parts) right);
        formed = IsFormed-And (map (from_table tables) from) (map (of tables from leaves) parts)
            (let count = length-map parts (of tables from leaves) in let two = both.0.0 in let few = both.0.1 in (omega (arith, count, two), omega (arith, count, few)))
            (parts_formed (map (of tables from leaves) parts) right);
      }))
      (λ parts each is met.
      let both = trees.Or-IsCond qualities parts is in
      let owed = met_parts owed_by parts (subst AllMet (owed-Or tables from (leaf_sites tables from bases) parts) met) in
      let right = all_right parts each both.1 owed in
      subst IsRight (sym (of_Or tables from leaves parts))
      (record {
        scalars = subst (All Good) (sym (scalars_of-Or (map (of tables from leaves) parts) ∙ flat_parts (map (of tables from leaves) parts))) (parts_good (map (of tables from leaves) parts) right);
        formed = IsFormed-Or (map (from_table tables) from) (map (of tables from leaves) parts)
            (let count = length-map parts (of tables from leaves) in let two = both.0.0 in let few = both.0.1 in (omega (arith, count, two), omega (arith, count, few)))
            (parts_formed (map (of tables from leaves) parts) right);
      }))
      (λ part each is met.
      let right = each (trees.Not-IsCond qualities part is) (subst AllMet (owed-Not tables from (leaf_sites tables from bases) part) met) in
      subst IsRight (sym (of_Not tables from leaves part))
      (record {
        scalars = subst (All Good) (sym (scalars_of-Not (of tables from leaves part))) right.scalars;
        formed = IsFormed-Not (map (from_table tables) from) (of tables from leaves part) right.formed;
      }))
      (λ op a b is met.
      let owed_a = scalar_obligations tables from (leaf_sites tables from bases) a in
      let owed_b = compared_obligations tables from (leaf_sites tables from bases) (scalar_domain tables from a) b in
      let met' = subst AllMet (owed-Compare tables from (leaf_sites tables from bases) op a b) met in
      let first = scalar_good tables from bases leaves are all good qualities a is.0 (first_met owed_a owed_b met') in
      let second = compared_good tables from bases leaves are all good qualities a b is.0 is.1 (first_met owed_a owed_b met') (second_met owed_a owed_b met') in
      subst IsRight (sym (of_Compare tables from leaves op a b))
      (record {
        scalars = subst (All Good) (sym (scalars_of-Compare op (scalar_of a) (scalar_of b))) (All-cons Good (scalar_of a) (scalar_of b ∷ []) first (one (scalar_of b) second.0));
        formed = second.1;
      }))
      (λ negated a low high is met.
      let owed_a = scalar_obligations tables from (leaf_sites tables from bases) a in
      let owed_low = compared_obligations tables from (leaf_sites tables from bases) (scalar_domain tables from a) low in
      let owed_high = compared_obligations tables from (leaf_sites tables from bases) (scalar_domain tables from a) high in
      let met' = subst AllMet (owed-Between tables from (leaf_sites tables from bases) negated a low high) met in
      let front = first_met (owed_a ++ owed_low) owed_high met' in
      let met_a = first_met owed_a owed_low front in
      let first = scalar_good tables from bases leaves are all good qualities a is.0 met_a in
      let lower = compared_good tables from bases leaves are all good qualities a low is.0 is.1 met_a (second_met owed_a owed_low front) in
      let upper = compared_good tables from bases leaves are all good qualities a high is.0 is.2 met_a (second_met (owed_a ++ owed_low) owed_high met') in
      subst IsRight (sym (of_Between tables from leaves negated a low high))
      (record {
        scalars = subst (All Good) (sym (scalars_of-Between negated (scalar_of a) (scalar_of low) (scalar_of high)))
            (All-cons Good (scalar_of a) (scalar_of low ∷ scalar_of high ∷ []) first (All-cons Good (scalar_of low) (scalar_of high ∷ []) lower.0 (one (scalar_of high) upper.0)));
        formed = (lower.1, upper.1);
      }))
      (λ negated a list is met.
      let owed_a = scalar_obligations tables from (leaf_sites tables from bases) a in
      let owed_b = compared_obligations tables from (leaf_sites tables from bases) (scalar_domain tables from a) in
      let met' = subst AllMet (owed-OneOf tables from (leaf_sites tables from bases) negated a list) met in
      let met_a = first_met owed_a (flat_map owed_b list) met' in
      let met_list = met_items owed_b list (second_met owed_a (flat_map owed_b list) met') in
      let first = scalar_good tables from bases leaves are all good qualities a is.0 met_a in
      let each = λ (k : ℕ) (d : ScalarTree) (small : k < length list). compared_good tables from bases leaves are all good qualities a (get_or list k d) is.0 (is.2 k d small) met_a (met_list k d small) in
      subst IsRight (sym (of_OneOf tables from leaves negated a list))
      (record {
        scalars = subst (All Good) (sym (scalars_of-OneOf negated (scalar_of a) (map scalar_of list)))
            (All-cons Good (scalar_of a) (map scalar_of list) first (All-map Good scalar_of list (λ k d small. (each k d small).0)));
        formed = (
          (let count = length-map list scalar_of in let some = is.1.0 in omega (arith, count, some)),
          (let count = length-map list scalar_of in let few = is.1.1 in omega (arith, count, few)),
          All-map (Agree (map (from_table tables) from) (scalar_of a)) scalar_of list (λ k d small. (each k d small).1),
        );
      }))
      (λ negated a is met.
      let first = scalar_good tables from bases leaves are all good qualities a is (subst AllMet (owed-IsNull tables from (leaf_sites tables from bases) negated a) met) in
      subst IsRight (sym (of_IsNull tables from leaves negated a))
      (record { scalars = subst (All Good) (sym (scalars_of-IsNull negated (scalar_of a))) (one (scalar_of a) first); formed = tt }))
      (λ name is met.
      let quality = resolved_quality tables from leaves Either name in
      let first = quality_good tables from bases leaves are all good qualities Either name is.0 (subst AllMet (owed-Top tables from (leaf_sites tables from bases) name) met) in
      subst IsRight (sym (of_Top tables from leaves name))
      (record { scalars = subst (All Good) (sym (scalars_of-Top quality)) (one (resolved.Quality quality) first); formed = tt }))

  -- ---- the conditions that AND joins

  -- they are valid conjuncts with places
  record AreRight (conds : List Cond) : Type 0 where
    valid : AreConjuncts (map (from_table tables) from) (over qualities leaves) conds
    placed : All (fits.IsScalar (map (from_table tables) from)) (flat_map scalars_of conds)

  by_parts : (conds : List Cond) → length conds < 2 ^ 32 → All IsRight conds → conjuncts (joined conds) ≡ conds → meaning.nesting (joined conds) ≤ 64 → AreRight conds
  by_parts conds few right same nested =
      let scalars = parts_good conds right in
      record {
        valid = record {
          few = few;
          formed = parts_formed conds right;
          scalars = All-weaker Good (IsOverLeaves (over qualities leaves)) (λ s is. is.1) (flat_map scalars_of conds) scalars;
          parts = same;
          nested = nested;
        };
        placed = All-weaker Good (fits.IsScalar (map (from_table tables) from)) (λ s is. is.0) (flat_map scalars_of conds) scalars;
      }

  -- one condition that is no AND
  by_one : (c : Cond) → IsRight c → conjuncts c ≡ c ∷ [] → meaning.nesting c ≤ 64 → AreRight (conjuncts c)
  by_one c right same nested =
      subst AreRight (sym same) (by_parts (c ∷ []) (omega arith) (All-cons IsRight c [] right (All-nil IsRight)) same nested)

  -- two parts or more of an AND
  by_and : (parts : List Cond) → 2 ≤ length parts → length parts < 2 ^ 32 → All IsRight parts → meaning.nesting (cond.And parts) ≤ 64 → AreRight (conjuncts (cond.And parts))
  by_and parts two few right nested =
      let same = joined-several parts two in
      subst AreRight (sym (conjuncts-And parts))
      (by_parts parts few right (ap conjuncts same ∙ conjuncts-And parts) (subst (λ c. meaning.nesting c ≤ 64) (sym same) nested))

  -- what is right of one condition is right of an equal one
  moved : (c d : Cond) → c ≡ d → (IsRight d → meaning.nesting d ≤ 64 → AreRight (conjuncts d)) → IsRight c → meaning.nesting c ≤ 64 → AreRight (conjuncts c)
  moved c d same one right nested = subst (λ x. AreRight (conjuncts x)) (sym same) (one (subst IsRight same right) (subst (λ x. meaning.nesting x ≤ 64) same nested))

  abbrev AreRightIfMet : CondTree → Type 0
  AreRightIfMet c = IsCond qualities c → AllMet (cond_obligations tables from (leaf_sites tables from bases) c) → meaning.nesting (resolved_cond tables from leaves c) ≤ 64 → AreRight (conjuncts (resolved_cond tables from leaves c))

  top_right : (c : CondTree) → AreRightIfMet c
  top_right =
      cond_induction AreRightIfMet
      (λ parts _ is met nested.
      let both = trees.And-IsCond qualities parts is in
      let owed = met_parts owed_by parts (subst AllMet (owed-And tables from (leaf_sites tables from bases) parts) met) in
      let right = all_right parts (λ k d small. right_if_met (get_or parts k d)) both.1 owed in
      let same = of_And tables from leaves parts in
      let count = length-map parts (of tables from leaves) in
      let two = both.0.0 in
      let few = both.0.1 in
      subst (λ x. AreRight (conjuncts x)) (sym same)
      (by_and (map (of tables from leaves) parts) (omega (arith, count, two)) (omega (arith, count, few)) right (subst (λ x. meaning.nesting x ≤ 64) same nested)))
      (λ parts _ is met nested. moved _ _ (of_Or tables from leaves parts) (λ right deep. by_one _ right (conjuncts-Or (map (of tables from leaves) parts)) deep) (right_if_met (Or parts) is met) nested)
      (λ part _ is met nested. moved _ _ (of_Not tables from leaves part) (λ right deep. by_one _ right (conjuncts-Not (of tables from leaves part)) deep) (right_if_met (Not part) is met) nested)
      (λ op a b is met nested. moved _ _ (of_Compare tables from leaves op a b) (λ right deep. by_one _ right (conjuncts-Compare op (scalar_of a) (scalar_of b)) deep) (right_if_met (Compare op a b) is met) nested)
      (λ negated a low high is met nested.
      moved _ _ (of_Between tables from leaves negated a low high) (λ right deep. by_one _ right (conjuncts-Between negated (scalar_of a) (scalar_of low) (scalar_of high)) deep) (right_if_met (Between negated a low high) is met) nested)
      (λ negated a list is met nested. moved _ _ (of_OneOf tables from leaves negated a list) (λ right deep. by_one _ right (conjuncts-OneOf negated (scalar_of a) (map scalar_of list)) deep) (right_if_met (OneOf negated a list) is met) nested)
      (λ negated a is met nested. moved _ _ (of_IsNull tables from leaves negated a) (λ right deep. by_one _ right (conjuncts-IsNull negated (scalar_of a)) deep) (right_if_met (IsNull negated a) is met) nested)
      (λ name is met nested. moved _ _ (of_Top tables from leaves name) (λ right deep. by_one _ right (conjuncts-Top (resolved_quality tables from leaves Either name)) deep) (right_if_met (Top name) is met) nested)

  -- a condition that is well made and keeps what it owes stands for valid conjuncts with places
  pub cond_right : (c : CondTree) → IsCondition qualities c → AllMet (cond_obligations tables from (leaf_sites tables from bases) c)
      → AreConjuncts (map (from_table tables) from) (over qualities leaves) (conjuncts (resolved_cond tables from leaves c))
      × All (fits.IsScalar (map (from_table tables) from)) (flat_map scalars_of (conjuncts (resolved_cond tables from leaves c)))
  cond_right c is met =
      let deep = nests_alike tables from leaves c alone in
      let limit = is.nested in
      let right = top_right c is.parts met (omega (arith, deep, limit)) in
      (right.valid, right.placed)
