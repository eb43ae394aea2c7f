-- Scalars that keep what they owe: their places, their leaves and their domains.
use Rattle.std.proofs.Common.{◌≡◌, Bool, true, false, Option, Some, None, List, [], ◌∷◌, map, All, refl, sym, ap, ◌∙◌, subst}
use Rattle.std.specs.Prelude.{is_some}
use Rattle.std.proofs.lemmas.Bool.{false≢true}
use Rattle.std.proofs.lemmas.List.Elements.{All-head}
use Rattle.prefsql_values.specs.Limits.{IsLiteralValue}
use Rattle.prefsql_values.specs.declared.value.Domain.{Domain}
use Rattle.prefsql_values.specs.declared.value.Value.{Value}
use Rattle.prefsql_values.specs.declared.value.Value.TheVariants.{Num, Str, Null}
use Rattle.prefsql_tables.specs.Table.{Tables}
use Rattle.pref_terms.specs.declared.term.Leaf.{Leaf}
use Rattle.conditions.specs.declared.condition.Scalar.{Scalar}
use Rattle.conditions.specs.declared.condition.Scalar.TheVariants as resolved
use Rattle.query_meaning.specs.BlockFits as fits
use Rattle.query_meaning.specs.BlockFits.{IsLeaf, IsPlace}
use Rattle.query_meaning.specs.Valid as valid
use Rattle.query_meaning.specs.Valid.{Agree, IsOverLeaves, place_domain}
use Rattle.query_meaning.specs.declared.block.FromTable.{FromTable}
use Rattle.query_tree.specs.WellMade.{IsScalar}
use Rattle.query_tree.specs.declared.condition.ScalarTree.{ScalarTree}
use Rattle.query_tree.specs.declared.condition.ScalarTree.TheVariants as scalar
use Rattle.query_tree.specs.declared.name.NameTree.{NameTree}
use Rattle.query_tree.specs.declared.preference.BaseTree.{BaseTree}
use Rattle.query_tree.specs.declared.query.FromTree.{FromTree}
use Rattle.query_typing.specs.declared.column.Found.{Found}
use Rattle.query_typing.specs.declared.quality.Wanted.{Wanted}
use Rattle.query_typing.specs.declared.quality.Wanted.TheVariants.{Level, Distance}
use Rattle.query_typing.specs.Columns.{column_of, domain_found, place_found}
use Rattle.query_typing.specs.Conditions.{column_obligations, compared_obligations, domain_obligation, quality_obligations, scalar_domain, scalar_obligations}
use Rattle.query_typing.specs.Domains.{agree}
use Rattle.query_typing.specs.Leaves.{leaf_sites}
use Rattle.query_typing.specs.Obligations.{AllMet, Obligation}
use Rattle.query_typing.specs.Preferences.{bases_obligations}
use Rattle.query_typing.specs.Resolution.{AreLeavesOf, from_table, resolved_quality, resolved_scalar}
use Rattle.query_typing.proofs.MadeLaws.{first_met, second_met}
use Rattle.query_typing.proofs.ValidKinds.{same_domain}
use Rattle.query_typing.proofs.ValidQualities.{of_leaf, quality_is}
use Rattle.query_typing.proofs.ValidSites.{domain_is, known, place_is}

abbrev Met : Obligation → Type 0
Met o = o.met ≡ true

-- the leaves that a condition may speak of
abbrev pub over : Bool → List Leaf → List Leaf
over false leaves = []
over true leaves = leaves

-- the scalar has places of the FROM tables, and is over the leaves
abbrev pub IsGood : List FromTable → List Leaf → Scalar → Type 0
IsGood from leaves s = fits.IsScalar from s × IsOverLeaves leaves s

some_value : (v : Value) → IsLiteralValue v → is_some (valid.value_domain v) ≡ true
some_value (Num n) is = refl
some_value (Str text) is = refl
some_value Null is = absurd is

-- what is over leaves has a domain
some_scalar : (from : List FromTable) (leaves : List Leaf) (s : Scalar) → IsOverLeaves leaves s → is_some (valid.scalar_domain from s) ≡ true
some_scalar from leaves (resolved.Column place) is = refl
some_scalar from leaves (resolved.Literal value) is = some_value value is
some_scalar from leaves (resolved.Quality quality) is = refl

agree_same : (a b : Option Domain) → is_some a ≡ true → is_some b ≡ true → agree a b ≡ true → a ≡ b
agree_same None b some_a some_b same = absurd (false≢true some_a)
agree_same (Some a) None some_a some_b same = absurd (false≢true some_b)
agree_same (Some a) (Some b) some_a some_b same = ap Some (sym (same_domain a b same))

module _ (tables : Tables) (from : List FromTree) where
  column_place : (name : NameTree) → AllMet (column_obligations tables from name) → IsPlace (map (from_table tables) from) (place_found (column_of tables from name))
  column_place name owed =
      let at = known tables from name owed in
      subst (IsPlace (map (from_table tables) from)) (sym (ap place_found at.1)) (place_is tables from name at.0 at.1)

  pub group_is : (name : NameTree) → AllMet (column_obligations tables from name) → IsPlace (map (from_table tables) from) (place_found (column_of tables from name))
  group_is = column_place

  column_domain : (name : NameTree) → AllMet (column_obligations tables from name) → Some (place_domain (map (from_table tables) from) (place_found (column_of tables from name))) ≡ domain_found (column_of tables from name)
  column_domain name owed =
      let at = known tables from name owed in
      ap (λ (found : Found). Some (place_domain (map (from_table tables) from) (place_found found))) at.1
      ∙ ap Some (domain_is tables from name at.0 at.1)
      ∙ sym (ap domain_found at.1)

module _ (tables : Tables) (from : List FromTree) (bases : List BaseTree) (leaves : List Leaf) (are : AreLeavesOf tables from 1 bases leaves) (all : AllMet (bases_obligations tables from 0 bases)) (good : All (IsLeaf (map (from_table tables) from)) leaves) where
  abbrev owed_by : ScalarTree → List Obligation
  owed_by = scalar_obligations tables from (leaf_sites tables from bases)

  abbrev of : ScalarTree → Scalar
  of = resolved_scalar tables from leaves

  pub quality_good : (qualities : Bool) (wanted : Wanted) (name : NameTree) → qualities ≡ true → AllMet (quality_obligations tables from (leaf_sites tables from bases) wanted name) → IsGood (map (from_table tables) from) (over qualities leaves) (resolved.Quality (resolved_quality tables from leaves wanted name))
  quality_good false wanted name may owed = absurd (false≢true may)
  quality_good true wanted name may owed = (quality_is tables from bases leaves are all good wanted name owed, of_leaf tables from bases leaves are all good wanted name owed)

  pub scalar_good : (qualities : Bool) (s : ScalarTree) → IsScalar qualities s → AllMet (scalar_obligations tables from (leaf_sites tables from bases) s) → IsGood (map (from_table tables) from) (over qualities leaves) (resolved_scalar tables from leaves s)
  scalar_good qualities (scalar.Column name) is owed = (column_place tables from name owed, tt)
  scalar_good qualities (scalar.Literal literal) is owed = (tt, is)
  scalar_good qualities (scalar.Level name word) is owed = quality_good qualities Level name is.0 owed
  scalar_good qualities (scalar.Distance name word) is owed = quality_good qualities Distance name is.0 owed

  domain_same : (s : ScalarTree) → AllMet (scalar_obligations tables from (leaf_sites tables from bases) s) → valid.scalar_domain (map (from_table tables) from) (resolved_scalar tables from leaves s) ≡ scalar_domain tables from s
  domain_same (scalar.Column name) owed = column_domain tables from name owed
  domain_same (scalar.Literal literal) owed = refl
  domain_same (scalar.Level name word) owed = refl
  domain_same (scalar.Distance name word) owed = refl

  -- a second operand, beside the first
  pub compared_good : (qualities : Bool) (a b : ScalarTree) → IsScalar qualities a → IsScalar qualities b
      → AllMet (scalar_obligations tables from (leaf_sites tables from bases) a) → AllMet (compared_obligations tables from (leaf_sites tables from bases) (scalar_domain tables from a) b)
      → IsGood (map (from_table tables) from) (over qualities leaves) (resolved_scalar tables from leaves b) × Agree (map (from_table tables) from) (resolved_scalar tables from leaves a) (resolved_scalar tables from leaves b)
  compared_good qualities a b is_a is_b owed_a owed =
      let block_from = map (from_table tables) from in
      let last = domain_obligation tables from (scalar_domain tables from a) b in
      let owed_b = first_met (owed_by b) (last ∷ []) owed in
      let good_a = scalar_good qualities a is_a owed_a in
      let good_b = scalar_good qualities b is_b owed_b in
      let same_a = domain_same a owed_a in
      let same_b = domain_same b owed_b in
      let met = All-head Met last [] (second_met (owed_by b) (last ∷ []) owed) in (
        good_b,
        agree_same (valid.scalar_domain block_from (of a)) (valid.scalar_domain block_from (of b))
            (some_scalar block_from (over qualities leaves) (of a) good_a.1)
            (some_scalar block_from (over qualities leaves) (of b) good_b.1)
            ((λ i. agree (same_a i) (same_b i)) ∙ met),
      )
