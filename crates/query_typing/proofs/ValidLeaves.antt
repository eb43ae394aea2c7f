-- The leaves of a statement that keeps what it owes stand on columns that their base preferences rank, and are numbered.
use Rattle.std.proofs.Common.{◌≡◌, ℕ, ◌+◌, true, false, not, ◌&&◌, eqb, Some, List, [], ◌∷◌, length, map, All, refl, sym, ap, ◌∙◌, subst, arith}
use Rattle.std.specs.List.{range_with_len}
use Rattle.std.proofs.lemmas.Bool.{not-true}
use Rattle.std.proofs.lemmas.List.Elements.{All-nil, All-cons, All-head, All-tail}
use Rattle.prefsql_values.specs.declared.value.Domain.{Domain}
use Rattle.prefsql_values.specs.declared.value.Domain.TheVariants.{Integer}
use Rattle.prefsql_values.specs.declared.value.Value.{Value}
use Rattle.prefsql_tables.specs.Table.{Tables}
use Rattle.prefsql_tables.specs.declared.place.ColumnPlace.{ColumnPlace}
use Rattle.pref_terms.specs.declared.term.Leaf.{Leaf}
use Rattle.query_meaning.specs.BlockFits.{IsLeaf, IsRankedPlace}
use Rattle.query_meaning.specs.Valid as valid
use Rattle.query_meaning.specs.Valid.{IsValidLeaf, named_values, place_domain}
use Rattle.query_tree.specs.WellMade.{IsBase}
use Rattle.query_tree.specs.declared.preference.BaseTree.{BaseTree}
use Rattle.query_tree.specs.declared.query.FromTree.{FromTree}
use Rattle.query_typing.specs.declared.column.Found.{Found}
use Rattle.query_typing.specs.declared.column.Found.TheVariants.{One}
use Rattle.query_typing.specs.declared.column.Site.{Site}
use Rattle.query_typing.specs.Columns.{column_of, domain_found, place_found}
use Rattle.query_typing.specs.Conditions.{column_obligations}
use Rattle.query_typing.specs.Obligations.{AllMet, Obligation, owes}
use Rattle.query_typing.specs.Preferences.{admits_null, base_column_obligations, base_obligations, bases_obligations, form_obligations, form_ranks_numbers, is_text}
use Rattle.query_typing.specs.Resolution.{AreLeavesOf, IsLeafOf, from_table}
use Rattle.query_typing.proofs.BaseLaws.{base_makeable, found_numbers}
use Rattle.query_typing.proofs.MadeLaws.{first_met, second_met}
use Rattle.query_typing.proofs.ValidKinds.{kind_named, kind_sound, ranks_is, trivial_is}
use Rattle.query_typing.proofs.ValidSites.{domain_at, domain_is, known, nullable_at, place_is}

abbrev Met : Obligation → Type 0
Met o = o.met ≡ true

abbrev no_obligation : Obligation
no_obligation = owes 0 0 true

some_domain : (a b : Domain) → Some a ≡ Some b → a ≡ b
some_domain a b same = cc

module _ (tables : Tables) (from : List FromTree) where
  -- the column of a base preference that keeps what it owes
  pub base_site : (base : BaseTree) → AllMet (base_obligations tables from base) → (site : Site) × (column_of tables from base.column ≡ One site)
  unfolding base_obligations
  base_site base all =
      let found = column_of tables from base.column in
      let own = first_met (base_column_obligations tables from found base) (form_obligations tables from found base.form) all in
      let null = owes 306 base.column.at (not (admits_null found)) in
      let number = owes 307 base.column.at (not (form_ranks_numbers base.form && is_text (domain_found found))) in
      known tables from base.column (first_met (column_obligations tables from base.column) (null ∷ number ∷ []) own)

  -- what it owes of its column, and of its form
  owed_column : (base : BaseTree) → AllMet (base_obligations tables from base) → AllMet (base_column_obligations tables from (column_of tables from base.column) base)
  unfolding base_obligations
  owed_column base all =
      let found = column_of tables from base.column in
      first_met (base_column_obligations tables from found base) (form_obligations tables from found base.form) all

  owed_form : (base : BaseTree) → AllMet (base_obligations tables from base) → AllMet (form_obligations tables from (column_of tables from base.column) base.form)
  unfolding base_obligations
  owed_form base all =
      let found = column_of tables from base.column in
      second_met (base_column_obligations tables from found base) (form_obligations tables from found base.form) all

  module _ (base : BaseTree) (site : Site) (is : column_of tables from base.column ≡ One site) (all : AllMet (base_obligations tables from base)) where
    no_null : site.nullable ≡ false
    no_null =
        let found = column_of tables from base.column in
        let null = owes 306 base.column.at (not (admits_null found)) in
        let number = owes 307 base.column.at (not (form_ranks_numbers base.form && is_text (domain_found found))) in
        let owed = second_met (column_obligations tables from base.column) (null ∷ number ∷ []) (owed_column base all) in
        sym (ap admits_null is) ∙ not-true (admits_null found) (All-head Met null (number ∷ []) owed)

    numbers : form_ranks_numbers base.form ≡ true → Some site.domain ≡ Some Integer
    numbers ranks = sym (ap domain_found is) ∙ found_numbers tables from (column_of tables from base.column) base refl (owed_column base all) ranks

    form_met : AllMet (form_obligations tables from (One site) base.form)
    form_met = subst (λ (found : Found). AllMet (form_obligations tables from found base.form)) is (owed_form base all)

    module _ (number : ℕ) (leaf : Leaf) (made : IsBase base) (of : IsLeafOf tables from number base leaf) where
      place_of : leaf.place ≡ site.place
      place_of = of.place ∙ ap place_found is

      ranked : IsRankedPlace (map (from_table tables) from) site.place leaf.base
      ranked = record {
        there = place_is tables from base.column site is;
        rankable = λ d. record {
          no_null = nullable_at tables from base.column site is d ∙ no_null;
          numbers = λ ranks. domain_at tables from base.column site is d ∙ some_domain site.domain Integer (numbers (sym (ranks_is base.form leaf.base of.base) ∙ ranks));
        };
      }

      leaf_is : IsLeaf (map (from_table tables) from) leaf
      leaf_is = record {
        ranked = subst (λ (place : ColumnPlace). IsRankedPlace (map (from_table tables) from) place leaf.base) (sym place_of) ranked;
        trivial = λ yes. of.trivial ∙ trivial_is base.form leaf.base base.trivial of.base made.trivial yes;
      }

      leaf_valid : IsValidLeaf (map (from_table tables) from) leaf
      leaf_valid = record {
        sound = kind_sound base.form leaf.base made.form (base_makeable tables from base made all) of.base;
        values = subst (λ (d : Domain). All (λ (v : Value). valid.value_domain v ≡ Some d) (named_values leaf.base))
            (sym (ap (place_domain (map (from_table tables) from)) place_of ∙ domain_is tables from base.column site is))
            (kind_named tables from site base.form leaf.base made.form numbers form_met of.base);
      }

  -- the leaf of a base preference that keeps what it owes
  one_leaf : (base : BaseTree) → AllMet (base_obligations tables from base) → (number : ℕ) (leaf : Leaf) → IsBase base → IsLeafOf tables from number base leaf → IsLeaf (map (from_table tables) from) leaf × IsValidLeaf (map (from_table tables) from) leaf
  one_leaf base all number leaf made of =
      let at = base_site base all in
      (leaf_is base at.0 at.1 all number leaf made of, leaf_valid base at.0 at.1 all number leaf made of)

  pub first_base : (count : ℕ) (base : BaseTree) (bases : List BaseTree) → AllMet (bases_obligations tables from count (base ∷ bases)) → AllMet (base_obligations tables from base)
  first_base count base bases all =
      let few = owes 318 base.at (not (eqb count 8)) in
      All-tail Met few (base_obligations tables from base) (first_met (few ∷ base_obligations tables from base) (bases_obligations tables from (count + 1) bases) all)

  pub other_bases : (count : ℕ) (base : BaseTree) (bases : List BaseTree) → AllMet (bases_obligations tables from count (base ∷ bases)) → AllMet (bases_obligations tables from (count + 1) bases)
  other_bases count base bases all =
      second_met (owes 318 base.at (not (eqb count 8)) ∷ base_obligations tables from base) (bases_obligations tables from (count + 1) bases) all

  pub leaves_are : (number count : ℕ) (bases : List BaseTree) (leaves : List Leaf) → All IsBase bases → AllMet (bases_obligations tables from count bases) → AreLeavesOf tables from number bases leaves
      → All (IsLeaf (map (from_table tables) from)) leaves × All (IsValidLeaf (map (from_table tables) from)) leaves
  leaves_are number count [] [] made all are = (All-nil (IsLeaf (map (from_table tables) from)), All-nil (IsValidLeaf (map (from_table tables) from)))
  leaves_are number count [] (leaf ∷ leaves) made all are = absurd are
  leaves_are number count (base ∷ bases) [] made all are = absurd are
  leaves_are number count (base ∷ bases) (leaf ∷ leaves) made all are =
      let one = one_leaf base (first_base count base bases all) number leaf (All-head IsBase base bases made) are.0 in
      let rest = leaves_are (number + 1) (count + 1) bases leaves (All-tail IsBase base bases made) (other_bases count base bases all) are.1 in (
        All-cons (IsLeaf (map (from_table tables) from)) leaf leaves one.0 rest.0,
        All-cons (IsValidLeaf (map (from_table tables) from)) leaf leaves one.1 rest.1,
      )

  pub leaves_numbered : (number : ℕ) (bases : List BaseTree) (leaves : List Leaf) → AreLeavesOf tables from number bases leaves → map (λ (leaf : Leaf). leaf.number) leaves ≡ range_with_len number (length leaves)
  leaves_numbered number [] [] are = refl
  leaves_numbered number [] (leaf ∷ leaves) are = absurd are
  leaves_numbered number (base ∷ bases) [] are = absurd are
  leaves_numbered number (base ∷ bases) (leaf ∷ leaves) are =
      ap (λ n. n ∷ map (λ (l : Leaf). l.number) leaves) are.0.numbered
      ∙ ap (λ ns. number ∷ ns) (leaves_numbered (number + 1) bases leaves are.1)

  pub leaves_counted : (number : ℕ) (bases : List BaseTree) (leaves : List Leaf) → AreLeavesOf tables from number bases leaves → length leaves ≡ length bases
  leaves_counted number [] [] are = refl
  leaves_counted number [] (leaf ∷ leaves) are = absurd are
  leaves_counted number (base ∷ bases) [] are = absurd are
  leaves_counted number (base ∷ bases) (leaf ∷ leaves) are =
      let more = leaves_counted (number + 1) bases leaves are.1 in omega (arith, more)
