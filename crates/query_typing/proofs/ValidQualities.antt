-- A quality that keeps what it owes is that of a leaf that has it.
use Rattle.std.proofs.Common.{◌≡◌, ℕ, suc, ◌+◌, true, not, cond, eqb, ◌||◌, ◌&&◌, List, [], ◌∷◌, map, All, refl, sym, ap, ◌∙◌, subst, ⊎_elim, arith}
use Rattle.std.specs.Prelude.{Any, IsTrue, nat_lt}
use Rattle.std.proofs.lemmas.Bool.{cases_Bool, and_parts, cond-true, cond-false, not-true, eqb-false, or_left, or_right}
use Rattle.std.proofs.lemmas.List.Elements.{All-contains, All-head}
use Rattle.std.proofs.lemmas.List.Sums.{sum_by-cons}
use Rattle.prefsql_tables.specs.Table.{Tables}
use Rattle.prefsql_tables.specs.declared.place.ColumnPlace.{ColumnPlace}
use Rattle.base_prefs.specs.Kind.{has_distance, has_level}
use Rattle.base_prefs.specs.declared.kind.Kind.{Kind}
use Rattle.pref_terms.specs.declared.term.Leaf.{Leaf}
use Rattle.conditions.specs.declared.condition.Quality.{Quality}
use Rattle.query_meaning.specs.BlockFits.{IsLeaf, IsQuality, IsRankedPlace}
use Rattle.query_meaning.specs.Valid.{IsQualityOf}
use Rattle.query_tree.specs.declared.name.NameTree.{NameTree}
use Rattle.query_tree.specs.declared.preference.BaseTree.{BaseTree}
use Rattle.query_tree.specs.declared.query.FromTree.{FromTree}
use Rattle.query_typing.specs.declared.column.Found.{Found}
use Rattle.query_typing.specs.declared.quality.LeafSite.{LeafSite}
use Rattle.query_typing.specs.declared.quality.Wanted.{Wanted}
use Rattle.query_typing.specs.declared.quality.Wanted.TheVariants.{Level, Distance, Either}
use Rattle.query_typing.specs.Columns.{column_of, place_eq, place_found}
use Rattle.query_typing.specs.Conditions.{column_obligations, leaf_obligations, quality_obligations}
use Rattle.query_typing.specs.Leaves.{has_wanted, is_wanted, leaf_site, leaf_sites, place_if, stands_on, wanted_count}
use Rattle.query_typing.specs.Obligations.{AllMet, Obligation, owes}
use Rattle.query_typing.specs.Preferences.{base_obligations, bases_obligations}
use Rattle.query_typing.specs.Resolution.{AreLeavesOf, IsLeafOf, from_table, is_quality_leaf, kind_has, quality_of, resolved_quality}
use Rattle.query_typing.proofs.MadeLaws.{first_met, second_met}
use Rattle.query_typing.proofs.ValidKinds.{distance_is, level_is}
use Rattle.query_typing.proofs.ValidLeaves.{base_site, first_base, other_bases}
use Rattle.query_typing.proofs.ValidSites.{known}

abbrev Met : Obligation → Type 0
Met o = o.met ≡ true

-- a kind that has the quality has a level or a distance
has_some : (wanted : Wanted) (k : Kind) → kind_has wanted k ≡ true → IsTrue (has_level k || has_distance k)
has_some Level k has = or_left (has_level k) (has_distance k) has
has_some Distance k has = or_right (has_level k) (has_distance k) has
has_some Either k has = has

-- the quality is that of the leaf, which has it
abbrev IsFrom : Wanted → Quality → Leaf → Type 0
IsFrom wanted quality leaf = IsQualityOf quality leaf × (kind_has wanted leaf.base ≡ true)

later : (P : Leaf → Type 0) (leaf : Leaf) (leaves : List Leaf) → Any P leaves → Any P (leaf ∷ leaves)
later P leaf leaves any = (suc any.0, any.1, omega (arith, any.2), any.3, any.4)

first : (P : Leaf → Type 0) (leaf : Leaf) (leaves : List Leaf) → P leaf → Any P (leaf ∷ leaves)
first P leaf leaves is = (0, leaf, omega arith, refl, is)

module _ (tables : Tables) (from : List FromTree) (wanted : Wanted) (place : ColumnPlace) where
  wanted_is : (number : ℕ) (base : BaseTree) (leaf : Leaf) → IsLeafOf tables from number base leaf → has_wanted wanted (leaf_site tables from base) ≡ kind_has wanted leaf.base
  wanted_is number base leaf of = by_wanted wanted
    where
      by_wanted : (w : Wanted) → has_wanted w (leaf_site tables from base) ≡ kind_has w leaf.base
      by_wanted Level = sym (level_is base.form leaf.base of.base)
      by_wanted Distance = sym (distance_is base.form leaf.base of.base)
      by_wanted Either = λ i. sym (level_is base.form leaf.base of.base) i || sym (distance_is base.form leaf.base of.base) i

  -- the site of a base preference is wanted where its leaf is
  same_test : (number : ℕ) (base : BaseTree) (leaf : Leaf) → AllMet (base_obligations tables from base) → IsLeafOf tables from number base leaf → is_wanted wanted place (leaf_site tables from base) ≡ is_quality_leaf wanted place leaf
  same_test number base leaf all of =
      let at = base_site tables from base all in
      let sited : stands_on place (place_if (column_of tables from base.column)) ≡ place_eq leaf.place place =
      ap (λ (found : Found). stands_on place (place_if found)) at.1 ∙ ap (λ (p : ColumnPlace). place_eq p place) (sym (of.place ∙ ap place_found at.1))
      in
      let has = wanted_is number base leaf of in
      λ i. sited i && has i

  is_of : (number count : ℕ) (bases : List BaseTree) (leaves : List Leaf) → AllMet (bases_obligations tables from count bases) → AreLeavesOf tables from number bases leaves
      → (wanted_count wanted place (leaf_sites tables from bases) ≡ 0 → ⊥) → Any (IsFrom wanted (quality_of wanted place leaves)) leaves
  is_of number count [] [] all are some = absurd (some refl)
  is_of number count [] (leaf ∷ leaves) all are some = absurd are
  is_of number count (base ∷ bases) [] all are some = absurd are
  is_of number count (base ∷ bases) (leaf ∷ leaves) all are some =
      let same = same_test number base leaf (first_base tables from count base bases all) are.0 in
      let own : Quality = record { leaf = leaf.number; place = leaf.place; base = leaf.base } in
      ⊎_elim
      (λ yes.
      let is = cond-true (is_quality_leaf wanted place leaf) own (quality_of wanted place leaves) yes in
      let both = and_parts (place_eq leaf.place place) (kind_has wanted leaf.base) yes in
      first (IsFrom wanted (quality_of wanted place (leaf ∷ leaves))) leaf leaves
      (subst (λ (q : Quality). IsFrom wanted q leaf) (sym is) (record { number = refl; place = refl; base = refl }, both.1)))
      (λ nope.
      let is = cond-false (is_quality_leaf wanted place leaf) own (quality_of wanted place leaves) nope in
      let none : cond (is_wanted wanted place (leaf_site tables from base)) 1 0 ≡ 0 = ap (λ b. cond b 1 0) (same ∙ nope) in
      let step = sum_by-cons (λ (site : LeafSite). cond (is_wanted wanted place site) 1 0) (leaf_site tables from base) (leaf_sites tables from bases) in
      let rest = is_of (number + 1) (count + 1) bases leaves (other_bases tables from count base bases all) are.1 (λ zero_left. some (step ∙ (λ i. none i + zero_left i))) in
      subst (λ (q : Quality). Any (IsFrom wanted q) (leaf ∷ leaves)) (sym is) (later (IsFrom wanted (quality_of wanted place leaves)) leaf leaves rest))
      (cases_Bool (is_quality_leaf wanted place leaf))

module _ (tables : Tables) (from : List FromTree) (bases : List BaseTree) (leaves : List Leaf) (are : AreLeavesOf tables from 1 bases leaves) (all : AllMet (bases_obligations tables from 0 bases)) (good : All (IsLeaf (map (from_table tables) from)) leaves) where
  some_leaf : (wanted : Wanted) (name : NameTree) → AllMet (quality_obligations tables from (leaf_sites tables from bases) wanted name) → Any (IsFrom wanted (resolved_quality tables from leaves wanted name)) leaves
  some_leaf wanted name owed =
      let sites = leaf_sites tables from bases in
      let at = known tables from name (first_met (column_obligations tables from name) (leaf_obligations wanted (column_of tables from name) name.at sites) owed) in
      let site = at.0 in
      let rest = subst (λ (found : Found). AllMet (leaf_obligations wanted found name.at sites)) at.1 (second_met (column_obligations tables from name) (leaf_obligations wanted (column_of tables from name) name.at sites) owed) in
      let none = owes 312 name.at (not (eqb (wanted_count wanted site.place sites) 0)) in
      let two = owes 313 name.at (nat_lt (wanted_count wanted site.place sites) 2) in
      let some = eqb-false (wanted_count wanted site.place sites) 0 (not-true (eqb (wanted_count wanted site.place sites) 0) (All-head Met none (two ∷ []) rest)) in
      subst (λ (place : ColumnPlace). Any (IsFrom wanted (quality_of wanted place leaves)) leaves) (sym (ap place_found at.1))
      (is_of tables from wanted site.place 1 0 bases leaves all are some)

  pub of_leaf : (wanted : Wanted) (name : NameTree) → AllMet (quality_obligations tables from (leaf_sites tables from bases) wanted name) → Any (IsQualityOf (resolved_quality tables from leaves wanted name)) leaves
  of_leaf wanted name owed = let any = some_leaf wanted name owed in (any.0, any.1, any.2, any.3, any.4.0)

  -- and it can be asked of rows
  pub quality_is : (wanted : Wanted) (name : NameTree) → AllMet (quality_obligations tables from (leaf_sites tables from bases) wanted name) → IsQuality (map (from_table tables) from) (resolved_quality tables from leaves wanted name)
  quality_is wanted name owed =
      let any = some_leaf wanted name owed in
      let quality = resolved_quality tables from leaves wanted name in
      let of = any.4.0 in
      let leaf = any.1 in
      let ranked = (All-contains (IsLeaf (map (from_table tables) from)) leaves leaf good (any.0, any.2, any.3)).ranked in
      record {
        ranked = subst (λ (place : ColumnPlace). IsRankedPlace (map (from_table tables) from) place quality.base) (sym of.place)
            (subst (λ (k : Kind). IsRankedPlace (map (from_table tables) from) leaf.place k) (sym of.base) ranked);
        has_quality = subst (λ (k : Kind). IsTrue (has_level k || has_distance k)) (sym of.base) (has_some wanted leaf.base any.4.1);
      }
