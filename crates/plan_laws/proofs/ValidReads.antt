-- What a valid block says of its conditions, its columns and its term.
use Rattle.std.proofs.Common.{◌≡◌, ℕ, ◌+◌, ◌<◌, Bool, ◌&&◌, Option, Some, None, List, [], ◌∷◌, ◌++◌, length, get_or, map, All, slice_get, append_assoc, length-append, refl, sym, ap, ◌∙◌, inl, inr, subst, arith}
use Rattle.std.specs.Prelude.{Contains, IfSome}
use Rattle.std.specs.List.{flat_map, list_all, range_with_len}
use Rattle.std.proofs.Math.Seq.{get_or-append_seam}
use Rattle.std.proofs.lemmas.List.Elements.{All-contains}
use Rattle.std.proofs.lemmas.Option.{get_or_from_slice_get, slice_get-get_or, slice_get_within}
use Rattle.prefsql_values.specs.Truth.{is_true}
use Rattle.prefsql_tables.specs.Sight.{Sight}
use Rattle.prefsql_tables.specs.declared.place.ColumnPlace.{ColumnPlace}
use Rattle.conditions.specs.Places.{scalar_places}
use Rattle.order_laws.proofs.Members.{Among, Contains_from_among, among_back, among_flat_map, among_flat_mapped, among_from_Contains}
use Rattle.plan_algebra.specs.Conjuncts.{cond_of, cond_places, onlys, places_of, wheres}
use Rattle.plan_algebra.specs.Meaning.{all_hold, is_true_at}
use Rattle.plan_laws.proofs.Prefilter.{ReadsPlaces}
use Rattle.plan_laws.proofs.Sinks.{ScalarTold}
use Rattle.query_meaning.specs.Valid.{IsValidBlock, block_scalars}
use Rattle.pref_terms.specs.declared.term.Leaf.{Leaf}
use Rattle.pref_terms.specs.declared.term.Term.{Term}
use Rattle.pref_terms.specs.Fits.{IsTrivialIfExplicit}
use Rattle.pref_terms.specs.Parts.{leaves_left}
use Rattle.pref_terms.specs.Terms.{leaves_of}
use Rattle.query_meaning.proofs.ValidLaws.{numbers_tell_leaves}
use Rattle.query_meaning.specs.declared.block.Output.{Output}
use Rattle.conditions.specs.declared.condition.Cond.{Cond}
use Rattle.conditions.specs.declared.condition.Scalar.{Scalar}
use Rattle.conditions.specs.declared.condition.Scalar.TheVariants as scalar
use Rattle.conditions.specs.Meaning.{scalars_of, truth}
use Rattle.query_meaning.specs.Answers.{passes}
use Rattle.query_meaning.specs.BlockFits.{IsLeaf, IsPlace, IsScalar}
use Rattle.query_meaning.specs.declared.block.Block.{Block}
use Rattle.query_meaning.specs.declared.block.FromTable.{FromTable}
use Rattle.plan_algebra.specs.declared.plan.Conjunct.{Conjunct}
use Rattle.plan_algebra.specs.declared.plan.Conjunct.TheVariants as conjunct

pub all_among : {X : Type 0} (P : X → Type 0) (xs : List X) → All P xs → (x : X) → Among xs x → P x
all_among P xs all x a = All-contains P xs x all (Contains_from_among xs x a)

-- ---- all conditions by their positions are all conditions

module _ (sight : Sight) where
  abbrev test : Cond → Bool
  test cond = is_true (truth sight cond)

  behind : (at : ℕ → Conjunct) (find : Conjunct → Option Cond) (all : List Cond) → ((i : ℕ) → find (at i) ≡ slice_get all i)
      → (front conds : List Cond) → front ++ conds ≡ all → list_all (λ c. is_true_at sight (find c)) (map at (range_with_len (length front) (length conds))) ≡ list_all test conds
  behind at find all found front [] whole = refl
  behind at find all found front (cond ∷ conds) whole =
      let joins : (front ++ cond ∷ []) ++ conds ≡ all = append_assoc front (cond ∷ []) conds ∙ whole in
      let longer : length (front ++ cond ∷ []) ≡ length front + 1 = omega (arith, length-append front (cond ∷ [])) in
      let within : length front < length all = omega (arith, ap length whole, length-append front (cond ∷ conds)) in
      let here : find (at (length front)) ≡ Some cond =
      found (length front) ∙ slice_get-get_or all (length front) cond within ∙ ap Some (ap (λ xs. get_or xs (length front) cond) (sym whole) ∙ get_or-append_seam front cond conds cond) in
      ap (λ o. is_true_at sight o && list_all (λ c. is_true_at sight (find c)) (map at (range_with_len (length front + 1) (length conds)))) here
      ∙ ap (λ b. test cond && b) (ap (λ n. list_all (λ c. is_true_at sight (find c)) (map at (range_with_len n (length conds)))) (sym longer) ∙ behind at find all found (front ++ cond ∷ []) conds joins)

  pub wheres_pass : (block : Block) → all_hold block (wheres block) sight ≡ passes block.filter sight
  wheres_pass block = behind conjunct.Filter (cond_of block) block.filter (λ i. refl) [] block.filter refl

  pub onlys_pass : (block : Block) → all_hold block (onlys block) sight ≡ passes block.only sight
  onlys_pass block = behind conjunct.Only (cond_of block) block.only (λ i. refl) [] block.only refl

-- ---- what they read is there

scalar_read : (from : List FromTable) (s : Scalar) → IsScalar from s → (p : ColumnPlace) → Among (scalar_places s) p → IsPlace from p
scalar_read from (scalar.Column place) is p (inl e) = subst (IsPlace from) e is
scalar_read from (scalar.Column place) is p (inr a) = absurd a
scalar_read from (scalar.Literal value) is p a = absurd a
scalar_read from (scalar.Quality quality) is p (inl e) = subst (IsPlace from) e is.ranked.there
scalar_read from (scalar.Quality quality) is p (inr a) = absurd a

slice_among : {X : Type 0} (xs : List X) (i : ℕ) (x : X) → slice_get xs i ≡ Some x → Among xs x
slice_among xs i x is = among_from_Contains xs x (i, slice_get_within xs i x is, get_or_from_slice_get xs i x x is)

module _ (from : List FromTable) (conds : List Cond) (all : All (IsScalar from) (flat_map scalars_of conds)) where
  cond_read : (c : Option Cond) → ((cond : Cond) → c ≡ Some cond → Among conds cond) → (p : ColumnPlace) → Among (cond_places c) p → IsPlace from p
  cond_read None within p a = absurd a
  cond_read (Some cond) within p a =
      let found = among_flat_map scalar_places (scalars_of cond) p a in
      scalar_read from found.0 (all_among (IsScalar from) (flat_map scalars_of conds) all found.0 (among_flat_mapped scalars_of conds cond found.0 (within cond refl) found.1)) p found.2

module _ (block : Block) (valid : IsValidBlock block) where
  pub condition_read : (d : Conjunct) (p : ColumnPlace) → Among (places_of block d) p → IsPlace block.from p
  condition_read (conjunct.Filter i) p a = cond_read block.from block.filter valid.places.filter (slice_get block.filter i) (λ cond found. slice_among block.filter i cond found) p a
  condition_read (conjunct.Only i) p a = cond_read block.from block.only valid.places.only (slice_get block.only i) (λ cond found. slice_among block.only i cond found) p a

  pub reads_places : ReadsPlaces block
  reads_places = record {
    some = (let some = valid.some_from in omega (arith, some));
    conditions = λ d there p a. condition_read d p a;
    groups = λ p a. all_among (IsPlace block.from) block.groups valid.places.groups p a;
  }

  module _ (term : Term) (term_is : block.term ≡ Some term) where
    term_leaves : All (IsLeaf block.from) (leaves_of term)
    term_leaves = subst (λ t. IfSome t (λ u. All (IsLeaf block.from) (leaves_of u))) term_is valid.places.leaves

    pub leaf_trivial : (leaf : Leaf) → Among (leaves_of term) leaf → IsTrivialIfExplicit leaf
    leaf_trivial leaf a = (all_among (IsLeaf block.from) (leaves_of term) term_leaves leaf a).trivial

    pub term_numbered : map (λ (leaf : Leaf). leaf.number) (leaves_of term) ≡ range_with_len 1 (length (leaves_of term))
    term_numbered = subst (λ (t : Option Term). map (λ (leaf : Leaf). leaf.number) (leaves_left t) ≡ range_with_len 1 (length (leaves_left t))) term_is valid.numbered

    scalar_told : (i : ℕ) (c : Cond) → slice_get block.only i ≡ Some c → (s : Scalar) → Among (scalars_of c) s → ScalarTold term s
    scalar_told i c found (scalar.Column place) a = tt
    scalar_told i c found (scalar.Literal value) a = tt
    scalar_told i c found (scalar.Quality quality) a = record {
      told = λ leaf there number.
          numbers_tell_leaves block quality leaf valid
          (Contains_from_among (block_scalars block) (scalar.Quality quality)
          (among_back (map (λ (output : Output). output.scalar) block.output ++ flat_map scalars_of block.filter) (flat_map scalars_of block.only) (scalar.Quality quality)
          (among_flat_mapped scalars_of block.only c (scalar.Quality quality) (slice_among block.only i c found) a)))
          (subst (λ (t : Option Term). Contains (leaves_left t) leaf) (sym term_is) (Contains_from_among (leaves_of term) leaf there))
          number;
    }

    -- the qualities of a condition of BUT ONLY are those of the leaves with their numbers
    pub only_told : (i : ℕ) (c : Cond) → slice_get block.only i ≡ Some c → (s : Scalar) → Among (scalars_of c) s → ScalarTold term s
    only_told = scalar_told
