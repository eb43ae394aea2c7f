-- The parts of a valid plan: what their nodes ask of the rows that they give can be asked.
use Rattle.std.proofs.Common.{◌≡◌, ℕ, zero, suc, ◌+◌, ◌≤◌, Option, Some, None, List, [], ◌∷◌, ◌++◌, length, get_or, map, All, Contains, refl, sym, ap, ◌∙◌, inl, inr, ⊎_elim, subst, arith, length-append}
use Rattle.std.specs.List.{flat_map, range_with_len, slice_get}
use Rattle.std.specs.Prelude.{IfSome}
use Rattle.std.proofs.lemmas.List.{get_or-map, length-map}
use Rattle.std.proofs.lemmas.List.Elements.{All-contains, All-head, All-weaker, Contains-get_or}
use Rattle.std.proofs.lemmas.List.FromFn.{length-range_with_len}
use Rattle.prefsql_tables.specs.Table.{rows_of}
use Rattle.prefsql_tables.specs.declared.place.ColumnPlace.{ColumnPlace}
use Rattle.prefsql_tables.specs.declared.place.Combo.{Combo}
use Rattle.order_laws.proofs.Members.{Among, Contains_from_among, among_back, among_either, among_flat_mapped, among_from_Contains, among_front, among_range}
use Rattle.pref_terms.specs.declared.term.Leaf.{Leaf}
use Rattle.pref_terms.specs.declared.term.Term.{Term}
use Rattle.pref_terms.specs.Fits.{TermFits}
use Rattle.pref_terms.specs.Parts.{leaves_left}
use Rattle.pref_terms.specs.TermLaws.{All-first, All-second}
use Rattle.pref_terms.specs.Terms.{leaves_of}
use Rattle.conditions.specs.Fits.{CondFits}
use Rattle.conditions.specs.Meaning.{scalars_of}
use Rattle.conditions.specs.Places.{read_by, scalar_places}
use Rattle.conditions.specs.declared.condition.Cond.{Cond}
use Rattle.conditions.specs.declared.condition.Scalar.{Scalar}
use Rattle.query_meaning.specs.Answers.{row_counts}
use Rattle.query_meaning.specs.Asking.{IsAsked}
use Rattle.query_meaning.specs.BlockFits.{IsLeaf, IsScalar}
use Rattle.query_meaning.specs.Choices.{IsChoice, IsChoiceFrom}
use Rattle.query_meaning.specs.Valid.{block_leaves}
use Rattle.query_meaning.specs.declared.asking.Asked.{Asked}
use Rattle.query_meaning.specs.declared.block.Block.{Block}
use Rattle.query_meaning.specs.declared.block.FromTable.{FromTable}
use Rattle.query_meaning.proofs.ChoiceLemmas.{IsLeafWithin, IsPlaceWithin, IsScalarWithin, IsWithin, choice_from_range, cond_fits_from, length-choice, term_fits_from}
use Rattle.plan_algebra.specs.Conjuncts.{cond_of, cond_places}
use Rattle.plan_algebra.specs.Valid.{EachOnce, IsPlaceOf, Nodes, RanksAt, StandsAt, nodes_of}
use Rattle.plan_algebra.specs.declared.plan.Conjunct.{Conjunct}
use Rattle.plan_algebra.specs.declared.plan.Conjunct.TheVariants as conjunct
use Rattle.plan_algebra.specs.declared.plan.Plan.{Plan, Filter, Join, Best}
use Rattle.native_plan.specs.Asking.{CanAsk}
use Rattle.native_plan.specs.Finding.{IsPartOf, StandsOver}
use Rattle.native_plan.proofs.Nodes.{nodes-Best, nodes-Filter, nodes-Join}
use Rattle.native_plan.proofs.Rows.{range_split}

-- ---- the parts below a node

all_unmapped : {X Y : Type 0} (P : Y → Type 0) (f : X → Y) (xs : List X) → All P (map f xs) → All (λ x. P (f x)) xs
all_unmapped P f xs all k d small = subst P (get_or-map f xs k d (f d) small) (all k (f d) (omega (arith, small, length-map xs f)))

module _ (block : Block) where
  pub below_filter : (cs : List Conjunct) (p : Plan) → IsPartOf block (Filter cs p) → IsPartOf block p
  below_filter cs p part =
      record {
        first = part.first;
        count = part.count;
        tables = sym (ap (λ (n : Nodes). n.tables) (nodes-Filter cs p)) ∙ part.tables;
        within = part.within;
        conjuncts = All-second (StandsAt block) (map (λ c. record { conjunct = c; tables = (nodes_of p).tables }) cs) (nodes_of p).conjuncts
            (subst (λ (n : Nodes). All (StandsAt block) n.conjuncts) (nodes-Filter cs p) part.conjuncts);
        bests = subst (λ (n : Nodes). All (RanksAt block) n.bests) (nodes-Filter cs p) part.bests;
      }

  pub filter_stands : (cs : List Conjunct) (p : Plan) → IsPartOf block (Filter cs p) → All (StandsOver block p) cs
  filter_stands cs p part =
      all_unmapped (StandsAt block) (λ c. record { conjunct = c; tables = (nodes_of p).tables }) cs
      (All-first (StandsAt block) (map (λ c. record { conjunct = c; tables = (nodes_of p).tables }) cs) (nodes_of p).conjuncts
      (subst (λ (n : Nodes). All (StandsAt block) n.conjuncts) (nodes-Filter cs p) part.conjuncts))

  pub below_best : (t : Term) (groups : List ColumnPlace) (p : Plan) → IsPartOf block (Best t groups p) → IsPartOf block p
  below_best t groups p part = record {
    first = part.first;
    count = part.count;
    tables = sym (ap (λ (n : Nodes). n.tables) (nodes-Best t groups p)) ∙ part.tables;
    within = part.within;
    conjuncts = subst (λ (n : Nodes). All (StandsAt block) n.conjuncts) (nodes-Best t groups p) part.conjuncts;
    bests = All-second (RanksAt block) (record { term = t; groups = groups; tables = (nodes_of p).tables } ∷ []) (nodes_of p).bests
        (subst (λ (n : Nodes). All (RanksAt block) n.bests) (nodes-Best t groups p) part.bests);
  }

  pub best_ranks : (t : Term) (groups : List ColumnPlace) (p : Plan) → IsPartOf block (Best t groups p) → RanksAt block (record { term = t; groups = groups; tables = (nodes_of p).tables })
  best_ranks t groups p part =
      All-head (RanksAt block) (record { term = t; groups = groups; tables = (nodes_of p).tables }) (nodes_of p).bests
      (subst (λ (n : Nodes). All (RanksAt block) n.bests) (nodes-Best t groups p) part.bests)

  module _ (left right : Plan) (part : IsPartOf block (Join left right)) where
    abbrev lefts : List ℕ
    lefts = (nodes_of left).tables

    abbrev rights : List ℕ
    rights = (nodes_of right).tables

    parts : (lefts ≡ range_with_len part.first (length lefts)) × (rights ≡ range_with_len (part.first + length lefts) (length rights)) × (length lefts + length rights ≡ part.count)
    parts = range_split lefts rights part.first part.count (sym (ap (λ (n : Nodes). n.tables) (nodes-Join left right)) ∙ part.tables)

    pub left_part : IsPartOf block left
    left_part = record {
      first = part.first;
      count = length lefts;
      tables = parts.0;
      within = (let all = part.within in omega (arith, all, parts.2));
      conjuncts = All-first (StandsAt block) (nodes_of left).conjuncts (nodes_of right).conjuncts (subst (λ (n : Nodes). All (StandsAt block) n.conjuncts) (nodes-Join left right) part.conjuncts);
      bests = All-first (RanksAt block) (nodes_of left).bests (nodes_of right).bests (subst (λ (n : Nodes). All (RanksAt block) n.bests) (nodes-Join left right) part.bests);
    }

    pub right_part : IsPartOf block right
    right_part = record {
      first = part.first + length lefts;
      count = length rights;
      tables = parts.1;
      within = (let all = part.within in omega (arith, all, parts.2));
      conjuncts = All-second (StandsAt block) (nodes_of left).conjuncts (nodes_of right).conjuncts (subst (λ (n : Nodes). All (StandsAt block) n.conjuncts) (nodes-Join left right) part.conjuncts);
      bests = All-second (RanksAt block) (nodes_of left).bests (nodes_of right).bests (subst (λ (n : Nodes). All (RanksAt block) n.bests) (nodes-Join left right) part.bests);
    }

    -- the right part begins behind the tables of the left one
    pub right_begins : right_part.first ≡ left_part.first + length lefts
    unfolding left_part right_part
    right_begins = refl

-- ---- what can be asked

slice_among : {X : Type 0} (xs : List X) (i : ℕ) (x : X) → slice_get xs i ≡ Some x → Among xs x
slice_among [] i x e = absurd (cc)
slice_among (y ∷ ys) zero x e = inl (cc)
slice_among (y ∷ ys) (suc i) x e = inr (slice_among ys i x e)

-- of the lists of all items, that of one
all_of_one : {X Y : Type 0} (P : Y → Type 0) (f : X → List Y) (xs : List X) (x : X) → All P (flat_map f xs) → Among xs x → All P (f x)
all_of_one P f xs x all a k d small =
    let y = get_or (f x) k d in
    let here = among_from_Contains (f x) y (Contains-get_or (f x) k d small) in
    All-contains P (flat_map f xs) y all (Contains_from_among (flat_map f xs) y (among_flat_mapped f xs x y a here))

leaf_is : (from : List FromTable) (o : Option Term) (leaf : Leaf) → IfSome o (λ t. All (IsLeaf from) (leaves_of t)) → Contains (leaves_left o) leaf → IsLeaf from leaf
leaf_is from None leaf all has = absurd (omega (arith, has.1))
leaf_is from (Some t) leaf all has = All-contains (IsLeaf from) (leaves_of t) leaf all has

module _ (asked : Asked) (is : IsAsked asked) where
  abbrev block : Block
  block = asked.block.now

  cond_scalars : (c : Conjunct) (cond : Cond) → cond_of block c ≡ Some cond → All (IsScalar block.from) (scalars_of cond)
  cond_scalars (conjunct.Filter i) cond e = all_of_one (IsScalar block.from) scalars_of block.filter cond is.places.filter (slice_among block.filter i cond e)
  cond_scalars (conjunct.Only i) cond e = all_of_one (IsScalar block.from) scalars_of block.only cond is.places.only (slice_among block.only i cond e)

  -- the rows of a part of a plan
  module _ (first count : ℕ) (ts : List ℕ) (ranged : ts ≡ range_with_len first count) (within : first + count ≤ length block.from)
      (combo : Combo) (chosen : IsChoice (map (λ t. get_or (row_counts asked.tables.now block.from) t 0) ts) combo.rows) where
    abbrev counts : List ℕ
    counts = row_counts asked.tables.now block.from

    in_range : IsChoice (map (λ t. get_or counts t 0) (range_with_len first count)) combo.rows
    in_range = subst (λ (us : List ℕ). IsChoice (map (λ t. get_or counts t 0) us) combo.rows) ranged chosen

    long : length combo.rows ≡ count
    long = length-choice (map (λ t. get_or counts t 0) (range_with_len first count)) combo.rows in_range ∙ length-map (range_with_len first count) (λ t. get_or counts t 0) ∙ length-range_with_len first count

    from_first : IsChoiceFrom counts first combo.rows
    from_first = choice_from_range counts combo.rows first count (omega (arith, within, length-map block.from (λ (table : FromTable). length (rows_of asked.tables.now table.index)))) in_range

    there : (place : ColumnPlace) → IsPlaceOf block ts place → IsWithin asked.tables.now block.from is.fits first combo.rows from_first place
    there place of =
        let range = among_range first count place.table (subst (λ (us : List ℕ). Among us place.table) ranged (among_from_Contains ts place.table of.table)) in
        record { not_before = range.0; in_combo = (let high = range.1 in omega (arith, high, long)) }

    scalar_there : (cond : Cond) → All (IsScalar block.from) (scalars_of cond) → All (IsPlaceOf block ts) (read_by cond) → (s : Scalar) → Among (scalars_of cond) s → IsScalarWithin asked.tables.now block.from is.fits first combo.rows from_first s
    scalar_there cond scalars places s a = record {
      is = All-contains (IsScalar block.from) (scalars_of cond) s scalars (Contains_from_among (scalars_of cond) s a);
      within = All-weaker (IsPlaceOf block ts) (IsWithin asked.tables.now block.from is.fits first combo.rows from_first) there (scalar_places s)
          (all_of_one (IsPlaceOf block ts) scalar_places (scalars_of cond) s places a);
    }

    each_scalar : (cond : Cond) → ((s : Scalar) → Among (scalars_of cond) s → IsScalarWithin asked.tables.now block.from is.fits first combo.rows from_first s) → All (IsScalarWithin asked.tables.now block.from is.fits first combo.rows from_first) (scalars_of cond)
    each_scalar cond each k d small = each (get_or (scalars_of cond) k d) (among_from_Contains (scalars_of cond) (get_or (scalars_of cond) k d) (Contains-get_or (scalars_of cond) k d small))

    cond_asked : (c : Conjunct) (o : Option Cond) → cond_of block c ≡ o → All (IsPlaceOf block ts) (cond_places o) → IfSome o (CondFits asked.tables.now asked.from.now first combo.rows)
    cond_asked c None e places = tt
    cond_asked c (Some cond) e places =
        subst (λ (indexes : List ℕ). CondFits asked.tables.now indexes first combo.rows cond) (sym is.from)
        (cond_fits_from asked.tables.now block.from is.fits first combo.rows from_first cond (each_scalar cond (scalar_there cond (cond_scalars c cond e) places)))

    pub can_ask : (c : Conjunct) → StandsAt block (record { conjunct = c; tables = ts }) → CanAsk asked first combo c
    can_ask c stands = cond_asked c (cond_of block c) refl stands.places

    leaf_there : (t : Term) (groups : List ColumnPlace) → RanksAt block (record { term = t; groups = groups; tables = ts }) → (leaf : Leaf) → Contains (leaves_of t) leaf → IsLeafWithin asked.tables.now block.from is.fits first combo.rows from_first leaf
    leaf_there t groups ranks leaf has = record {
      is = leaf_is block.from block.term leaf is.places.leaves (All-contains (Contains (block_leaves block)) (leaves_of t) leaf ranks.leaves has);
      within = there leaf.place (All-contains (λ (l : Leaf). IsPlaceOf block ts l.place) (leaves_of t) leaf ranks.leaf_places has);
    }

    pub judged : (t : Term) (groups : List ColumnPlace) → RanksAt block (record { term = t; groups = groups; tables = ts }) → TermFits asked.tables.now asked.from.now first combo.rows t groups
    judged t groups ranks =
        subst (λ (indexes : List ℕ). TermFits asked.tables.now indexes first combo.rows t groups) (sym is.from)
        (term_fits_from asked.tables.now block.from is.fits first combo.rows from_first t groups
        (λ k d small. leaf_there t groups ranks (get_or (leaves_of t) k d) (Contains-get_or (leaves_of t) k d small))
        (All-weaker (IsPlaceOf block ts) (IsPlaceWithin asked.tables.now block.from is.fits first combo.rows from_first) (λ place of. record { is = of.there; within = there place of }) groups ranks.groups))

-- ---- how many leaves a Best has

split_at : {X : Type 0} (ys : List X) (x : X) → Among ys x → (front : List X) × (back : List X) × (ys ≡ front ++ x ∷ back)
split_at [] x a = absurd a
split_at (y ∷ ys) x (inl e) = ([], ys, ap (λ z. z ∷ ys) e)
split_at (y ∷ ys) x (inr a) = let more = split_at ys x a in (y ∷ more.0, more.1, ap (λ zs. y ∷ zs) more.2)

-- items that stand once, each one of some others, are no more than those
once_few : (xs ys : List Leaf) → EachOnce xs → ((x : Leaf) → Among xs x → Among ys x) → length xs ≤ length ys
once_few [] ys once inside = omega arith
once_few (x ∷ xs) ys once inside =
    let at = split_at ys x (inside x (inl refl)) in
    let front = at.0 in
    let back = at.1 in
    let rest : length xs ≤ length (front ++ back) =
    once_few xs (front ++ back) once.1 (λ z a.
    ⊎_elim (λ b. among_front front back z b)
    (λ b. ⊎_elim (λ e. absurd (once.0 (Contains_from_among xs x (subst (λ w. Among xs w) (sym e) a)))) (λ d. among_back front back z d) b)
    (among_either front (x ∷ back) z (subst (λ zs. Among zs z) at.2 (inside z (inr a)))))
    in
    omega (arith, rest, ap length at.2, length-append front (x ∷ back), length-append front back)

pub few_leaves : (block : Block) (t : Term) (groups : List ColumnPlace) (ts : List ℕ) → RanksAt block (record { term = t; groups = groups; tables = ts }) → length (block_leaves block) ≤ 8 → length (leaves_of t) ≤ 8
few_leaves block t groups ts ranks few =
    let fewer = once_few (leaves_of t) (block_leaves block) ranks.once (λ leaf a. among_from_Contains (block_leaves block) leaf (All-contains (Contains (block_leaves block)) (leaves_of t) leaf ranks.leaves (Contains_from_among (leaves_of t) leaf a))) in
    omega (arith, fewer, few)
