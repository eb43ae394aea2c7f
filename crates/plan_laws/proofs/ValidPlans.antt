-- The plan of each stage is a valid plan of its block.
use Rattle.std.proofs.Common.{◌≡◌, ℕ, zero, suc, ◌+◌, ◌<◌, ◌≤◌, Bool, true, false, not, nat_eq, cond, if◌then◌else◌, Option, Some, None, List, [], ◌∷◌, ◌++◌, length, map, All, filter, refl, sym, ap, ◌∙◌, inl, inr, ⊎_elim, subst, arith, eqb-true, append_assoc, append-nil}
use Rattle.std.specs.Prelude.{Contains, IfSome}
use Rattle.std.specs.List.{flat_map, range_with_len}
use Rattle.std.proofs.lemmas.Bool.{and_parts, cases_lt}
use Rattle.std.proofs.lemmas.List.{get_or_past, length-map}
use Rattle.std.proofs.lemmas.List.Elements.{All-append, All-cons, All-nil}
use Rattle.prefsql_tables.specs.declared.place.ColumnPlace.{ColumnPlace}
use Rattle.order_laws.proofs.Members.{Among, Contains_from_among, among_either, among_flat_mapped, among_from_Contains, among_front, among_kept, among_map, among_range, range_among}
use Rattle.plan_algebra.proofs.Induction.{fold-Best, fold-Filter, fold-Join, fold-Scan}
use Rattle.plan_algebra.specs.Conjuncts.{onlys, places_of, wheres}
use Rattle.plan_algebra.specs.Valid.{EachOnce, IsConjunct, IsPlaceOf, IsPlanOf, Nodes, RanksAt, StandsAt, nodes_of, nodes_step}
use Rattle.plan_laws.proofs.Homes.{last_most, of_last}
use Rattle.plan_laws.proofs.StageLaws.{all_of}
use Rattle.plan_laws.proofs.ValidReads.{all_among, condition_read, term_numbered}
use Rattle.plan_stages.specs.Placing.{at_join, at_scan, is_at_join, is_at_scan, is_joint, last_table}
use Rattle.plan_stages.specs.Separation.{cascade_of, ranks_all, separated}
use Rattle.plan_stages.specs.Sinking.{is_place_in, is_sunk, lowered, staying, sunk}
use Rattle.plan_stages.specs.Stages.{best_above, best_scan, bests_above, block_plan, cascade_above, filtered, filtered_scan, first_plan, joined, joined_best, joined_low, joins_of, joint_places, only_plan, prefilter_plan, table_groups, table_places, table_term, where_plan}
use Rattle.pref_terms.proofs.CascadeLaws.{parts-Leaf, parts-Pareto, parts-Prior, parts-Dual}
use Rattle.pref_terms.specs.Cascades.{nested, parts_of}
use Rattle.query_meaning.specs.Valid.{IsValidBlock, block_leaves}
use Rattle.std.proofs.lemmas.Grind.{flat_map-append}
use Rattle.pref_terms.specs.declared.term.Leaf.{Leaf}
use Rattle.pref_terms.specs.declared.term.Term.{Term, Pareto, Prior, Dual}
use Rattle.pref_terms.specs.declared.term.Term as term
use Rattle.pref_terms.specs.Equations.{leaves_of-Prior}
use Rattle.pref_terms.specs.Induction.{term_induction}
use Rattle.pref_terms.specs.Parts.{is_on, leaves_left, restricted}
use Rattle.pref_terms.specs.Terms.{leaves_of}
use Rattle.pref_terms.proofs.PartReads.{leaves-restricted}
use Rattle.query_meaning.specs.BlockFits.{IsLeaf, IsPlace, columns_from}
use Rattle.query_meaning.specs.declared.block.Block.{Block}
use Rattle.query_meaning.specs.declared.block.FromTable.{FromTable}
use Rattle.plan_algebra.specs.declared.plan.Conjunct.{Conjunct}
use Rattle.plan_algebra.specs.declared.plan.Conjunct.TheVariants as conjunct
use Rattle.plan_algebra.specs.declared.plan.Plan.{Plan}
use Rattle.plan_algebra.specs.declared.plan.Plan as plan

-- ---- leaves that stand once

once_first : (ls ms : List Leaf) → EachOnce (ls ++ ms) → EachOnce ls
once_first [] ms once = tt
once_first (l ∷ ls) ms once = (λ there. once.0 (Contains_from_among (ls ++ ms) l (among_front ls ms l (among_from_Contains ls l there))), once_first ls ms once.1)

once_second : (ls ms : List Leaf) → EachOnce (ls ++ ms) → EachOnce ms
once_second [] ms once = once
once_second (l ∷ ls) ms once = once_second ls ms once.1

once_if : (b : Bool) (p : Leaf → Bool) (l : Leaf) (ls : List Leaf) → (Contains ls l → ⊥) → EachOnce (filter p ls) → EachOnce (cond b (l ∷ filter p ls) (filter p ls))
once_if true p l ls none once = (λ there. none (Contains_from_among ls l ((among_kept p ls l (among_from_Contains (filter p ls) l there)).0)), once)
once_if false p l ls none once = once

once_filter : (p : Leaf → Bool) (ls : List Leaf) → EachOnce ls → EachOnce (filter p ls)
once_filter p [] once = tt
once_filter p (l ∷ ls) once = once_if (p l) p l ls once.0 (once_filter p ls once.1)

numbers_rise : (leaves : List Leaf) (k n : ℕ) → map (λ (leaf : Leaf). leaf.number) leaves ≡ range_with_len k n → (leaf : Leaf) → Among leaves leaf → k ≤ leaf.number
numbers_rise [] k n is leaf a = absurd a
numbers_rise (l ∷ leaves) k zero is leaf a = absurd (cc)
numbers_rise (l ∷ leaves) k (suc n) is leaf (inl e) = let first : l.number ≡ k = cc in let same : l.number ≡ leaf.number = ap (λ (m : Leaf). m.number) e in omega (arith, first, same)
numbers_rise (l ∷ leaves) k (suc n) is leaf (inr a) =
    let rest : map (λ (m : Leaf). m.number) leaves ≡ range_with_len (k + 1) n = cc in
    let more = numbers_rise leaves (k + 1) n rest leaf a in
    omega (arith, more)

once_numbered : (ls : List Leaf) (k n : ℕ) → map (λ (l : Leaf). l.number) ls ≡ range_with_len k n → EachOnce ls
once_numbered [] k n is = tt
once_numbered (l ∷ ls) k zero is = absurd (cc)
once_numbered (l ∷ ls) k (suc n) is =
    let first : l.number ≡ k = cc in
    let rest : map (λ (m : Leaf). m.number) ls ≡ range_with_len (k + 1) n = cc in (
      λ there. let more = numbers_rise ls (k + 1) n rest l (among_from_Contains ls l there) in omega (arith, first, more),
      once_numbered ls (k + 1) n rest,
    )

once_of : (ts : List Term) → EachOnce (flat_map leaves_of ts) → (t : Term) → Among ts t → EachOnce (leaves_of t)
once_of [] once t a = absurd a
once_of (u ∷ ts) once t (inl e) = subst (λ (v : Term). EachOnce (leaves_of v)) e (once_first (leaves_of u) (flat_map leaves_of ts) once)
once_of (u ∷ ts) once t (inr a) = once_of ts (once_second (leaves_of u) (flat_map leaves_of ts) once) t a

-- ---- the leaves of a cascade

leaves-nested : (first : Term) (parts : List Term) → leaves_of (nested first parts) ≡ leaves_of first ++ flat_map leaves_of parts
leaves-nested first [] = sym (append-nil (leaves_of first))
leaves-nested first (part ∷ parts) =
    leaves-nested (Prior first part) parts
    ∙ ap (λ ls. ls ++ flat_map leaves_of parts) (leaves_of-Prior first part)
    ∙ append_assoc (leaves_of first) (leaves_of part) (flat_map leaves_of parts)

leaves-parts : (t : Term) → flat_map leaves_of (parts_of t) ≡ leaves_of t
leaves-parts = term_induction (λ t. flat_map leaves_of (parts_of t) ≡ leaves_of t)
    (λ l. ap (flat_map leaves_of) (parts-Leaf l) ∙ append-nil (leaves_of (term.Leaf l)))
    (λ p q first second. ap (flat_map leaves_of) (parts-Pareto p q) ∙ append-nil (leaves_of (Pareto p q)))
    (λ p q first second.
    ap (flat_map leaves_of) (parts-Prior p q)
    ∙ flat_map-append leaves_of (parts_of p) (parts_of q)
    ∙ (λ j. first j ++ second j) ∙ sym (leaves_of-Prior p q))
    (λ p inner. ap (flat_map leaves_of) (parts-Dual p) ∙ append-nil (leaves_of (Dual p)))

leaves-if : (b : Bool) (part next : Term) (more : List Term) → flat_map leaves_of (separated (next ∷ more)) ≡ flat_map leaves_of (next ∷ more)
    → flat_map leaves_of (if b then part ∷ separated (next ∷ more) else nested part (next ∷ more) ∷ []) ≡ leaves_of part ++ flat_map leaves_of (next ∷ more)
leaves-if true part next more is = ap (λ ls. leaves_of part ++ ls) is
leaves-if false part next more is = append-nil (leaves_of (nested part (next ∷ more))) ∙ leaves-nested part (next ∷ more)

leaves-separated : (parts : List Term) → flat_map leaves_of (separated parts) ≡ flat_map leaves_of parts
leaves-separated [] = refl
leaves-separated (part ∷ []) = refl
leaves-separated (part ∷ next ∷ more) = leaves-if (ranks_all part) part next more (leaves-separated (next ∷ more))

leaves-cascade : (t : Term) → flat_map leaves_of (cascade_of t) ≡ leaves_of t
leaves-cascade t = leaves-separated (parts_of t) ∙ leaves-parts t

-- ---- the nodes of a plan

pub nodes-Scan : (t : ℕ) → nodes_of (plan.Scan t) ≡ record { tables = t ∷ []; conjuncts = []; bests = [] }
unfolding nodes_of
nodes-Scan t = fold-Scan Nodes nodes_step t

pub nodes-Filter : (cs : List Conjunct) (p : Plan) → nodes_of (plan.Filter cs p) ≡ record { tables = (nodes_of p).tables; conjuncts = map (λ c. record { conjunct = c; tables = (nodes_of p).tables }) cs ++ (nodes_of p).conjuncts; bests = (nodes_of p).bests }
unfolding nodes_of
nodes-Filter cs p = fold-Filter Nodes nodes_step cs p

pub nodes-Join : (l r : Plan) → nodes_of (plan.Join l r) ≡ record { tables = (nodes_of l).tables ++ (nodes_of r).tables; conjuncts = (nodes_of l).conjuncts ++ (nodes_of r).conjuncts; bests = (nodes_of l).bests ++ (nodes_of r).bests }
unfolding nodes_of
nodes-Join l r = fold-Join Nodes nodes_step l r

pub nodes-Best : (t : Term) (groups : List ColumnPlace) (p : Plan) → nodes_of (plan.Best t groups p) ≡ record { tables = (nodes_of p).tables; conjuncts = (nodes_of p).conjuncts; bests = record { term = t; groups = groups; tables = (nodes_of p).tables } ∷ (nodes_of p).bests }
unfolding nodes_of
nodes-Best t groups p = fold-Best Nodes nodes_step t groups p

module _ (block : Block) where
  -- a plan for some of the tables
  pub record IsPart (tables : List ℕ) (p : Plan) : Type 0 where
    pub stands : (nodes_of p).tables ≡ tables
    pub conjuncts : All (StandsAt block) (nodes_of p).conjuncts
    pub bests : All (RanksAt block) (nodes_of p).bests

  of_nodes : (tables : List ℕ) (p : Plan) (nodes : Nodes) → nodes_of p ≡ nodes → nodes.tables ≡ tables → All (StandsAt block) nodes.conjuncts → All (RanksAt block) nodes.bests → IsPart tables p
  of_nodes tables p nodes is stands conjuncts bests = record {
    stands = ap (λ (n : Nodes). n.tables) is ∙ stands;
    conjuncts = subst (λ (n : Nodes). All (StandsAt block) n.conjuncts) (sym is) conjuncts;
    bests = subst (λ (n : Nodes). All (RanksAt block) n.bests) (sym is) bests;
  }

  part-Scan : (t : ℕ) → IsPart (t ∷ []) (plan.Scan t)
  part-Scan t = of_nodes (t ∷ []) (plan.Scan t) _ (nodes-Scan t) refl (All-nil (StandsAt block)) (All-nil (RanksAt block))

  -- a condition of the block over these tables
  pub record Stands (tables : List ℕ) (c : Conjunct) : Type 0 where
    pub conjunct : IsConjunct block c
    pub places : (p : ColumnPlace) → Among (places_of block c) p → IsPlaceOf block tables p

  part-filtered : (tables : List ℕ) (cs : List Conjunct) (p : Plan) → IsPart tables p → ((c : Conjunct) → Among cs c → Stands tables c) → IsPart tables (filtered cs p)
  part-filtered tables [] p part each = part
  part-filtered tables (c ∷ cs) p part each =
      of_nodes tables (plan.Filter (c ∷ cs) p) _ (nodes-Filter (c ∷ cs) p) part.stands
      (All-append (StandsAt block) (map (λ d. record { conjunct = d; tables = (nodes_of p).tables }) (c ∷ cs)) (nodes_of p).conjuncts
      (all_of (StandsAt block) (map (λ d. record { conjunct = d; tables = (nodes_of p).tables }) (c ∷ cs)) (λ at there.
      let found = among_map (λ d. record { conjunct = d; tables = (nodes_of p).tables }) (c ∷ cs) at there in
      let stands = subst (λ (ts : List ℕ). Stands ts found.0) (sym part.stands) (each found.0 found.1) in
      subst (StandsAt block) found.2 (record { conjunct = stands.conjunct; places = all_of (IsPlaceOf block (nodes_of p).tables) (places_of block found.0) stands.places })))
      part.conjuncts)
      part.bests

  part-Join : (ts us : List ℕ) (l r : Plan) → IsPart ts l → IsPart us r → IsPart (ts ++ us) (plan.Join l r)
  part-Join ts us l r first second =
      of_nodes (ts ++ us) (plan.Join l r) _ (nodes-Join l r) (λ j. first.stands j ++ second.stands j)
      (All-append (StandsAt block) (nodes_of l).conjuncts (nodes_of r).conjuncts first.conjuncts second.conjuncts)
      (All-append (RanksAt block) (nodes_of l).bests (nodes_of r).bests first.bests second.bests)

  abbrev RanksOver : List ℕ → Term → List ColumnPlace → Type 0
  RanksOver tables t groups = RanksAt block (record { term = t; groups = groups; tables = tables })

  part-Best : (tables : List ℕ) (t : Term) (groups : List ColumnPlace) (p : Plan) → IsPart tables p → RanksOver tables t groups → IsPart tables (plan.Best t groups p)
  part-Best tables t groups p part ranks =
      of_nodes tables (plan.Best t groups p) _ (nodes-Best t groups p) part.stands part.conjuncts
      (All-cons (RanksAt block) (record { term = t; groups = groups; tables = (nodes_of p).tables }) (nodes_of p).bests
      (subst (λ (ts : List ℕ). RanksAt block (record { term = t; groups = groups; tables = ts })) (sym part.stands) ranks) part.bests)

  part-best_above : (tables : List ℕ) (o : Option Term) (groups : List ColumnPlace) (p : Plan) → IsPart tables p → ((t : Term) → o ≡ Some t → RanksOver tables t groups) → IsPart tables (best_above o groups p)
  part-best_above tables None groups p part ranks = part
  part-best_above tables (Some t) groups p part ranks = part-Best tables t groups p part (ranks t refl)

  part-bests_above : (tables : List ℕ) (ts : List Term) (groups : List ColumnPlace) (p : Plan) → IsPart tables p → ((t : Term) → Among ts t → RanksOver tables t groups) → IsPart tables (bests_above ts groups p)
  part-bests_above tables [] groups p part ranks = part
  part-bests_above tables (t ∷ ts) groups p part ranks = part-bests_above tables ts groups (plan.Best t groups p) (part-Best tables t groups p part (ranks t (inl refl))) (λ u a. ranks u (inr a))

range_more : (a n : ℕ) → range_with_len a (suc n) ≡ range_with_len a n ++ (a + n) ∷ []
range_more a zero = (let e : a + 0 ≡ a = omega arith in ap (λ k. k ∷ []) (sym e))
range_more a (suc n) = ap (λ ks. a ∷ ks) (range_more (a + 1) n ∙ (let e : a + 1 + n ≡ a + suc n = omega arith in ap (λ k. range_with_len (a + 1) n ++ k ∷ []) e))

module _ (block : Block) (is : IsValidBlock block) where
  abbrev upto : ℕ → List ℕ
  upto k = range_with_len 0 k

  abbrev all_tables : List ℕ
  all_tables = upto (length block.from)

  place_of : (tables : List ℕ) (p : ColumnPlace) → IsPlace block.from p → Among tables p.table → IsPlaceOf block tables p
  place_of tables p there a = record { there = there; table = Contains_from_among tables p.table a }

  place_anywhere : (p : ColumnPlace) → IsPlace block.from p → IsPlaceOf block all_tables p
  place_anywhere p there = place_of all_tables p there (range_among 0 (length block.from) p.table (omega arith) (let small = there.table in omega (arith, small)))

  where_is : (c : Conjunct) → Among (wheres block) c → IsConjunct block c
  where_is c a =
      let found = among_map conjunct.Filter (range_with_len 0 (length block.filter)) c a in
      let small = (among_range 0 (length block.filter) found.0 found.1).1 in
      subst (IsConjunct block) found.2 (omega (arith, small))

  only_is : (c : Conjunct) → Among (onlys block) c → IsConjunct block c
  only_is c a =
      let found = among_map conjunct.Only (range_with_len 0 (length block.only)) c a in
      let small = (among_range 0 (length block.only) found.0 found.1).1 in
      subst (IsConjunct block) found.2 (omega (arith, small))

  low_is : (c : Conjunct) → Among (lowered block) c → IsConjunct block c
  low_is c a = ⊎_elim (where_is c) (λ b. only_is c ((among_kept (is_sunk block) (onlys block) c b).0)) (among_either (wheres block) (sunk block) c a)

  stands_anywhere : (c : Conjunct) → IsConjunct block c → Stands block all_tables c
  stands_anywhere c conj = record { conjunct = conj; places = λ p a. place_anywhere p (condition_read block is c p a) }

  -- ---- joined tables

  module _ (cs : List Conjunct) (conj : (c : Conjunct) → Among cs c → IsConjunct block c) where
    scan_stands : (t : ℕ) (c : Conjunct) → Among (at_scan block cs t) c → Stands block (t ∷ []) c
    scan_stands t c a =
        let kept = among_kept (is_at_scan block t) cs c a in
        let both = and_parts (nat_eq (last_table (places_of block c)) t) (not (is_joint (places_of block c))) kept.1 in
        let last : last_table (places_of block c) ≡ t = eqb-true _ _ both.0 in
        record {
          conjunct = conj c kept.0;
          places = λ p reads. place_of (t ∷ []) p (condition_read block is c p reads) (inl (sym (of_last (places_of block c) (not_true (is_joint (places_of block c)) both.1) p reads ∙ last)));
        }
      where
        not_true : (b : Bool) → not b ≡ true → b ≡ false
        not_true true h = sym h
        not_true false h = refl

    join_stands : (k : ℕ) (c : Conjunct) → Among (at_join block cs k) c → Stands block (upto (suc k)) c
    join_stands k c a =
        let kept = among_kept (is_at_join block k) cs c a in
        let both = and_parts (nat_eq (last_table (places_of block c)) k) (is_joint (places_of block c)) kept.1 in
        let last : last_table (places_of block c) ≡ k = eqb-true _ _ both.0 in
        record {
          conjunct = conj c kept.0;
          places = λ p reads. place_of (upto (suc k)) p (condition_read block is c p reads)
              (range_among 0 (suc k) p.table (omega arith) (let most = last_most (places_of block c) p reads in omega (arith, most, last)));
        }

    part-filtered_scan : (t : ℕ) → IsPart block (t ∷ []) (filtered_scan block cs t)
    part-filtered_scan t = part-filtered block (t ∷ []) (at_scan block cs t) (plan.Scan t) (part-Scan block t) (scan_stands t)

    part-joined : (table_plan : ℕ → Plan) → ((t : ℕ) → IsPart block (t ∷ []) (table_plan t)) → (k : ℕ) → IsPart block (upto (suc k)) (joined table_plan (at_join block cs) k)
    part-joined table_plan each zero = each 0
    part-joined table_plan each (suc k) =
        part-filtered block (upto (suc (suc k))) (at_join block cs (suc k)) (plan.Join (joined table_plan (at_join block cs) k) (table_plan (suc k)))
        (subst (λ (ts : List ℕ). IsPart block ts (plan.Join (joined table_plan (at_join block cs) k) (table_plan (suc k))))
        (let e : 0 + suc k ≡ suc k = omega arith in sym (range_more 0 (suc k) ∙ ap (λ t. upto (suc k) ++ t ∷ []) e))
        (part-Join block (upto (suc k)) (suc k ∷ []) (joined table_plan (at_join block cs) k) (table_plan (suc k)) (part-joined table_plan each k) (each (suc k))))
        (join_stands (suc k))

  count : suc (joins_of block) ≡ length block.from
  count = (let some = is.some_from in omega (arith, some))

  part-all : (table_plan : ℕ → Plan) (cs : List Conjunct) → ((c : Conjunct) → Among cs c → IsConjunct block c) → ((t : ℕ) → IsPart block (t ∷ []) (table_plan t)) → IsPart block all_tables (joined table_plan (at_join block cs) (joins_of block))
  part-all table_plan cs conj each = subst (λ n. IsPart block (upto n) (joined table_plan (at_join block cs) (joins_of block))) count (part-joined cs conj table_plan each (joins_of block))

  -- ---- the preference

  in_range : (k : ℕ) → 0 < length (columns_from block.from k) → k < length block.from
  in_range k some =
      ⊎_elim (λ small. small)
      (λ past.
      let none : length (columns_from block.from k) ≡ 0 = ap length (get_or_past (map (λ (t : FromTable). t.schema.columns) block.from) k [] (omega (arith, past, length-map block.from (λ (t : FromTable). t.schema.columns)))) in
      absurd (omega (arith, some, none)))
      (cases_lt k (length block.from))

  table_place : (k : ℕ) (p : ColumnPlace) → Among (table_places block k) p → IsPlaceOf block (k ∷ []) p
  table_place k p a =
      let found = among_map (λ column. record { table = k; column = column }) (range_with_len 0 (length (columns_from block.from k))) p a in
      let small = (among_range 0 (length (columns_from block.from k)) found.0 found.1).1 in
      let within = in_range k (omega (arith, small)) in
      subst (IsPlaceOf block (k ∷ [])) found.2
      (place_of (k ∷ []) (record { table = k; column = found.0 }) (record { table = within; column = omega (arith, small) }) (inl refl))

  module _ (t : Term) (term_is : block.term ≡ Some t) where
    leaf_there : (l : Leaf) → Among (leaves_of t) l → Contains (block_leaves block) l
    leaf_there l a = subst (λ (o : Option Term). Contains (leaves_left o) l) (sym term_is) (Contains_from_among (leaves_of t) l a)

    leaf_place : (l : Leaf) → Among (leaves_of t) l → IsPlace block.from l.place
    leaf_place l a = (all_among (IsLeaf block.from) (leaves_of t) (subst (λ o. IfSome o (λ u. All (IsLeaf block.from) (leaves_of u))) term_is is.places.leaves) l a).ranked.there

    leaves_once : EachOnce (leaves_of t)
    leaves_once = once_numbered (leaves_of t) 1 (length (leaves_of t)) (term_numbered block is t term_is)

    ranks : (tables : List ℕ) (u : Term) (groups : List ColumnPlace) → ((l : Leaf) → Among (leaves_of u) l → Among (leaves_of t) l) → EachOnce (leaves_of u)
        → ((l : Leaf) → Among (leaves_of u) l → IsPlaceOf block tables l.place) → ((p : ColumnPlace) → Among groups p → IsPlaceOf block tables p) → RanksOver block tables u groups
    ranks tables u groups within once places in_groups = record {
      leaves = all_of (Contains (block_leaves block)) (leaves_of u) (λ l a. leaf_there l (within l a));
      once = once;
      leaf_places = all_of (λ (l : Leaf). IsPlaceOf block tables l.place) (leaves_of u) places;
      groups = all_of (IsPlaceOf block tables) groups in_groups;
    }

    group_anywhere : (p : ColumnPlace) → Among block.groups p → IsPlaceOf block all_tables p
    group_anywhere p a = place_anywhere p (all_among (IsPlace block.from) block.groups is.places.groups p a)

    ranks_whole : RanksOver block all_tables t block.groups
    ranks_whole = ranks all_tables t block.groups (λ l a. a) leaves_once (λ l a. place_anywhere l.place (leaf_place l a)) group_anywhere

    ranks_part : (u : Term) → Among (cascade_of t) u → RanksOver block all_tables u block.groups
    ranks_part u a =
        let within : (l : Leaf) → Among (leaves_of u) l → Among (leaves_of t) l =
        λ l there. subst (λ (ls : List Leaf). Among ls l) (leaves-cascade t) (among_flat_mapped leaves_of (cascade_of t) u l a there) in
        ranks all_tables u block.groups within (once_of (cascade_of t) (subst EachOnce (sym (leaves-cascade t)) leaves_once) u a) (λ l there. place_anywhere l.place (leaf_place l (within l there))) group_anywhere

    ranks_left : (k : ℕ) (u : Term) → restricted k t ≡ Some u → RanksOver block (k ∷ []) u (table_groups block k)
    ranks_left k u left =
        let leaves_are : leaves_of u ≡ filter (is_on k) (leaves_of t) = sym (ap leaves_left left) ∙ leaves-restricted k t in
        let kept = λ (l : Leaf) (a : Among (leaves_of u) l). among_kept (is_on k) (leaves_of t) l (subst (λ (ls : List Leaf). Among ls l) leaves_are a) in
        ranks (k ∷ []) u (table_groups block k)
        (λ l a. (kept l a).0)
        (subst EachOnce (sym leaves_are) (once_filter (is_on k) (leaves_of t) leaves_once))
        (λ l a. place_of (k ∷ []) l.place (leaf_place l (kept l a).0) (inl (sym (eqb-true l.place.table k ((kept l a).1)))))
        (λ p a. table_place k p ((among_kept (is_place_in (block.groups ++ joint_places block (lowered block))) (table_places block k) p a).0))

  -- ---- the stages

  whole : (p : Plan) → IsPart block all_tables p → IsPlanOf block p
  whole p part = record { tables = part.stands; conjuncts = part.conjuncts; bests = part.bests }

  stays : (c : Conjunct) → Among (staying block) c → Stands block all_tables c
  stays c a = stands_anywhere c (only_is c ((among_kept (λ d. not (is_sunk block d)) (onlys block) c a).0))

  part-low : (cs : List Conjunct) → ((c : Conjunct) → Among cs c → IsConjunct block c) → IsPart block all_tables (joined_low block cs)
  part-low cs conj = part-all (filtered_scan block cs) cs conj (part-filtered_scan cs conj)

  part-scans : IsPart block all_tables (joined plan.Scan (λ table. []) (joins_of block))
  part-scans = part-all plan.Scan [] (λ c none. absurd none) (part-Scan block)

  part-preferred : (p : Plan) → IsPart block all_tables p → IsPart block all_tables (best_above block.term block.groups p)
  part-preferred p part = part-best_above block all_tables block.term block.groups p part (λ t term_is. ranks_whole t term_is)

  pub first_valid : IsPlanOf block (first_plan block)
  unfolding first_plan
  first_valid =
      let below = filtered (wheres block) (joined plan.Scan (λ table. []) (joins_of block)) in
      whole (first_plan block)
      (part-filtered block all_tables (onlys block) (best_above block.term block.groups below)
      (part-preferred below (part-filtered block all_tables (wheres block) (joined plan.Scan (λ table. []) (joins_of block)) part-scans (λ c a. stands_anywhere c (where_is c a))))
      (λ c a. stands_anywhere c (only_is c a)))

  pub where_valid : IsPlanOf block (where_plan block)
  unfolding where_plan
  where_valid =
      whole (where_plan block)
      (part-filtered block all_tables (onlys block) (best_above block.term block.groups (joined_low block (wheres block)))
      (part-preferred (joined_low block (wheres block)) (part-low (wheres block) where_is))
      (λ c a. stands_anywhere c (only_is c a)))

  pub only_valid : IsPlanOf block (only_plan block)
  unfolding only_plan
  only_valid =
      whole (only_plan block)
      (part-filtered block all_tables (staying block) (best_above block.term block.groups (joined_low block (lowered block)))
      (part-preferred (joined_low block (lowered block)) (part-low (lowered block) low_is)) stays)

  table_term_is : (o : Option Term) (k : ℕ) (u : Term) → table_term o k ≡ Some u → (t : Term) × (o ≡ Some t) × (restricted k t ≡ Some u)
  table_term_is None k u is = absurd (cc)
  table_term_is (Some t) k u is = (t, refl, is)

  part-best_scan : (k : ℕ) → IsPart block (k ∷ []) (best_scan block k)
  part-best_scan k =
      part-best_above block (k ∷ []) (table_term block.term k) (table_groups block k) (filtered_scan block (lowered block) k) (part-filtered_scan (lowered block) low_is k)
      (λ u left. let found = table_term_is block.term k u left in ranks_left found.0 found.1 k u found.2)

  part-if : (b : Bool) → IsPart block all_tables (if b then joined_low block (lowered block) else joined (best_scan block) (at_join block (lowered block)) (joins_of block))
  part-if true = part-low (lowered block) low_is
  part-if false = part-all (best_scan block) (lowered block) low_is part-best_scan

  part-joined_best : IsPart block all_tables (joined_best block)
  part-joined_best = part-if (nat_eq (joins_of block) 0)

  pub prefilter_valid : IsPlanOf block (prefilter_plan block)
  unfolding prefilter_plan
  prefilter_valid =
      whole (prefilter_plan block)
      (part-filtered block all_tables (staying block) (best_above block.term block.groups (joined_best block)) (part-preferred (joined_best block) part-joined_best) stays)

  part-cascade_above : (o : Option Term) → block.term ≡ o → IsPart block all_tables (cascade_above o block.groups (joined_best block))
  part-cascade_above None term_is = part-joined_best
  part-cascade_above (Some t) term_is = part-bests_above block all_tables (cascade_of t) block.groups (joined_best block) part-joined_best (λ u a. ranks_part t term_is u a)

  pub block_valid : IsPlanOf block (block_plan block)
  unfolding block_plan
  block_valid =
      whole (block_plan block)
      (part-filtered block all_tables (staying block) (cascade_above block.term block.groups (joined_best block)) (part-cascade_above block.term refl) stays)
