-- What a plan gives are rows of its tables.
use Rattle.std.proofs.Common.{◌≡◌, ℕ, zero, suc, ◌+◌, ◌<◌, List, [], ◌∷◌, ◌++◌, length, get_or, map, All, refl, sym, ap, ◌∙◌, subst, arith}
use Rattle.std.specs.List.{range_with_len}
use Rattle.std.proofs.lemmas.List.{get_or-map, map-append}
use Rattle.std.proofs.lemmas.List.FromFn.{length-range_with_len}
use Rattle.prefsql_tables.specs.Table.{Tables, rows_of}
use Rattle.prefsql_tables.specs.declared.place.ColumnPlace.{ColumnPlace}
use Rattle.prefsql_tables.specs.declared.place.Combo.{Combo}
use Rattle.order_laws.proofs.Members.{Among, among_flat_map, among_kept, among_map, among_range}
use Rattle.pref_terms.specs.declared.term.Term.{Term}
use Rattle.query_meaning.specs.Answers.{indexes_of, row_counts}
use Rattle.query_meaning.specs.BlockFits.{IsTableOf}
use Rattle.query_meaning.specs.Choices.{IsChoice}
use Rattle.query_meaning.specs.declared.block.Block.{Block}
use Rattle.query_meaning.specs.declared.block.FromTable.{FromTable}
use Rattle.plan_algebra.specs.Meaning.{Found, found_by}
use Rattle.plan_algebra.specs.Valid.{Nodes, nodes_of}
use Rattle.plan_algebra.specs.declared.plan.Conjunct.{Conjunct}
use Rattle.plan_algebra.specs.declared.plan.Plan.{Plan, Filter, Join, Best}
use Rattle.plan_algebra.specs.declared.plan.Plan as plan
use Rattle.plan_algebra.proofs.Induction.{plan_induction}
use Rattle.native_plan.specs.Combos.{pair, single}
use Rattle.native_plan.proofs.Nodes.{found-Best, found-Filter, found-Join, found-Scan, nodes-Best, nodes-Filter, nodes-Join, nodes-Scan}

-- the FROM table at a position is one of the set, with so many rows
pub scanned_table : (tables : Tables) (from : List FromTable) (fits : All (IsTableOf tables) from) (t : ℕ) → t < length from
    → (get_or (indexes_of from) t 0 < length tables) × (length (rows_of tables (get_or (indexes_of from) t 0)) ≡ get_or (row_counts tables from) t 0)
scanned_table tables [] fits t small = absurd (omega arith)
scanned_table tables (f ∷ fs) fits t small =
    let index : get_or (indexes_of (f ∷ fs)) t 0 ≡ (get_or (f ∷ fs) t f).index = get_or-map (λ (table : FromTable). table.index) (f ∷ fs) t f 0 small in
    let count : get_or (row_counts tables (f ∷ fs)) t 0 ≡ length (rows_of tables (get_or (f ∷ fs) t f).index) = get_or-map (λ (table : FromTable). length (rows_of tables table.index)) (f ∷ fs) t f 0 small in
    (subst (λ i. i < length tables) (sym index) (fits t f small).there, ap (λ i. length (rows_of tables i)) index ∙ sym count)

choice_append : (ls ms ps qs : List ℕ) → IsChoice ls ps → IsChoice ms qs → IsChoice (ls ++ ms) (ps ++ qs)
choice_append [] ms [] qs first second = second
choice_append [] ms (p ∷ ps) qs first second = absurd first
choice_append (l ∷ ls) ms [] qs first second = absurd first
choice_append (l ∷ ls) ms (p ∷ ps) qs first second = (first.0, choice_append ls ms ps qs first.1 second)

module _ (tables : Tables) (block : Block) where
  -- how many rows each table of the plan has
  abbrev pub limits_of : List ℕ → List ℕ
  limits_of ts = map (λ t. get_or (row_counts tables block.from) t 0) ts

  abbrev pub AreRows : Plan → Type 0
  AreRows p = (c : Combo) → Among (found_by tables block p).combos c → IsChoice (map (λ t. get_or (row_counts tables block.from) t 0) (nodes_of p).tables) c.rows

  of_nodes : (p : Plan) (nodes : Nodes) (found : Found) → nodes_of p ≡ nodes → found_by tables block p ≡ found
      → ((c : Combo) → Among found.combos c → IsChoice (limits_of nodes.tables) c.rows) → AreRows p
  of_nodes p nodes found n f each c a =
      subst (λ (m : Nodes). IsChoice (limits_of m.tables) c.rows) (sym n) (each c (subst (λ (g : Found). Among g.combos c) f a))

  pub single_choice : (t row : ℕ) → row < get_or (row_counts tables block.from) t 0 → IsChoice (limits_of (t ∷ [])) (row ∷ [])
  single_choice t row small = (small, tt)

  pub pair_choice : (ts us : List ℕ) (p q : Combo) → IsChoice (limits_of ts) p.rows → IsChoice (limits_of us) q.rows → IsChoice (limits_of (ts ++ us)) (p.rows ++ q.rows)
  pair_choice ts us p q first second =
      subst (λ (limits : List ℕ). IsChoice limits (p.rows ++ q.rows)) (sym (map-append (λ t. get_or (row_counts tables block.from) t 0) ts us))
      (choice_append (limits_of ts) (limits_of us) p.rows q.rows first second)

  scan_rows : (t : ℕ) → AreRows (plan.Scan t)
  scan_rows t =
      of_nodes (plan.Scan t) _ _ (nodes-Scan t) (found-Scan tables block t) (λ c a.
      let found = among_map single (range_with_len 0 (get_or (row_counts tables block.from) t 0)) c a in
      let small = (among_range 0 (get_or (row_counts tables block.from) t 0) found.0 found.1).1 in
      subst (λ (d : Combo). IsChoice (limits_of (t ∷ [])) d.rows) found.2 (single_choice t found.0 (omega (arith, small))))

  filter_rows : (cs : List Conjunct) (below : Plan) → AreRows below → AreRows (Filter cs below)
  filter_rows cs below rows = of_nodes (Filter cs below) _ _ (nodes-Filter cs below) (found-Filter tables block cs below) (λ c a. rows c ((among_kept _ (found_by tables block below).combos c a).0))

  best_rows : (t : Term) (groups : List ColumnPlace) (below : Plan) → AreRows below → AreRows (Best t groups below)
  best_rows t groups below rows = of_nodes (Best t groups below) _ _ (nodes-Best t groups below) (found-Best tables block t groups below) (λ c a. rows c ((among_kept _ (found_by tables block below).combos c a).0))

  join_rows : (left right : Plan) → AreRows left → AreRows right → AreRows (Join left right)
  join_rows left right first second =
      of_nodes (Join left right) _ _ (nodes-Join left right) (found-Join tables block left right) (λ c a.
      let ls = (found_by tables block left).combos in
      let rs = (found_by tables block right).combos in
      let p = among_flat_map (λ (l : Combo). map (pair l) rs) ls c a in
      let q = among_map (pair p.0) rs c p.2 in
      subst (λ (d : Combo). IsChoice (limits_of ((nodes_of left).tables ++ (nodes_of right).tables)) d.rows) q.2
      (pair_choice (nodes_of left).tables (nodes_of right).tables p.0 q.0 (first p.0 p.1) (second q.0 q.1)))

  -- what a plan gives has a row of each of its tables
  pub are_rows : (p : Plan) (c : Combo) → Among (found_by tables block p).combos c → IsChoice (map (λ t. get_or (row_counts tables block.from) t 0) (nodes_of p).tables) c.rows
  are_rows = plan_induction AreRows scan_rows filter_rows join_rows best_rows

  abbrev pub FirstIs : Plan → Type 0
  FirstIs p = (first count : ℕ) → (nodes_of p).tables ≡ range_with_len first count → (found_by tables block p).first ≡ first

  head_is : (t first count : ℕ) (ts : List ℕ) → t ∷ ts ≡ range_with_len first count → t ≡ first
  head_is t first zero ts e = absurd (cc)
  head_is t first (suc count) ts e = cc

-- two lists that make a range are ranges
pub range_split : (xs ys : List ℕ) (first count : ℕ) → xs ++ ys ≡ range_with_len first count
    → (xs ≡ range_with_len first (length xs)) × (ys ≡ range_with_len (first + length xs) (length ys)) × (length xs + length ys ≡ count)
range_split [] ys first count e =
    let long : length ys ≡ count = ap length e ∙ length-range_with_len first count in
    let at : first ≡ first + 0 = omega arith in
    (refl, e ∙ (λ j. range_with_len (at j) (sym long j)), omega (arith, long))
range_split (x ∷ xs) ys first zero e = absurd (cc)
range_split (x ∷ xs) ys first (suc count) e =
    let head : x ≡ first = cc in
    let tail : xs ++ ys ≡ range_with_len (first + 1) count = cc in
    let more = range_split xs ys (first + 1) count tail in
    let at : first + 1 + length xs ≡ first + suc (length xs) = omega arith in
    ((λ j. head j ∷ more.0 j), more.1 ∙ (λ j. range_with_len (at j) (length ys)), omega (arith, more.2))

module _ (tables : Tables) (block : Block) where
  first_scan : (t : ℕ) → FirstIs tables block (plan.Scan t)
  first_scan t first count e =
      ap (λ (f : Found). f.first) (found-Scan tables block t) ∙ head_is tables block t first count [] (sym (ap (λ (n : Nodes). n.tables) (nodes-Scan t)) ∙ e)

  first_filter : (cs : List Conjunct) (below : Plan) → FirstIs tables block below → FirstIs tables block (Filter cs below)
  first_filter cs below is first count e =
      ap (λ (f : Found). f.first) (found-Filter tables block cs below) ∙ is first count (sym (ap (λ (n : Nodes). n.tables) (nodes-Filter cs below)) ∙ e)

  first_best : (t : Term) (groups : List ColumnPlace) (below : Plan) → FirstIs tables block below → FirstIs tables block (Best t groups below)
  first_best t groups below is first count e =
      ap (λ (f : Found). f.first) (found-Best tables block t groups below) ∙ is first count (sym (ap (λ (n : Nodes). n.tables) (nodes-Best t groups below)) ∙ e)

  first_join : (left right : Plan) → FirstIs tables block left → FirstIs tables block right → FirstIs tables block (Join left right)
  first_join left right is other first count e =
      let parts = range_split (nodes_of left).tables (nodes_of right).tables first count (sym (ap (λ (n : Nodes). n.tables) (nodes-Join left right)) ∙ e) in
      ap (λ (f : Found). f.first) (found-Join tables block left right) ∙ is first (length (nodes_of left).tables) parts.0

  -- a plan begins at the first of its tables
  pub first_is : (p : Plan) (first count : ℕ) → (nodes_of p).tables ≡ range_with_len first count → (found_by tables block p).first ≡ first
  first_is = plan_induction (FirstIs tables block) first_scan first_filter first_join first_best
