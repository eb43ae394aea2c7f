-- The trees of a script are typed as at most one list of queries or have at most one first fault, and not both.
use Rattle.std.proofs.Common.{◌≡◌, ◌∙◌, ◌+◌, inl, inr, ℕ, List, [], ◌∷◌, true, false, map, refl, sym, ap, ap₂, subst, arith}
use Rattle.std.proofs.lemmas.Bool.{false≢true}
use Rattle.std.proofs.lemmas.Bool.Decides.{nat_tests}
use Rattle.prefsql_lexer.specs.declared.fault.Spot.{Spot}
use Rattle.prefsql_tables.specs.Table.{Tables}
use Rattle.base_prefs.proofs.GraphCopy.{graphs_same}
use Rattle.base_prefs.specs.Graph.{graph_height, graph_level, graph_values, greatest, is_above}
use Rattle.base_prefs.specs.Outcome.{IsExplicitOf}
use Rattle.base_prefs.specs.declared.edge.Edge.{Edge}
use Rattle.base_prefs.specs.declared.graph.Graph.{Graph}
use Rattle.base_prefs.specs.declared.kind.Kind.{Kind}
use Rattle.base_prefs.specs.declared.kind.Kind.TheVariants.{Pos, Neg, PosPos, PosNeg, Layered, Explicit, Around, Between, Lowest, Highest}
use Rattle.pref_terms.specs.declared.term.Leaf.{Leaf}
use Rattle.query_meaning.specs.declared.block.Block.{Block}
use Rattle.query_tree.specs.declared.preference.BaseForm.{BaseForm}
use Rattle.query_tree.specs.declared.preference.BaseForm.TheVariants as form
use Rattle.query_tree.specs.declared.preference.BaseTree.{BaseTree}
use Rattle.query_tree.specs.declared.query.FromTree.{FromTree}
use Rattle.query_tree.specs.declared.query.QueryTree.{QueryTree}
use Rattle.query_typing.specs.Leaves.{bases_if}
use Rattle.query_typing.specs.Obligations.{AllClausesMet, AllMet, IsFirstFault, IsFirstUnmet, Obligation, is_before, spot_of}
use Rattle.query_typing.specs.Resolution.{AreLeavesOf, IsBlockOf, IsKindOf, IsLeafOf, resolved_block}
use Rattle.query_typing.specs.Statements.{obligations}
use Rattle.query_typing.specs.Typing.{AreTyped, IsFirstOfScript}

-- ---- one fault

neither_before : (a b : Spot) → is_before a b ≡ false → is_before b a ≡ false → a ≡ b
neither_before a b p q =
    let place : a.at ≡ b.at = grind (arith, nat_tests) in
    let code : a.code ≡ b.code = grind (arith, nat_tests) in
    λ i. record { code = code i; at = place i }

-- one that is not met stands not before the first
not_before : (os : List Obligation) (one other : Spot) → IsFirstUnmet os one → IsFirstUnmet os other → is_before one other ≡ false
not_before os one other p q =
    let there = p.there in
    let o = there.1 in
    let unmet : is_before (spot_of o) other ≡ false =
    subst (λ (x : Obligation). x.met ≡ false → is_before (spot_of x) other ≡ false) there.3 (q.first there.0 o there.2) there.4.0 in
    subst (λ s. is_before s other ≡ false) there.4.1 unmet

one_unmet : (os : List Obligation) (one other : Spot) → IsFirstUnmet os one → IsFirstUnmet os other → one ≡ other
one_unmet os one other p q = neither_before one other (not_before os one other p q) (not_before os other one q p)

unmet_or_met : (os : List Obligation) (spot : Spot) → IsFirstUnmet os spot → AllMet os → ⊥
unmet_or_met os spot p all =
    let there = p.there in
    let met : there.1.met ≡ true = subst (λ (x : Obligation). x.met ≡ true) there.3 (all there.0 there.1 there.2) in
    false≢true (sym there.4.0 ∙ met)

one_clause_fault : (clauses : List (List Obligation)) (one other : Spot) → IsFirstFault clauses one → IsFirstFault clauses other → one ≡ other
one_clause_fault [] one other p q = absurd p
one_clause_fault (clause ∷ clauses) one other (inl p) (inl q) = one_unmet clause one other p q
one_clause_fault (clause ∷ clauses) one other (inl p) (inr q) = absurd (unmet_or_met clause one p q.0)
one_clause_fault (clause ∷ clauses) one other (inr p) (inl q) = absurd (unmet_or_met clause other q p.0)
one_clause_fault (clause ∷ clauses) one other (inr p) (inr q) = one_clause_fault clauses one other p.1 q.1

fault_or_met : (clauses : List (List Obligation)) (spot : Spot) → IsFirstFault clauses spot → AllClausesMet clauses → ⊥
fault_or_met [] spot p all = p
fault_or_met (clause ∷ clauses) spot (inl p) all = unmet_or_met clause spot p all.0
fault_or_met (clause ∷ clauses) spot (inr p) all = fault_or_met clauses spot p.1 all.1

pub one_typing_fault : (tables : Tables) (trees : List QueryTree) (one other : Spot) → IsFirstOfScript tables trees one → IsFirstOfScript tables trees other → one ≡ other
one_typing_fault tables [] one other p q = absurd p
one_typing_fault tables (tree ∷ trees) one other (inl p) (inl q) = one_clause_fault (obligations tables tree) one other p q
one_typing_fault tables (tree ∷ trees) one other (inl p) (inr q) = absurd (fault_or_met (obligations tables tree) one p q.0)
one_typing_fault tables (tree ∷ trees) one other (inr p) (inl q) = absurd (fault_or_met (obligations tables tree) other q p.0)
one_typing_fault tables (tree ∷ trees) one other (inr p) (inr q) = one_typing_fault tables trees one other p.1 q.1

pub typing_apart : (tables : Tables) (trees : List QueryTree) (blocks : List Block) (spot : Spot) → AreTyped tables trees blocks → IsFirstOfScript tables trees spot → ⊥
typing_apart tables [] blocks spot p q = q
typing_apart tables (tree ∷ trees) [] spot p q = p
typing_apart tables (tree ∷ trees) (block ∷ blocks) spot p (inl q) = fault_or_met (obligations tables tree) spot q p.0.met
typing_apart tables (tree ∷ trees) (block ∷ blocks) spot p (inr q) = typing_apart tables trees blocks spot p.1 q.1

-- ---- one list of queries

-- a graph is given by its edges
one_graph : (g h : Graph) → g.edges ≡ h.edges → g ≡ h
one_graph g h edges =
    let values : g.values ≡ h.values = g.listed ∙ ap graph_values edges ∙ sym h.listed in
    let rows : g.rows ≡ h.rows =
    g.closed ∙ ap₂ (λ es vs. map (λ u. map (λ v. is_above es u v) vs) vs) edges values ∙ sym h.closed in
    let levels : g.levels ≡ h.levels = g.leveled ∙ ap₂ (λ es vs. map (graph_level es) vs) edges values ∙ sym h.leveled in
    let outside : g.outside ≡ h.outside =
    g.outside_level ∙ ap₂ (λ es vs. greatest (map (graph_height es) vs) + 2) edges values ∙ sym h.outside_level in
    graphs_same g h edges values rows levels outside

one_explicit : (edges : List Edge) (one other : Kind) → IsExplicitOf edges one → IsExplicitOf edges other → one ≡ other
one_explicit edges (Explicit g) (Explicit h) p q = ap Explicit (one_graph g h (p ∙ sym q))
one_explicit edges (Explicit g) (Pos s) p q = absurd q
one_explicit edges (Explicit g) (Neg s) p q = absurd q
one_explicit edges (Explicit g) (PosPos a b) p q = absurd q
one_explicit edges (Explicit g) (PosNeg a b) p q = absurd q
one_explicit edges (Explicit g) (Layered a b) p q = absurd q
one_explicit edges (Explicit g) (Around n) p q = absurd q
one_explicit edges (Explicit g) (Between a b) p q = absurd q
one_explicit edges (Explicit g) Lowest p q = absurd q
one_explicit edges (Explicit g) Highest p q = absurd q
one_explicit edges (Pos s) other p q = absurd p
one_explicit edges (Neg s) other p q = absurd p
one_explicit edges (PosPos a b) other p q = absurd p
one_explicit edges (PosNeg a b) other p q = absurd p
one_explicit edges (Layered a b) other p q = absurd p
one_explicit edges (Around n) other p q = absurd p
one_explicit edges (Between a b) other p q = absurd p
one_explicit edges Lowest other p q = absurd p
one_explicit edges Highest other p q = absurd p

one_kind : (f : BaseForm) (one other : Kind) → IsKindOf f one → IsKindOf f other → one ≡ other
one_kind (form.Pos set) one other p q = p ∙ sym q
one_kind (form.Neg set) one other p q = p ∙ sym q
one_kind (form.PosPos first column second) one other p q = p ∙ sym q
one_kind (form.PosNeg good column bad) one other p q = p ∙ sym q
one_kind (form.Layered before after) one other p q = p ∙ sym q
one_kind (form.Explicit edges) one other p q = one_explicit _ one other p q
one_kind (form.Around middle) one other p q = p ∙ sym q
one_kind (form.Between low high) one other p q = p ∙ sym q
one_kind form.Lowest one other p q = p ∙ sym q
one_kind form.Highest one other p q = p ∙ sym q

module _ (tables : Tables) (from : List FromTree) where
  one_leaf : (number : ℕ) (tree : BaseTree) (one other : Leaf) → IsLeafOf tables from number tree one → IsLeafOf tables from number tree other → one ≡ other
  one_leaf number tree one other p q =
      let numbered : one.number ≡ other.number = p.numbered ∙ sym q.numbered in
      let place : one.place ≡ other.place = p.place ∙ sym q.place in
      let base : one.base ≡ other.base = one_kind tree.form one.base other.base p.base q.base in
      let trivial : one.trivial ≡ other.trivial = p.trivial ∙ sym q.trivial in
      λ i. record { number = numbered i; place = place i; base = base i; trivial = trivial i }

  one_leaves : (number : ℕ) (bases : List BaseTree) (one other : List Leaf) → AreLeavesOf tables from number bases one → AreLeavesOf tables from number bases other → one ≡ other
  one_leaves number [] [] [] p q = refl
  one_leaves number [] [] (leaf ∷ leaves) p q = absurd q
  one_leaves number [] (leaf ∷ leaves) other p q = absurd p
  one_leaves number (base ∷ bases) [] other p q = absurd p
  one_leaves number (base ∷ bases) (leaf ∷ leaves) [] p q = absurd q
  one_leaves number (base ∷ bases) (leaf ∷ leaves) (other ∷ others) p q =
      ap₂ (λ l ls. l ∷ ls) (one_leaf number base leaf other p.0 q.0) (one_leaves (number + 1) bases leaves others p.1 q.1)

one_block : (tables : Tables) (tree : QueryTree) (one other : Block) → IsBlockOf tables tree one → IsBlockOf tables tree other → one ≡ other
one_block tables tree one other p q =
    p.2 ∙ ap (resolved_block tables tree) (one_leaves tables tree.from 1 (bases_if tree.prefer) p.0 q.0 p.1 q.1) ∙ sym q.2

pub one_blocks : (tables : Tables) (trees : List QueryTree) (one other : List Block) → AreTyped tables trees one → AreTyped tables trees other → one ≡ other
one_blocks tables [] [] [] p q = refl
one_blocks tables [] [] (block ∷ blocks) p q = absurd q
one_blocks tables [] (block ∷ blocks) other p q = absurd p
one_blocks tables (tree ∷ trees) [] other p q = absurd p
one_blocks tables (tree ∷ trees) (block ∷ blocks) [] p q = absurd q
one_blocks tables (tree ∷ trees) (block ∷ blocks) (other ∷ others) p q =
    ap₂ (λ b bs. b ∷ bs) (one_block tables tree block other p.0.resolved q.0.resolved) (one_blocks tables trees blocks others p.1 q.1)
