-- The clauses on the auxiliary query and on its conditions.
use Rattle.std.proofs.Common.{◌≡◌, ℕ, ◌+◌, pos, Some, List, [], get_or, All, Contains, arith, inl, inr}
use Rattle.std.proofs.lemmas.Bool.{cases_Bool, cond-true, cond-false, both_ways}
use Rattle.std.proofs.lemmas.List.Elements.{All-nil, All-cons, All-contains}
use Rattle.prefsql_values.specs.declared.value.Value.{Value}
use Rattle.prefsql_values.specs.declared.value.Value.TheVariants.{Num}
use Rattle.prefsql_tables.specs.declared.place.Combo.{Combo}
use Rattle.prefsql_tables.specs.Table.{Tables}
use Rattle.base_prefs.specs.declared.edge.Edge.{Edge}
use Rattle.base_prefs.specs.declared.kind.Kind.{Kind}
use Rattle.base_prefs.specs.declared.kind.Kind.TheVariants.{Pos, Neg, PosPos, PosNeg, Layered, Explicit, Around, Between, Lowest, Highest}
use Rattle.base_prefs.specs.Graph.{graph_values}
use Rattle.base_prefs.specs.Values.{is_in, place_of}
use Rattle.base_prefs.proofs.KindMeaning.{is_in-Decides}
use Rattle.pref_terms.specs.declared.term.Term.{Term}
use Rattle.pref_terms.specs.Terms.{leaves_of}
use Rattle.query_meaning.specs.declared.block.Block.{Block}
use Rattle.query_meaning.specs.Answers.{candidates, row_counts, seen}
use Rattle.query_meaning.specs.Choices.{IsChoice}
use Rattle.written_query_meaning.specs.Held.{code_of, codes_of, rank_of}
use Rattle.written_query_meaning.specs.Meaning.{HasRanks, HoldsCandidates, IsCodeOf, JudgesCandidates}
use Rattle.query_meaning.specs.Valid.{IsValidBlock}
use Rattle.written_query_meaning.proofs.Candidates.{auxiliary_rows, leaves_judged}
use Rattle.written_query_meaning.proofs.Compared.{IsValue}
use Rattle.written_query_meaning.proofs.Duels.{judged_value, judges}
use Rattle.query_meaning.proofs.AskedLemmas.{candidates_chosen}

rank_value : (kind : Kind) (v : Value) → IsValue v → IsValue (rank_of kind v)
rank_value (Pos s) v known e = cc
rank_value (Neg s) v known e = cc
rank_value (PosPos s t) v known e = cc
rank_value (PosNeg s t) v known e = cc
rank_value (Layered before after) v known e = cc
rank_value (Explicit g) v known e = cc
rank_value (Around z) v known e = cc
rank_value (Between low up) v known e = cc
rank_value Lowest v known e = known e
rank_value Highest v known e = known e

code_value : (n : ℕ) → IsValue (Num (pos n))
code_value n e = cc

codes_value : (kind : Kind) (v : Value) → All IsValue (codes_of kind v)
codes_value (Explicit g) v = All-cons IsValue (Num (pos (code_of g.edges v))) [] (code_value (code_of g.edges v)) (All-nil IsValue)
codes_value (Pos s) v = All-nil IsValue
codes_value (Neg s) v = All-nil IsValue
codes_value (PosPos s t) v = All-nil IsValue
codes_value (PosNeg s t) v = All-nil IsValue
codes_value (Layered before after) v = All-nil IsValue
codes_value (Around z) v = All-nil IsValue
codes_value (Between low up) v = All-nil IsValue
codes_value Lowest v = All-nil IsValue
codes_value Highest v = All-nil IsValue

code_is : (edges : List Edge) (v : Value) → IsCodeOf edges v
code_is edges v =
    let values = graph_values edges in
    elim (cases_Bool (is_in values v)) [
      | inl inside ↦
          let code : code_of edges v ≡ place_of values v + 1 = cond-true (is_in values v) (place_of values v + 1) 0 inside in
          (λ none there. absurd (omega (arith, code, none)), λ outside. absurd (outside ((is_in-Decides values v).0 inside)))
      | inr outside ↦
          (λ none there. both_ways (is_in values v) outside ((is_in-Decides values v).1 there), λ h. cond-false (is_in values v) (place_of values v + 1) 0 outside)
    ]

module _ (block : Block) (term : Term) (is : IsValidBlock block) (term_is : block.term ≡ Some term) where
  pub holds_candidates : HoldsCandidates block term
  holds_candidates tables valid fits = auxiliary_rows block term is term_is tables valid fits []

  chosen : (tables : Tables) (x : Combo) → Contains (candidates tables block) x → IsChoice (row_counts tables block.from) x.rows
  chosen tables x there = All-contains (λ (combo : Combo). IsChoice (row_counts tables block.from) combo.rows) (candidates tables block) x (candidates_chosen tables block) there

  pub has_ranks : HasRanks block term
  has_ranks tables valid fits x there =
      let judged = leaves_judged block term is term_is tables valid fits x (chosen tables x there) in
      record {
        values = λ k d small.
            let leaf = get_or (leaves_of term) k d in
            let v = seen tables block x leaf.place in
            All-cons IsValue (rank_of leaf.base v) (codes_of leaf.base v) (rank_value leaf.base v (judged_value leaf.base v (judged k d small))) (codes_value leaf.base v);
        codes = code_is;
      }

  pub judges_candidates : JudgesCandidates block term
  judges_candidates tables valid fits y x y_there x_there = judges block term is term_is tables valid fits y x (chosen tables y y_there) (chosen tables x x_there)
