-- A text reads as at most one list of queries, and not where it has a first fault.
use Rattle.std.proofs.Common.{◌≡◌, ℕ, inl, inr, List, length, sym, ap, subst, ◌∙◌, Result, Ok, Err}
use Rattle.prefsql_lexer.specs.declared.fault.Spot.{Spot}
use Rattle.prefsql_lexer.proofs.OneAnswer.{tokens_one, tokens_or_fault, fault_one}
use Rattle.prefsql_tables.specs.Table.{Tables}
use Rattle.sql_tree.specs.declared.tree.SqlQuery.{SqlQuery}
use Rattle.sql_text.specs.Scripts.{IsScript}
use Rattle.sql_resolver.specs.Statements.{script_reading}
use Rattle.sql_parser.specs.Faults.{IsFault, max_nesting}
use Rattle.sql_reader.specs.Reads.{ReadsAs, HasFirstFault}
use Rattle.sql_parser.proofs.OneFault.{script_or_fault, fault_one as grammar_fault_one}
use Rattle.sql_parser.proofs.Accepted.{one_list}

module _ (tables : Tables) (text : List ℕ) where
  pub reads_one : (some other : List SqlQuery) → ReadsAs tables text some → ReadsAs tables text other → some ≡ other
  reads_one some other r s =
      let tokens : r.0 ≡ s.0 = tokens_one max_nesting text r.0 s.0 r.2 s.2 in
      let statements : r.1 ≡ s.1 = one_list s.0 r.1 s.1 (subst (λ ts. IsScript ts r.1) tokens r.3) s.3 in
      same some other (sym r.4 ∙ (ap (script_reading tables) statements ∙ s.4))
    where
      same : (some other : List SqlQuery) → (let a : Result (List SqlQuery) Spot = Ok some in a) ≡ Ok other → some ≡ other
      same some other e = ap (λ a. queries_of a) e
        where
          queries_of : Result (List SqlQuery) Spot → List SqlQuery
          queries_of (Ok queries) = queries
          queries_of (Err spot) = some

  pub reads_or_fault : (queries : List SqlQuery) (spot : Spot) → ReadsAs tables text queries → HasFirstFault tables text spot → ⊥
  reads_or_fault queries spot r (inl f) = tokens_or_fault max_nesting text r.0 spot r.2 f
  reads_or_fault queries spot r (inr (inl f)) =
      let tokens : r.0 ≡ f.0 = tokens_one max_nesting text r.0 f.0 r.2 f.1 in
      script_or_fault f.0 (length text) r.1 spot (subst (λ ts. IsScript ts r.1) tokens r.3) f.2
  reads_or_fault queries spot r (inr (inr f)) =
      let tokens : r.0 ≡ f.0 = tokens_one max_nesting text r.0 f.0 r.2 f.2 in
      let statements : r.1 ≡ f.1 = one_list f.0 r.1 f.1 (subst (λ ts. IsScript ts r.1) tokens r.3) f.3 in
      no_both (sym r.4 ∙ (ap (script_reading tables) statements ∙ f.4))
    where
      no_both : (let a : Result (List SqlQuery) Spot = Ok queries in a) ≡ Err spot → ⊥
      no_both e = cc

  pub fault_of_one : (s t : Spot) → HasFirstFault tables text s → HasFirstFault tables text t → s ≡ t
  fault_of_one s t (inl f) (inl g) = fault_one max_nesting text s t f g
  fault_of_one s t (inl f) (inr (inl g)) = absurd (tokens_or_fault max_nesting text g.0 s g.1 f)
  fault_of_one s t (inl f) (inr (inr g)) = absurd (tokens_or_fault max_nesting text g.0 s g.2 f)
  fault_of_one s t (inr (inl f)) (inl g) = absurd (tokens_or_fault max_nesting text f.0 t f.1 g)
  fault_of_one s t (inr (inl f)) (inr (inl g)) =
      let tokens : g.0 ≡ f.0 = tokens_one max_nesting text g.0 f.0 g.1 f.1 in
      grammar_fault_one f.0 (length text) s t f.2 (subst (λ ts. IsFault ts (length text) t) tokens g.2)
  fault_of_one s t (inr (inl f)) (inr (inr g)) =
      let tokens : g.0 ≡ f.0 = tokens_one max_nesting text g.0 f.0 g.2 f.1 in
      absurd (script_or_fault f.0 (length text) g.1 s (subst (λ ts. IsScript ts g.1) tokens g.3) f.2)
  fault_of_one s t (inr (inr f)) (inl g) = absurd (tokens_or_fault max_nesting text f.0 t f.2 g)
  fault_of_one s t (inr (inr f)) (inr (inl g)) =
      let tokens : f.0 ≡ g.0 = tokens_one max_nesting text f.0 g.0 f.2 g.1 in
      absurd (script_or_fault g.0 (length text) f.1 t (subst (λ ts. IsScript ts f.1) tokens f.3) g.2)
  fault_of_one s t (inr (inr f)) (inr (inr g)) =
      let tokens : f.0 ≡ g.0 = tokens_one max_nesting text f.0 g.0 f.2 g.2 in
      let statements : f.1 ≡ g.1 = one_list g.0 f.1 g.1 (subst (λ ts. IsScript ts f.1) tokens f.3) g.3 in
      same (sym f.4 ∙ (ap (script_reading tables) statements ∙ g.4))
    where
      spot_of : Result (List SqlQuery) Spot → Spot
      spot_of (Ok queries) = s
      spot_of (Err spot) = spot

      same : (let a : Result (List SqlQuery) Spot = Err s in a) ≡ Err t → s ≡ t
      same e = ap spot_of e
