-- A run comes to one end.
use Rattle.std.proofs.Common.{◌≡◌, ◌∙◌, ◌⊎◌, inl, inr, ℕ, List, [], ◌∷◌, Option, None, Some, sym, ap, subst, length, take, drop, arith}
use Rattle.grammar_forms.specs.Form.{IsLongest}
use Rattle.prefsql_io.specs.Files.{Files}
use Rattle.prefsql_lexer.proofs.OneAnswer.{fault_one, tokens_one, tokens_or_fault}
use Rattle.prefsql_lexer.specs.declared.fault.Spot.{Spot}
use Rattle.prefsql_lexer.specs.declared.token.Token.{Token}
use Rattle.prefsql_tables.specs.Table.{Tables}
use Rattle.prefsql_session.specs.declared.command.Task.{Task}
use Rattle.prefsql_session.specs.declared.command.Task.TheVariants.{Ask, Execute}
use Rattle.sql_reader.proofs.OneReading.{fault_of_one, reads_one, reads_or_fault}
use Rattle.query_grammar.proofs.Accepted.{one_list}
use Rattle.token_forms.specs.Place.{place_of}
use Rattle.query_grammar.specs.Scripts.{IsCode, IsFault, IsScript, IsScriptFront}
use Rattle.query_meaning.specs.declared.block.Block.{Block}
use Rattle.query_tree.specs.declared.query.QueryTree.{QueryTree}
use Rattle.prefsql_session.specs.Course.{Comes, GoesOn, HasOneEnd, ScriptComesTo}
use Rattle.query_typing.specs.Typing.{AreTyped, IsFirstOfScript}
use Rattle.query_typing.proofs.OneAnswer.{one_blocks, one_typing_fault, typing_apart}
use Rattle.prefsql_session.specs.Opening.{Job, bench_of, over, opening}
use Rattle.prefsql_session.specs.ScriptEnd.{AsksFor, HasFault, HasQueryFault, IsScriptFault, IsScriptWork, IsWork}
use Rattle.prefsql_session.specs.declared.work.Work.{Work}
use Rattle.prefsql_session.specs.declared.work.Work.TheVariants.{Queries, Statements}
use Rattle.prefsql_session.specs.Stage.{Stage, untold, barred, unaccepted, missing, faulty, ready}
use Rattle.prefsql_session.specs.declared.fault.Fault.TheVariants.{Table, Script}

-- ---- one grammar fault

one_code : (front rest : List Token) (one other : ℕ) → IsCode front rest one → IsCode front rest other → one ≡ other
one_code front [] one other p q = p ∙ sym q
one_code front (t ∷ ts) one other (inl p) (inl q) = p.2 ∙ sym q.2
one_code front (t ∷ ts) one other (inl p) (inr q) = absurd (q.0 p.0 p.1)
one_code front (t ∷ ts) one other (inr p) (inl q) = absurd (p.0 q.0 q.1)
one_code front (t ∷ ts) one other (inr p) (inr q) = p.1 ∙ sym q.1

one_longest : (ts : List Token) (m n : ℕ) → IsLongest IsScriptFront ts m → IsLongest IsScriptFront ts n → m ≡ n
one_longest ts m n p q = omega (arith, p.longest n q.within q.front, q.longest m p.within p.front)

one_grammar_fault : (ts : List Token) (end : ℕ) (one other : Spot) → IsFault ts end one → IsFault ts end other → one ≡ other
one_grammar_fault ts end one other p q =
    let same : q.1.0 ≡ p.1.0 = one_longest ts q.1.0 p.1.0 q.1.1 p.1.1 in
    let place : one.at ≡ other.at = p.1.2 ∙ ap (λ n. place_of (drop n ts) end) (sym same) ∙ sym q.1.2 in
    let code : one.code ≡ other.code = one_code (take p.1.0 ts) (drop p.1.0 ts) one.code other.code p.1.3
    (subst (λ n. IsCode (take n ts) (drop n ts) other.code) same q.1.3) in
    λ i. record { code = code i; at = place i }

-- ---- one end of a preference script

module _ (tables : Tables) (text : List ℕ) where
  one_query_fault : (one other : Spot) → HasQueryFault tables text one → HasQueryFault tables text other → one ≡ other
  one_query_fault one other (inl p) (inl q) = fault_one 64 text one other p q
  one_query_fault one other (inl p) (inr q) = absurd (tokens_or_fault 64 text q.0 one q.1 p)
  one_query_fault one other (inr p) (inl q) = absurd (tokens_or_fault 64 text p.0 other p.1 q)
  one_query_fault one other (inr p) (inr q) = go p.2 (subst Later (tokens_one 64 text q.0 p.0 q.1 p.1) q.2)
    where
      Later : List Token → Type 0
      Later tokens = IsFault tokens (length text) other ⊎ ((trees : List QueryTree) × IsScript tokens trees × IsFirstOfScript tables trees other)

      go : IsFault p.0 (length text) one ⊎ ((trees : List QueryTree) × IsScript p.0 trees × IsFirstOfScript tables trees one) → Later p.0 → one ≡ other
      go (inl x) (inl y) = one_grammar_fault p.0 (length text) one other x y
      go (inl x) (inr y) = absurd (x.0 y.0 y.1)
      go (inr x) (inl y) = absurd (y.0 x.0 x.1)
      go (inr x) (inr y) = one_typing_fault tables x.0 one other x.2 (subst (λ trees. IsFirstOfScript tables trees other) (one_list p.0 y.0 x.0 y.1 x.1) y.2)

  fault_or_blocks : (spot : Spot) (blocks : List Block) → HasQueryFault tables text spot → AsksFor tables text blocks → ⊥
  fault_or_blocks spot blocks (inl p) q = tokens_or_fault 64 text q.0 spot q.2 p
  fault_or_blocks spot blocks (inr p) q = go p.2
    where
      trees_are : IsScript p.0 q.1
      trees_are = subst (λ ts. IsScript ts q.1) (tokens_one 64 text q.0 p.0 q.2 p.1) q.3

      go : IsFault p.0 (length text) spot ⊎ ((trees : List QueryTree) × IsScript p.0 trees × IsFirstOfScript tables trees spot) → ⊥
      go (inl x) = x.0 q.1 trees_are
      go (inr x) = typing_apart tables q.1 blocks spot q.4 (subst (λ trees. IsFirstOfScript tables trees spot) (one_list p.0 x.0 q.1 x.1 trees_are) x.2)

  one_asked : (one other : List Block) → AsksFor tables text one → AsksFor tables text other → one ≡ other
  one_asked one other p q =
      let tokens : q.0 ≡ p.0 = tokens_one 64 text q.0 p.0 q.2 p.2 in
      let trees : q.1 ≡ p.1 = one_list p.0 q.1 p.1 (subst (λ ts. IsScript ts q.1) tokens q.3) p.3 in
      one_blocks tables p.1 one other p.4 (subst (λ ts. AreTyped tables ts other) trees q.4)

-- ---- by task

one_fault : (task : Task) (tables : Tables) (text : List ℕ) (one other : Spot) → HasFault task tables text one → HasFault task tables text other → one ≡ other
one_fault (Ask wish) tables text one other p q = one_query_fault tables text one other p q
one_fault Execute tables text one other p q = fault_of_one tables text one other p q

fault_or_work : (task : Task) (tables : Tables) (text : List ℕ) (spot : Spot) (work : Work) → HasFault task tables text spot → IsWork task tables text work → ⊥
fault_or_work (Ask wish) tables text spot work p q = fault_or_blocks tables text spot q.0 p q.1
fault_or_work Execute tables text spot work p q = reads_or_fault tables text q.0 spot q.1 p

one_work : (task : Task) (tables : Tables) (text : List ℕ) (one other : Work) → IsWork task tables text one → IsWork task tables text other → one ≡ other
one_work (Ask wish) tables text one other p q = p.2 ∙ ap (λ blocks. Statements wish tables blocks) (one_asked tables text p.0 q.0 p.1 q.1) ∙ sym q.2
one_work Execute tables text one other p q = p.2 ∙ ap (λ queries. Queries tables queries) (reads_one tables text p.0 q.0 p.1 q.1) ∙ sym q.2

module _ (task : Task) (tables : Tables) (text : List ℕ) where
  script_fault : (one other : Spot) → IsScriptFault task tables text one → IsScriptFault task tables text other → one ≡ other
  script_fault one other (inl p) (inl q) = p.place ∙ sym q.place
  script_fault one other (inl p) (inr q) = absurd (omega (arith, p.long, q.0))
  script_fault one other (inr p) (inl q) = absurd (omega (arith, q.long, p.0))
  script_fault one other (inr p) (inr q) = one_fault task tables text one other p.1 q.1

  script_apart : (spot : Spot) (work : Work) → IsScriptFault task tables text spot → IsScriptWork task tables text work → ⊥
  script_apart spot work (inl p) q = omega (arith, p.long, q.0)
  script_apart spot work (inr p) q = fault_or_work task tables text spot work p.1 q.1

  script_end : (one other : Stage Work) → ScriptComesTo task tables text one → ScriptComesTo task tables text other → one ≡ other
  script_end (faulty (Script s)) (faulty (Script t)) p q = ap (λ (spot : Spot). faulty (Script spot)) (script_fault s t p q)
  script_end (faulty (Script s)) (ready work) p q = absurd (script_apart s work p q)
  script_end (ready work) (faulty (Script s)) p q = absurd (script_apart s work q p)
  script_end (ready work) (ready other) p q = ap ready (one_work task tables text work other p.1 q.1)
  script_end (faulty (Script s)) (faulty (Table name spot)) p q = absurd q
  script_end (faulty (Script s)) untold p q = absurd q
  script_end (faulty (Script s)) barred p q = absurd q
  script_end (faulty (Script s)) unaccepted p q = absurd q
  script_end (faulty (Script s)) missing p q = absurd q
  script_end (ready work) (faulty (Table name spot)) p q = absurd q
  script_end (ready work) untold p q = absurd q
  script_end (ready work) barred p q = absurd q
  script_end (ready work) unaccepted p q = absurd q
  script_end (ready work) missing p q = absurd q
  script_end (faulty (Table name spot)) other p q = absurd p
  script_end untold other p q = absurd p
  script_end barred other p q = absurd p
  script_end unaccepted other p q = absurd p
  script_end missing other p q = absurd p

goes_on : (opens : Stage Job) (script : Option (List ℕ)) → HasOneEnd (GoesOn opens script)
goes_on untold script one other p q = p ∙ sym q
goes_on barred script one other p q = p ∙ sym q
goes_on unaccepted script one other p q = p ∙ sym q
goes_on missing script one other p q = p ∙ sym q
goes_on (faulty fault) script one other p q = p ∙ sym q
goes_on (ready (bench_of count)) script one other p q = p ∙ sym q
goes_on (ready (over task tables)) None one other p q = p ∙ sym q
goes_on (ready (over task tables)) (Some text) one other p q = script_end task tables text one other p q

-- a run comes to one end
pub one_end : (words : List (List ℕ)) (files : Option Files) (script : Option (List ℕ)) → HasOneEnd (Comes words files script)
one_end words files script = goes_on (opening words files) script
