-- The text of a term and of a plan, variant by variant.
use Rattle.std.proofs.Common.{◌≡◌, ℕ, List, ◌++◌, sym, ap, ◌∙◌, append_assoc}
use Rattle.std.specs.Prelude.{codes, decimal, OnOk, Result}
use Rattle.std.proofs.lemmas.Result.{on_ok_weaker}
use Rattle.prefsql_tables.specs.declared.place.ColumnPlace.{ColumnPlace}
use Rattle.pref_terms.specs.declared.term.Leaf.{Leaf}
use Rattle.pref_terms.specs.declared.term.Term.{Term, Pareto, Prior, Dual}
use Rattle.pref_terms.specs.declared.term.Term as term
use Rattle.query_meaning.specs.declared.block.Block.{Block}
use Rattle.pref_terms.specs.Induction.{fold-Leaf, fold-Pareto, fold-Prior, fold-Dual}
use Rattle.plan_algebra.specs.declared.plan.Conjunct.{Conjunct}
use Rattle.plan_algebra.specs.declared.plan.Plan.{Plan}
use Rattle.plan_algebra.specs.declared.plan.Plan as plan
use Rattle.plan_algebra.specs.PlanText.{best_text, deeper, filter_text, line, lines_step, plan_lines, scan_text, term_step, term_text}
use Rattle.plan_algebra.proofs.Induction.{fold-Scan, fold-Filter, fold-Join, fold-Best}

pub term-Leaf : (t : Term) (leaf : Leaf) → t ≡ term.Leaf leaf → term_text t ≡ codes "P" ++ decimal leaf.number
unfolding term_text
term-Leaf t leaf is = ap term_text is ∙ fold-Leaf (List ℕ) term_step leaf

pub term-Pareto : (t p q : Term) → t ≡ Pareto p q → term_text t ≡ codes "(" ++ term_text p ++ codes " and " ++ term_text q ++ codes ")"
unfolding term_text
term-Pareto t p q is = ap term_text is ∙ fold-Pareto (List ℕ) term_step p q

pub term-Prior : (t p q : Term) → t ≡ Prior p q → term_text t ≡ codes "(" ++ term_text p ++ codes " cascade " ++ term_text q ++ codes ")"
unfolding term_text
term-Prior t p q is = ap term_text is ∙ fold-Prior (List ℕ) term_step p q

pub term-Dual : (t p : Term) → t ≡ Dual p → term_text t ≡ codes "(dual " ++ term_text p ++ codes ")"
unfolding term_text
term-Dual t p is = ap term_text is ∙ fold-Dual (List ℕ) term_step p

pub ruleset term_reads = (term-Leaf, term-Pareto, term-Prior, term-Dual)

module _ (block : Block) (indent : List ℕ) where
  abbrev text : Plan → List ℕ
  text p = plan_lines block p indent

  pub lines-Scan : (p : Plan) (table : ℕ) → p ≡ plan.Scan table → plan_lines block p indent ≡ line indent (scan_text block table)
  unfolding plan_lines
  lines-Scan p table is = ap text is ∙ ap (λ lines. lines indent) (fold-Scan (List ℕ → List ℕ) (lines_step block) table)

  pub lines-Filter : (p : Plan) (conjuncts : List Conjunct) (below : Plan) → p ≡ plan.Filter conjuncts below
      → plan_lines block p indent ≡ line indent (filter_text conjuncts) ++ plan_lines block below (deeper indent)
  unfolding plan_lines
  lines-Filter p conjuncts below is = ap text is ∙ ap (λ lines. lines indent) (fold-Filter (List ℕ → List ℕ) (lines_step block) conjuncts below)

  pub lines-Join : (p left right : Plan) → p ≡ plan.Join left right
      → plan_lines block p indent ≡ line indent (codes "join") ++ plan_lines block left (deeper indent) ++ plan_lines block right (deeper indent)
  unfolding plan_lines
  lines-Join p left right is = ap text is ∙ ap (λ lines. lines indent) (fold-Join (List ℕ → List ℕ) (lines_step block) left right)

  pub lines-Best : (p : Plan) (t : Term) (groups : List ColumnPlace) (below : Plan) → p ≡ plan.Best t groups below
      → plan_lines block p indent ≡ line indent (best_text block t groups) ++ plan_lines block below (deeper indent)
  unfolding plan_lines
  lines-Best p t groups below is = ap text is ∙ ap (λ lines. lines indent) (fold-Best (List ℕ → List ℕ) (lines_step block) t groups below)

pub ruleset line_reads = (lines-Scan, lines-Filter, lines-Join, lines-Best)

-- ---- texts that are added one after the other

pub three_more : (t t1 t2 t3 opened inner close whole : List ℕ) → t1 ≡ t ++ opened → t2 ≡ t1 ++ inner → t3 ≡ t2 ++ close → whole ≡ opened ++ inner ++ close → t3 ≡ t ++ whole
three_more t t1 t2 t3 opened inner close whole e1 e2 e3 is =
    let joins : t ++ opened ++ inner ++ close ≡ t ++ (opened ++ inner ++ close) = simp append_assoc in
    e3 ∙ ap (λ xs. xs ++ close) (e2 ∙ ap (λ xs. xs ++ inner) e1) ∙ joins ∙ ap (λ more. t ++ more) (sym is)

pub five_more : (t t1 t2 t3 t4 t5 opened first between second close whole : List ℕ) → t1 ≡ t ++ opened → t2 ≡ t1 ++ first → t3 ≡ t2 ++ between → t4 ≡ t3 ++ second → t5 ≡ t4 ++ close
    → whole ≡ opened ++ first ++ between ++ second ++ close → t5 ≡ t ++ whole
five_more t t1 t2 t3 t4 t5 opened first between second close whole e1 e2 e3 e4 e5 is =
    let joins : t ++ opened ++ first ++ between ++ second ++ close ≡ t ++ (opened ++ first ++ between ++ second ++ close) = simp append_assoc in
    e5
    ∙ ap (λ xs. xs ++ close) (e4 ∙ ap (λ xs. xs ++ second) (e3 ∙ ap (λ xs. xs ++ between) (e2 ∙ ap (λ xs. xs ++ first) e1)))
    ∙ joins ∙ ap (λ more. t ++ more) (sym is)

module _ {E : Type 0} (block : Block) (indent deep : List ℕ) (deep_is : deep ≡ deeper indent) where
  pub filter_added : (r : Result (Unit {0}) E) (p below given : Plan) (conjuncts cs : List Conjunct) (t t1 t2 : List ℕ) → p ≡ plan.Filter conjuncts below → cs ≡ conjuncts → given ≡ below
      → t1 ≡ t ++ line indent (filter_text cs) → OnOk r (t2 ≡ t1 ++ plan_lines block given deep) → OnOk r (t2 ≡ t ++ plan_lines block p indent)
  filter_added r p below given conjuncts cs t t1 t2 is conjuncts_are given_is first =
      on_ok_weaker r (λ second. second
      ∙ ap (λ xs. xs ++ plan_lines block given deep) first ∙ append_assoc t (line indent (filter_text cs)) (plan_lines block given deep)
      ∙ (λ j. t ++ (line indent (filter_text (conjuncts_are j)) ++ plan_lines block (given_is j) (deep_is j)))
      ∙ ap (λ xs. t ++ xs) (sym (lines-Filter block indent p conjuncts below is)))

  pub best_added : (r : Result (Unit {0}) E) (p below given : Plan) (of : Term) (groups gs : List ColumnPlace) (t t1 t2 : List ℕ) → p ≡ plan.Best of groups below → gs ≡ groups → given ≡ below
      → t1 ≡ t ++ line indent (best_text block of gs) → OnOk r (t2 ≡ t1 ++ plan_lines block given deep) → OnOk r (t2 ≡ t ++ plan_lines block p indent)
  best_added r p below given of groups gs t t1 t2 is groups_are given_is first =
      on_ok_weaker r (λ second. second
      ∙ ap (λ xs. xs ++ plan_lines block given deep) first ∙ append_assoc t (line indent (best_text block of gs)) (plan_lines block given deep)
      ∙ (λ j. t ++ (line indent (best_text block of (groups_are j)) ++ plan_lines block (given_is j) (deep_is j)))
      ∙ ap (λ xs. t ++ xs) (sym (lines-Best block indent p of groups below is)))

  pub join_added : (r : Result (Unit {0}) E) (p left right l q : Plan) (deep2 : List ℕ) (t t1 t2 t3 : List ℕ) → p ≡ plan.Join left right → l ≡ left → q ≡ right → deep2 ≡ deeper indent
      → t1 ≡ t ++ line indent (codes "join") → t2 ≡ t1 ++ plan_lines block l deep → OnOk r (t3 ≡ t2 ++ plan_lines block q deep2) → OnOk r (t3 ≡ t ++ plan_lines block p indent)
  join_added r p left right l q deep2 t t1 t2 t3 is left_is right_is deep2_is first second =
      on_ok_weaker r (λ third. third
      ∙ (λ j. (second ∙ ap (λ xs. xs ++ plan_lines block l deep) first) j ++ plan_lines block q deep2)
      ∙ (λ j. t ++ line indent (codes "join") ++ plan_lines block (left_is j) (deep_is j) ++ plan_lines block (right_is j) (deep2_is j))
      ∙ ap (λ xs. xs ++ plan_lines block right (deeper indent)) (append_assoc t (line indent (codes "join")) (plan_lines block left (deeper indent)))
      ∙ append_assoc t (line indent (codes "join") ++ plan_lines block left (deeper indent)) (plan_lines block right (deeper indent))
      ∙ ap (λ xs. t ++ xs) (sym (lines-Join block indent p left right is)))
