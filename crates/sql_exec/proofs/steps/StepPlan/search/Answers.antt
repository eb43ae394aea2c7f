use Rattle.std.proofs.Common.{◌≡◌, ℕ, List, [], ◌∷◌, ◌++◌, length, map, ◌⊎◌, ⊎_elim, inl, inr, arith, sym, ap, ◌∙◌, subst, append-nil, append_assoc}
use Rattle.std.proofs.lemmas.List.{length-append, length-map, map-append, nil_from_length}
use Rattle.std.specs.Vec.Iter.{into_iter_items}
use Rattle.prefsql_tables.specs.declared.table.AnswerRow.{AnswerRow}
use Rattle.sql_exec.specs.declared.ready.ReadyCond.{ReadyCond}
use Rattle.sql_exec.specs.declared.ready.ReadyCond.TheOpen.{ReadySearch-F}
use Rattle.sql_exec.specs.declared.ready.ReadyRows.{ReadyRows}
use Rattle.sql_exec.specs.declared.ready.ReadyScalar.{ReadyScalar}
use Rattle.sql_exec.specs.declared.ready.ReadySearch.{ReadySearch, out-roll-ReadySearch, roll-ReadySearch}
use Rattle.sql_exec.specs.declared.ready.ReadyStep.{ReadyStep}
use Rattle.sql_exec.specs.declared.ready.ReadyWhen.{ReadyWhen}
use Rattle.sql_exec.specs.declared.steps.ItemPlan.{ItemPlan}
use Rattle.sql_exec.proofs.Planning.{AreMade, made_more, made_search}
use Rattle.sql_exec.proofs.steps.StepPlan.search.Goals as goal

taken : {X : Type 0} (all seen rest more : List X) (x : X) → seen ++ rest ≡ all → rest ≡ x ∷ more → (seen ++ x ∷ []) ++ more ≡ all
taken all seen rest more x are is = append_assoc seen (x ∷ []) more ∙ ap (λ later. seen ++ later) (sym is) ∙ are

both_ended : {X Y : Type 0} (seen : List X) (seen_too : List Y) (left : List X) (left_too : List Y) (all : List X) (all_too : List Y) {n : ℕ} → length seen ≡ n → length seen_too ≡ n → seen ++ left ≡ all → seen_too ++ left_too ≡ all_too → length all ≡ length all_too
    → (length left ≡ 0) ⊎ (length left_too ≡ 0) → (left ≡ []) × (left_too ≡ [])
both_ended seen seen_too left left_too all all_too many many_too are are_too same ended =
    let e = ap length are ∙ same ∙ sym (ap length are_too) in
    let f = length-append seen left in
    let g = length-append seen_too left_too in
    ⊎_elim (λ none. (nil_from_length left none, nil_from_length left_too (omega (arith, e, f, g, none, many, many_too)))) (λ none. (nil_from_length left (omega (arith, e, f, g, none, many, many_too)), nil_from_length left_too none)) ended

abbrev SearchParts : Type 0
SearchParts = ReadySearch-F ReadyCond ReadyRows ReadyScalar ReadySearch ReadyStep ReadyWhen

pub loop-rows-preserved : goal.loop-rows-preserved
loop-rows-preserved c =
    let pairs : List (List AnswerRow × ItemPlan) = c.loop-rows.yielded in
    let pair : List AnswerRow × ItemPlan = (c.in-Some.rows, c.in-Some.item) in
    let h = c.in-Some.ensures.steps in
    record {
      made = subst (λ (steps : List ReadyStep). AreMade steps (pairs ++ pair ∷ [])) (sym c.in_ok-push.ensures.ok) (made_more c.loop-rows.steps pairs c.in_ok-step.field-0 pair c.loop-rows.invariant.made c.in_ok-step.ensures);
      rows = ap (λ seen. seen ++ into_iter_items c.next.new.self.a) (map-append (λ (p : List AnswerRow × ItemPlan). p.0) pairs (pair ∷ []))
          ∙ taken c.args.rows (map (λ (p : List AnswerRow × ItemPlan). p.0) pairs) (into_iter_items c.loop-rows.rows-iterator.a) (into_iter_items c.next.new.self.a) c.in-Some.rows c.loop-rows.invariant.rows h.0.0;
      items = ap (λ seen. seen ++ into_iter_items c.next.new.self.b) (map-append (λ (p : List AnswerRow × ItemPlan). p.1) pairs (pair ∷ []))
          ∙ taken c.args.self.items.items (map (λ (p : List AnswerRow × ItemPlan). p.1) pairs) (into_iter_items c.loop-rows.rows-iterator.b) (into_iter_items c.next.new.self.b) c.in-Some.item c.loop-rows.invariant.items h.1.0;
    }

pub returns : goal.returns
returns c = λ scopes.
    let plan = c.args.self in
    let pairs : List (List AnswerRow × ItemPlan) = c.loop-rows.yielded in
    let a = c.loop-rows.rows-iterator.a in
    let b = c.loop-rows.rows-iterator.b in
    let parts : SearchParts = record { before = c.args.self.before; steps = c.loop-rows.steps } in
    let rows_left : List (List AnswerRow) = into_iter_items c.loop-rows.rows-iterator.a in
    let items_left : List ItemPlan = into_iter_items c.loop-rows.rows-iterator.b in
    let h = c.in-None.ensures.steps in
    let ended : (rows_left ≡ []) × (items_left ≡ []) = both_ended (map (λ (p : List AnswerRow × ItemPlan). p.0) pairs) (map (λ (p : List AnswerRow × ItemPlan). p.1) pairs) rows_left items_left c.args.rows c.args.self.items.items
    (length-map pairs (λ (p : List AnswerRow × ItemPlan). p.0)) (length-map pairs (λ (p : List AnswerRow × ItemPlan). p.1)) c.loop-rows.invariant.rows c.loop-rows.invariant.items c.requires (⊎_elim (λ u. inl (sym a.rest.ok.0 ∙ u.1.0)) (λ u. inr (sym b.rest.ok.0 ∙ u.1.0)) h) in
    made_search plan c.args.rows (roll-ReadySearch parts) pairs (ap (λ (o : SearchParts). o.before) (out-roll-ReadySearch parts))
    (subst (λ (steps : List ReadyStep). AreMade steps pairs) (sym (ap (λ (o : SearchParts). o.steps) (out-roll-ReadySearch parts))) c.loop-rows.invariant.made)
    (sym (append-nil (map (λ (p : List AnswerRow × ItemPlan). p.0) pairs)) ∙ ap (λ later. map (λ (p : List AnswerRow × ItemPlan). p.0) pairs ++ later) (sym ended.0) ∙ c.loop-rows.invariant.rows)
    (sym (append-nil (map (λ (p : List AnswerRow × ItemPlan). p.1) pairs)) ∙ ap (λ later. map (λ (p : List AnswerRow × ItemPlan). p.1) pairs ++ later) (sym ended.1) ∙ c.loop-rows.invariant.items)
    scopes
