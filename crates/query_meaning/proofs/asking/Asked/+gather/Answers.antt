use Rattle.std.proofs.Common.{◌≡◌, ◌++◌, ◌∷◌, [], ◌∙◌, ap, subst, ℕ, List, filter, arith}
use Rattle.prefsql_tables.specs.Combos.{combos_of}
use Rattle.query_meaning.specs.Answers.{row_counts}
use Rattle.query_meaning.specs.Asking.{is_candidate}
use Rattle.query_meaning.specs.Choices.{begun}
use Rattle.query_meaning.proofs.GatherLemmas.{completed_whole, gathered_more, gathered_all, popped}
use Rattle.query_meaning.proofs.asking.Asked.+gather.Goals as goal

pub add_candidate-requires-clause-chosen : goal.add_candidate-requires-clause-chosen
add_candidate-requires-clause-chosen t c =
    completed_whole (row_counts c.args.self.now.tables.now c.args.self.now.block.now.from) c.args.rows.now.items c.args.limits.now c.in-None.ensures.cases c.requires.completed

pub loop-row-preserved : goal.loop-row-preserved
loop-row-preserved t c =
    let test = is_candidate c.args.self.now in
    let pushed : c.push.new.self.items ≡ c.args.rows.now.items ++ c.loop-row.row ∷ [] =
    ◌∙◌ {A = List ℕ} c.in_ok-push-in-Some.ensures.items (ap (λ (rows : List ℕ). rows ++ c.loop-row.row ∷ []) c.loop-row.invariant.same)
    in
    record {
      same = popped c.args.rows.now.items c.gather.new.rows.items c.pop.new.self.items c.loop-row.row c.gather.new.rows.len (◌∙◌ {A = List ℕ} c.in_ok-gather-in-Some.ensures.rows pushed) c.gather.new.rows.ok.0 c.pop.ensures.rest;
      gathered = gathered_more test c.args.rows.now.items c.in-Some.more.now c.loop-row.row c.args.found.now.items c.loop-row.found.items c.gather.new.found.items
          c.loop-row.invariant.gathered
          (subst (λ (begins : List ℕ). c.gather.new.found.items ≡ c.loop-row.found.items ++ filter test (begun begins (combos_of c.in-Some.more.now))) pushed c.in_ok-gather-in-Some.ensures.found);
    }

pub returns-after-loop-row-clause-found : goal.returns-after-loop-row-clause-found
returns-after-loop-row-clause-found t c =
    gathered_all (is_candidate c.args.self.now) c.args.rows.now.items c.args.limits.now c.in-Some.limit.now c.in-Some.more.now c.loop-row.row c.args.found.now.items c.loop-row.found.items
    c.in-Some.ensures.cases.0 (let p = c.loop-row-test.false in let q = c.loop-row.auto.row-end in omega arith) c.loop-row.invariant.gathered
