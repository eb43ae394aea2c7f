use Rattle.std.proofs.Common.{◌≡◌, ℕ, ◌+◌, not, length, ◌∙◌, arith, ap, rules, subst}
use Rattle.std.proofs.lemmas.Result.{on_ok_weaker}
use Rattle.pref_terms.specs.declared.term.Term.{Term}
use Rattle.pref_terms.specs.declared.term.Term.TheViews.{the_lemmas}
use Rattle.pref_terms.proofs.Standings.{LeavesFit-Leaf, LeavesFit-Pareto_first, LeavesFit-Pareto_second, LeavesFit-Prior_first, LeavesFit-Prior_second, LeavesFit-Dual}
use Rattle.plan_groups.specs.Jumps.{AddsLeaves, shape_of}
use Rattle.plan_groups.specs.declared.jumps.Jump.{Jump}
use Rattle.plan_groups.proofs.LeafAdds.{adds_dual, adds_pareto, adds_prior}
use Rattle.plan_groups.proofs.jumps.+push_leaves.Goals as goal

pub leaf_test-requires : goal.leaf_test-requires
leaf_test-requires t c = λ k d within. LeavesFit-Leaf c.args.bound.now.tables.now c.args.bound.now.from.now c.args.bound.now.first _ c.args.term.now c.in-Leaf.leaf c.in-Leaf.is (c.requires k d within)

pub push_leaves-requires : goal.push_leaves-requires
push_leaves-requires t c = (
  search (rules, the_lemmas),
  λ k d within.
      rw c.get.ensures (LeavesFit-Pareto_first c.args.bound.now.tables.now c.args.bound.now.from.now c.args.bound.now.first _ c.args.term.now c.in-Pareto.first c.in-Pareto.second c.in-Pareto.is (c.requires k d within)),
)

pub push_leaves-requires-in-Pareto : goal.push_leaves-requires-in-Pareto
push_leaves-requires-in-Pareto t c = (
  search (rules, the_lemmas),
  λ k d within.
      rw c.get-in-Pareto.ensures (LeavesFit-Pareto_second c.args.bound.now.tables.now c.args.bound.now.from.now c.args.bound.now.first _ c.args.term.now c.in-Pareto.first c.in-Pareto.second c.in-Pareto.is (c.requires k d within)),
)

pub push_leaves-requires-in-Prior : goal.push_leaves-requires-in-Prior
push_leaves-requires-in-Prior t c = (
  search (rules, the_lemmas),
  λ k d within.
      rw c.get-in-Prior-2.ensures (LeavesFit-Prior_first c.args.bound.now.tables.now c.args.bound.now.from.now c.args.bound.now.first _ c.args.term.now c.in-Prior.first c.in-Prior.second c.in-Prior.is (c.requires k d within)),
)

pub push_leaves-requires-in-Prior-2 : goal.push_leaves-requires-in-Prior-2
push_leaves-requires-in-Prior-2 t c = (
  search (rules, the_lemmas),
  λ k d within.
      rw c.get-in-Prior-3.ensures (LeavesFit-Prior_second c.args.bound.now.tables.now c.args.bound.now.from.now c.args.bound.now.first _ c.args.term.now c.in-Prior.first c.in-Prior.second c.in-Prior.is (c.requires k d within)),
)

pub returns-in_ok-push_leaves-in-Pareto : goal.returns-in_ok-push_leaves-in-Pareto
returns-in_ok-push_leaves-in-Pareto t c =
    let bound = c.args.bound.now in
    let combos = c.args.combos.now in
    let old = c.args.leaves.now.items in
    let mid = c.push_leaves.new.leaves.items in
    let new = c.push_leaves-in-Pareto.new.leaves.items in
    on_ok_weaker c.push_leaves-in-Pareto.result (λ second.
    adds_pareto bound combos c.args.turned c.args.term.now c.in-Pareto.first c.in-Pareto.second c.in-Pareto.is c.args.jump.start c.args.jump.skip old mid new
    (subst (λ (u : Term). AddsLeaves bound combos c.args.turned u 0 0 old mid) c.get.ensures c.in_ok-push_leaves-in-Pareto.ensures)
    (subst (λ (u : Term). AddsLeaves bound combos c.args.turned u c.args.jump.start c.args.jump.skip mid new) c.get-in-Pareto.ensures second)) c.push_leaves-in-Pareto.ensures

pub returns-in_ok-push_leaves-in-Prior : goal.returns-in_ok-push_leaves-in-Prior
returns-in_ok-push_leaves-in-Prior t c =
    let bound = c.args.bound.now in
    let combos = c.args.combos.now in
    let old = c.args.leaves.now.items in
    let mid = c.push_leaves-in-Prior.new.leaves.items in
    let new = c.push_leaves-in-Prior-2.new.leaves.items in
    let p = c.in-Prior.first in
    let over = c.in_ok-over-in-Prior.over in
    let over_is = c.in_ok-over-in-Prior.ensures in
    let start_is : over.start ≡ length old = ap (λ (j : Jump). j.start) over_is ∙ omega (arith, c.len.ensures, c.args.leaves.now.ok.0) in
    let skip_is : over.skip ≡ (shape_of c.in-Prior.second).width + c.args.jump.skip =
    ap (λ (j : Jump). j.skip) over_is ∙ ap (λ (u : Term). (shape_of u).width + c.args.jump.skip) c.get-in-Prior.ensures
    in
    let first : AddsLeaves bound combos c.args.turned p over.start over.skip old mid =
    subst (λ (u : Term). AddsLeaves bound combos c.args.turned u over.start over.skip old mid) c.get-in-Prior-2.ensures c.in_ok-push_leaves-in-Prior.ensures
    in
    on_ok_weaker c.push_leaves-in-Prior-2.result (λ second.
    adds_prior bound combos c.args.turned c.args.term.now c.in-Prior.first c.in-Prior.second c.in-Prior.is c.args.jump.start c.args.jump.skip old mid new
    (subst (λ (n : ℕ). AddsLeaves bound combos c.args.turned p n ((shape_of c.in-Prior.second).width + c.args.jump.skip) old mid) start_is
    (subst (λ (n : ℕ). AddsLeaves bound combos c.args.turned p over.start n old mid) skip_is first))
    (subst (λ (u : Term). AddsLeaves bound combos c.args.turned u c.args.jump.start c.args.jump.skip mid new) c.get-in-Prior-3.ensures second)) c.push_leaves-in-Prior-2.ensures

pub push_leaves-requires-in-Dual : goal.push_leaves-requires-in-Dual
push_leaves-requires-in-Dual t c = (
  search (rules, the_lemmas),
  λ k d within.
      rw c.get-in-Dual.ensures (LeavesFit-Dual c.args.bound.now.tables.now c.args.bound.now.from.now c.args.bound.now.first _ c.args.term.now c.in-Dual.inner c.in-Dual.is (c.requires k d within)),
)

pub returns-in-Dual : goal.returns-in-Dual
returns-in-Dual t c =
    let bound = c.args.bound.now in
    let combos = c.args.combos.now in
    let old = c.args.leaves.now.items in
    let new = c.push_leaves-in-Dual.new.leaves.items in
    on_ok_weaker c.push_leaves-in-Dual.result (λ inner.
    adds_dual bound combos c.args.turned c.args.term.now c.in-Dual.inner c.in-Dual.is c.args.jump.start c.args.jump.skip old new
    (subst (λ (u : Term). AddsLeaves bound combos (not c.args.turned) u c.args.jump.start c.args.jump.skip old new) c.get-in-Dual.ensures inner)) c.push_leaves-in-Dual.ensures
