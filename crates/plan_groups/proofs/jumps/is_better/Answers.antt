use Rattle.std.proofs.Common.{◌≡◌, ◌+◌, nat_lt, ℕ, true, false, ◌∷◌, if◌then◌else◌, pos, get_or, drop, rules, sym, ap, ◌∙◌, arith}
use Rattle.std.specs.Int.{w128}
use Rattle.std.specs.Ordering.{is_gt, is_lt}
use Rattle.std.proofs.lemmas.Int.{to_z-of_z}
use Rattle.plan_groups.specs.Jumps.{is_better_by, jumps_of, outcomes}
use Rattle.plan_groups.specs.Outcomes.{leaf_outcome}
use Rattle.plan_groups.proofs.JumpLaws.{next_leaf, one_asked, step_ends, step_on, step_past}
use Rattle.plan_groups.proofs.jumps.is_better.Goals as goal

pub loop-at-preserved-then-skip-gt0 : goal.loop-at-preserved-then-skip-gt0
loop-at-preserved-then-skip-gt0 g c =
    let leaves = c.args.leaves.now in
    let at = c.loop-at.at in
    let leaf = c.index-leaves-at.result in
    let last = c.loop-at.last in
    let skip = c.loop-at.skip in
    let inv = c.loop-at.invariant in
    let asked = one_asked at skip c.if-skip-gt0.true inv.4 in (
      inv.0
          ∙ next_leaf c.args.a c.args.b at last skip leaves c.args.xs.now c.args.ys.now at leaf (pos 0) (omega (arith, c.loop-at-test.true)) c.requires.first_keys c.requires.second_keys c.index-leaves-at.is
          ∙ step_past at last skip leaf.jump _ _ _ c.if-skip-gt0.true,
      omega (arith, inv.1),
      inv.2,
      λ h. inv.3 asked,
      λ h. absurd (omega (arith, h)),
    )

pub returns-then-is_gt-clause-truth : goal.returns-then-is_gt-clause-truth
returns-then-is_gt-clause-truth g c =
    let leaves = c.args.leaves.now in
    let at = c.loop-at.at in
    let leaf = c.index-leaves-at.result in
    let last = c.loop-at.last in
    let o = leaf_outcome leaf.test (get_or c.args.xs.now at (pos 0)) (get_or c.args.ys.now at (pos 0)) c.args.a c.args.b in
    let js = jumps_of (drop (at + 1) leaves) in
    let os = outcomes (drop (at + 1) leaves) (drop (at + 1) c.args.xs.now) (drop (at + 1) c.args.ys.now) c.args.a c.args.b in
    let is : c.outcome-outcome.result ≡ o =
    c.outcome-outcome.ensures
    ∙ (λ j. leaf_outcome leaf.test (to_z-of_z w128 (get_or c.args.xs.now at (pos 0)) (record { sfits = search rules }) j) (to_z-of_z w128 (get_or c.args.ys.now at (pos 0)) (record { sfits = grind arith }) j) c.args.a c.args.b)
    in
    let none : c.loop-at.skip ≡ 0 = omega (arith, c.if-skip-gt0.false) in
    let behind : is_gt o ≡ true = sym (ap is_gt is) ∙ sym c.is_gt.ensures ∙ c.if-is_gt.true in
    sym (
    c.loop-at.invariant.0
    ∙ next_leaf c.args.a c.args.b at last c.loop-at.skip leaves c.args.xs.now c.args.ys.now at leaf (pos 0) (omega (arith, c.loop-at-test.true)) c.requires.first_keys c.requires.second_keys c.index-leaves-at.is
    ∙ ap (λ (k : ℕ). is_better_by at last k (leaf.jump ∷ js) (o ∷ os)) none
    ∙ step_ends at last leaf.jump js o os behind
    )

pub loop-at-preserved : goal.loop-at-preserved
loop-at-preserved g c =
    let leaves = c.args.leaves.now in
    let at = c.loop-at.at in
    let leaf = c.index-leaves-at.result in
    let last = c.loop-at.last in
    let inv = c.loop-at.invariant in
    let o = leaf_outcome leaf.test (get_or c.args.xs.now at (pos 0)) (get_or c.args.ys.now at (pos 0)) c.args.a c.args.b in
    let js = jumps_of (drop (at + 1) leaves) in
    let os = outcomes (drop (at + 1) leaves) (drop (at + 1) c.args.xs.now) (drop (at + 1) c.args.ys.now) c.args.a c.args.b in
    let is : c.outcome-outcome.result ≡ o =
    c.outcome-outcome.ensures
    ∙ (λ j. leaf_outcome leaf.test (to_z-of_z w128 (get_or c.args.xs.now at (pos 0)) (record { sfits = search rules }) j) (to_z-of_z w128 (get_or c.args.ys.now at (pos 0)) (record { sfits = grind arith }) j) c.args.a c.args.b)
    in
    let none : c.loop-at.skip ≡ 0 = omega (arith, c.if-skip-gt0.false) in
    let not_behind : is_gt o ≡ false = sym (ap is_gt is) ∙ sym c.is_gt.ensures ∙ c.if-is_gt.false in
    let now_is : (if is_lt o then at + 1 else last) ≡ c.latest-last.result = ap (λ p. if is_lt p then at + 1 else last) (sym is) ∙ sym c.latest-last.ensures in
    let skip_is : (if nat_lt leaf.jump.start c.latest-last.result then leaf.jump.skip else 0) ≡ c.passed_over-skip.result = sym c.passed_over-skip.ensures in (
      inv.0
          ∙ next_leaf c.args.a c.args.b at last c.loop-at.skip leaves c.args.xs.now c.args.ys.now at leaf (pos 0) (omega (arith, c.loop-at-test.true)) c.requires.first_keys c.requires.second_keys c.index-leaves-at.is
          ∙ ap (λ (k : ℕ). is_better_by at last k (leaf.jump ∷ js) (o ∷ os)) none
          ∙ step_on at last leaf.jump js o os not_behind
          ∙ ap (λ (l : ℕ). is_better_by (at + 1) l (if nat_lt leaf.jump.start l then leaf.jump.skip else 0) js os) now_is
          ∙ ap (λ (k : ℕ). is_better_by (at + 1) c.latest-last.result k js os) skip_is,
      omega (arith, c.tick.ensures, inv.1),
      omega (arith, c.tick.ensures, inv.2),
      λ h. omega (arith, c.tick.ensures, inv.2),
      λ h. absurd (omega (arith, h)),
    )
