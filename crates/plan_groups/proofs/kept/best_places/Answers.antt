use Rattle.std.proofs.Common.{◌≡◌, ℕ, ◌+◌, ◌-◌, ◌<◌, ◌≤◌, true, false, List, map, length, get_or, take, drop, All, sym, subst, arith}
use Rattle.std.specs.Ordering.{is_eq}
use Rattle.std.proofs.lemmas.List.{drop-map, length-drop, take-map, take_rest}
use Rattle.std.proofs.lemmas.List.Elements.{All-drop, All-take}
use Rattle.plan_groups.specs.Groups.{IsRow}
use Rattle.plan_groups.specs.Members.{by_group, place_of}
use Rattle.plan_groups.specs.declared.members.Member.{Member}
use Rattle.plan_groups.proofs.GroupRuns.{group_more_by}
use Rattle.plan_groups.proofs.kept.best_places.Goals as goal

pub add_best-requires : goal.add_best-requires
add_best-requires g c =
    let at = c.loop-at.at in
    let ms = c.args.members.now in
    let n = at + c.run_length.result - at in
    let P = IsRow c.args.bound.now c.args.combos.now in
    subst (All P) (take-map place_of n (drop at ms))
    (All-take P n (map place_of (drop at ms)) (subst (All P) (drop-map place_of at ms) (All-drop P at (map place_of ms) c.requires.rows)))

pub loop-at-preserved : goal.loop-at-preserved
loop-at-preserved g c =
    let at = c.loop-at.at in
    let r = c.run_length.result in
    let ms = c.args.members.now in
    let run = c.run_length.ensures in
    let added = c.in_ok-added.ensures in
    let e : at + r - at ≡ r = omega arith in
    let starts : at < length ms = omega arith in
    let rest : take (length ms - at) (drop at ms) ≡ drop at ms = take_rest ms at in
    let bounded : r ≤ length (drop at ms) = subst (λ (ys : List Member). r ≤ length ys) rest run.bounded in
    let within : at + r ≤ length ms = omega (arith, bounded, length-drop at ms, starts) in
    let one : (k : ℕ) (d : Member) → k < r → is_eq (by_group (get_or (drop at ms) 0 d) (get_or (drop at ms) k d)) ≡ true =
    λ k d small. subst (λ (ys : List Member). is_eq (by_group (get_or ys 0 d) (get_or ys k d)) ≡ true) rest (run.one_group k d small)
    in
    let ends : (d : Member) → r < length (drop at ms) → is_eq (by_group (get_or (drop at ms) 0 d) (get_or (drop at ms) r d)) ≡ false =
    λ d small.
    subst (λ (ys : List Member). is_eq (by_group (get_or ys 0 d) (get_or ys r d)) ≡ false) rest (run.ends d (subst (λ (ys : List Member). r < length ys) (sym rest) small))
    in (
      within,
      group_more_by c.args.bound.now c.args.combos.now ms c.requires.groups c.requires.sorted at r starts within one ends
          (at + r - at) e c.args.steps.now c.loop-at.places.items c.add_best.new.places.items c.loop-at.tests c.in_ok-added.added c.saturating_add-tests.result c.loop-at.steps c.add_best.new.steps
          c.loop-at.invariant.1 added.exact
          (record { least_tests = added.least_tests; most_tests = added.most_tests; least_steps = added.least_steps; most_steps = added.most_steps })
          c.saturating_add-tests.ensures (omega (arith, within)),
    )
