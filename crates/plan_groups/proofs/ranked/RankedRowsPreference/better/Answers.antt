use Rattle.std.proofs.Common.{length, ap, ◌∙◌, arith}
use Rattle.std.proofs.lemmas.List.{length-map}
use Rattle.pref_terms.specs.TermLaws.{some_leaf}
use Rattle.plan_groups.specs.Groups.{seen_at}
use Rattle.plan_groups.specs.Jumps.{is_better_by, jumps_of, outcomes}
use Rattle.plan_groups.specs.declared.jumps.RankedLeaf.{RankedLeaf}
use Rattle.plan_groups.proofs.JumpLaws.{jumps_length, keys_length, leaves_decide, width_is}
use Rattle.plan_groups.proofs.ranked.RankedRowsPreference.better.Goals as goal

pub is_better-requires-clause-some : goal.is_better-requires-clause-some
is_better-requires-clause-some g c =
    let s = c.args.self.now in
    let t = s.bound.now.term.now in
    omega (arith, ap length c.as_slice.ensures.value, length-map s.leaves.items (λ (leaf : RankedLeaf). leaf.jump), ap length s.jumps_there, jumps_length t 0 0 0, width_is t, some_leaf t)

pub is_better-requires-clause-first_keys : goal.is_better-requires-clause-first_keys
is_better-requires-clause-first_keys g c =
    let s = c.args.self.now in
    let t = s.bound.now.term.now in
    omega (
      arith,
      ap length c.keys_at-xs.ensures,
      keys_length t (seen_at s.bound.now s.combos.now c.args.a.now),
      ap length c.as_slice.ensures.value,
      length-map s.leaves.items (λ (leaf : RankedLeaf). leaf.jump),
      ap length s.jumps_there,
      jumps_length t 0 0 0,
      width_is t,
    )

pub is_better-requires-clause-second_keys : goal.is_better-requires-clause-second_keys
is_better-requires-clause-second_keys g c =
    let s = c.args.self.now in
    let t = s.bound.now.term.now in
    omega (
      arith,
      ap length c.keys_at-ys.ensures,
      keys_length t (seen_at s.bound.now s.combos.now c.args.b.now),
      ap length c.as_slice.ensures.value,
      length-map s.leaves.items (λ (leaf : RankedLeaf). leaf.jump),
      ap length s.jumps_there,
      jumps_length t 0 0 0,
      width_is t,
    )

pub returns-clause-truth : goal.returns-clause-truth
returns-clause-truth g c =
    let s = c.args.self.now in
    c.is_better.ensures.truth
    ∙ (λ j. is_better_by 0 0 0 (jumps_of (c.as_slice.ensures.value j)) (outcomes (c.as_slice.ensures.value j) (c.keys_at-xs.ensures j) (c.keys_at-ys.ensures j) c.args.a.now c.args.b.now))
    ∙ (λ j. is_better_by 0 0 0 (s.jumps_there j) (s.tells c.args.a.now c.args.b.now c.requires.a_valid c.requires.b_valid j))
    ∙ leaves_decide (seen_at s.bound.now s.combos.now c.args.a.now) (seen_at s.bound.now s.combos.now c.args.b.now) s.bound.now.term.now

pub returns-clause-most_steps : goal.returns-clause-most_steps
returns-clause-most_steps g c =
    let s = c.args.self.now in
    let t = s.bound.now.term.now in
    omega (arith, c.is_better.ensures.most_steps, ap length c.as_slice.ensures.value, length-map s.leaves.items (λ (leaf : RankedLeaf). leaf.jump), ap length s.jumps_there, jumps_length t 0 0 0, width_is t)
