use Rattle.std.proofs.Common.{◌+◌, ◌*◌, ◌-◌, length, ap, ◌∙◌, arith}
use Rattle.plan_groups.proofs.RowKeys.{keys_read, keys_within}
use Rattle.plan_groups.proofs.ranked.RankedRows.keys_at.Goals as goal

pub overflow_mul-start : goal.overflow_mul-start
overflow_mul-start c =
    let s = c.args.self.now in
    omega (arith, s.keys.ok.0, keys_within s.bound.now s.combos.now s.keys.items s.leaves.items c.args.place c.len-width.result s.keys_there s.jumps_there (omega (arith, c.len-width.ensures, s.leaves.ok.0)) c.requires)

pub overflow_add-result : goal.overflow_add-result
overflow_add-result c =
    let s = c.args.self.now in
    omega (arith, s.keys.ok.0, keys_within s.bound.now s.combos.now s.keys.items s.leaves.items c.args.place c.len-width.result s.keys_there s.jumps_there (omega (arith, c.len-width.ensures, s.leaves.ok.0)) c.requires)

pub offset_bounds-as_slice-start : goal.offset_bounds-as_slice-start
offset_bounds-as_slice-start c =
    let s = c.args.self.now in
    omega (arith, s.keys.ok.0, s.keys.small, keys_within s.bound.now s.combos.now s.keys.items s.leaves.items c.args.place c.len-width.result s.keys_there s.jumps_there (omega (arith, c.len-width.ensures, s.leaves.ok.0)) c.requires)

pub slice_bounds-result-end : goal.slice_bounds-result-end
slice_bounds-result-end c =
    let s = c.args.self.now in
    omega (arith, ap length c.as_slice.ensures.value, keys_within s.bound.now s.combos.now s.keys.items s.leaves.items c.args.place c.len-width.result s.keys_there s.jumps_there (omega (arith, c.len-width.ensures, s.leaves.ok.0)) c.requires)

pub returns : goal.returns
returns c =
    let s = c.args.self.now in
    let w = c.len-width.result in
    keys_read s.bound.now s.combos.now c.as_slice.result.now s.leaves.items c.args.place w (c.args.place * w + w - c.args.place * w)
    (c.as_slice.ensures.value ∙ s.keys_there) s.jumps_there (omega (arith, c.len-width.ensures, s.leaves.ok.0)) (omega arith) c.requires
