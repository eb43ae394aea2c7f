use Rattle.std.proofs.Common.{length, sym, ap, ◌∙◌}
use Rattle.pref_terms.specs.Equations.{as_many_keys}
use Rattle.plan_groups.specs.Groups.{seen_at}
use Rattle.plan_groups.proofs.ranked.RankedRowsPreference.key_cmp.Goals as goal

pub compare_keys-requires : goal.compare_keys-requires
compare_keys-requires c =
    let s = c.args.self.now in
    ap length c.keys_at.ensures
    ∙ as_many_keys s.bound.now.term.now (seen_at s.bound.now s.combos.now c.args.a.now) (seen_at s.bound.now s.combos.now c.args.b.now)
    ∙ sym (ap length c.keys_at-2.ensures)
