use Rattle.std.proofs.Common.{rules, not, ℤ, List, ◌++◌, sym, ap, ◌∙◌}
use Rattle.std.proofs.lemmas.Result.{on_ok_weaker}
use Rattle.pref_terms.specs.Terms.{keys_of}
use Rattle.pref_terms.specs.declared.term.Term.{Term}
use Rattle.plan_groups.specs.Groups.{seen_by}
use Rattle.plan_groups.specs.Ranks.{turned_keys}
use Rattle.plan_groups.proofs.KeyAdds.{turned-Dual}
use Rattle.pref_terms.specs.declared.term.Term.TheViews.{the_lemmas}
use Rattle.pref_terms.proofs.Standings.{LeavesFit-Leaf, LeavesFit-Pareto_first, LeavesFit-Pareto_second, LeavesFit-Prior_first, LeavesFit-Prior_second, LeavesFit-Dual}
use Rattle.plan_groups.proofs.leaf_keys.+push_keys.Goals as goal

pub leaf_key-requires : goal.leaf_key-requires
leaf_key-requires t c = LeavesFit-Leaf c.args.bound.now.tables.now c.args.bound.now.from.now c.args.bound.now.first c.args.combo.now.rows c.args.term.now c.in-Leaf.leaf c.in-Leaf.is c.requires

pub push_keys-requires : goal.push_keys-requires
push_keys-requires t c = (
  search (rules, the_lemmas),
  rw c.get.ensures (LeavesFit-Pareto_first c.args.bound.now.tables.now c.args.bound.now.from.now c.args.bound.now.first c.args.combo.now.rows c.args.term.now c.in-Pareto.first c.in-Pareto.second c.in-Pareto.is c.requires),
)

pub push_keys-requires-in-Pareto : goal.push_keys-requires-in-Pareto
push_keys-requires-in-Pareto t c = (
  search (rules, the_lemmas),
  rw c.get-in-Pareto.ensures (LeavesFit-Pareto_second c.args.bound.now.tables.now c.args.bound.now.from.now c.args.bound.now.first c.args.combo.now.rows c.args.term.now c.in-Pareto.first c.in-Pareto.second c.in-Pareto.is c.requires),
)

pub push_keys-requires-in-Prior : goal.push_keys-requires-in-Prior
push_keys-requires-in-Prior t c = (
  search (rules, the_lemmas),
  rw c.get-in-Prior.ensures (LeavesFit-Prior_first c.args.bound.now.tables.now c.args.bound.now.from.now c.args.bound.now.first c.args.combo.now.rows c.args.term.now c.in-Prior.first c.in-Prior.second c.in-Prior.is c.requires),
)

pub push_keys-requires-in-Prior-2 : goal.push_keys-requires-in-Prior-2
push_keys-requires-in-Prior-2 t c = (
  search (rules, the_lemmas),
  rw c.get-in-Prior-2.ensures (LeavesFit-Prior_second c.args.bound.now.tables.now c.args.bound.now.from.now c.args.bound.now.first c.args.combo.now.rows c.args.term.now c.in-Prior.first c.in-Prior.second c.in-Prior.is c.requires),
)

pub push_keys-requires-in-Dual : goal.push_keys-requires-in-Dual
push_keys-requires-in-Dual t c = (
  search (rules, the_lemmas),
  rw c.get-in-Dual.ensures (LeavesFit-Dual c.args.bound.now.tables.now c.args.bound.now.from.now c.args.bound.now.first c.args.combo.now.rows c.args.term.now c.in-Dual.inner c.in-Dual.is c.requires),
)

pub returns-in-Dual : goal.returns-in-Dual
returns-in-Dual t c =
    let x = seen_by c.args.bound.now c.args.combo.now in
    let old = c.args.keys.now.items in
    on_ok_weaker c.push_keys-in-Dual.result (λ is.
    is
    ∙ ap (λ (p : Term). old ++ turned_keys (not c.args.turned) (keys_of p x)) c.get-in-Dual.ensures
    ∙ ap (λ (ks : List ℤ). old ++ ks) (sym (turned-Dual c.args.turned c.args.term.now c.in-Dual.inner c.in-Dual.is x))) c.push_keys-in-Dual.ensures
