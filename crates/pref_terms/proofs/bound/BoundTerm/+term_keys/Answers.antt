use Rattle.std.proofs.Common.{rules, ap, sym, ◌∙◌}
use Rattle.pref_terms.specs.declared.term.Term.TheViews.{the_lemmas}
use Rattle.pref_terms.specs.declared.term.Term.{Term}
use Rattle.pref_terms.specs.Terms.{key_order, shown}
use Rattle.pref_terms.proofs.Standings.{first_decides, keys-Pareto, keys-Prior, keys-Dual, second_decides, LeavesFit-Leaf, LeavesFit-Pareto_first, LeavesFit-Pareto_second, LeavesFit-Prior_first, LeavesFit-Prior_second, LeavesFit-Dual}
use Rattle.pref_terms.proofs.bound.BoundTerm.+term_keys.Goals as goal

pub leaf_keys-requires-clause-a_fits : goal.leaf_keys-requires-clause-a_fits
leaf_keys-requires-clause-a_fits t c = LeavesFit-Leaf c.args.self.now.tables.now c.args.self.now.from.now c.args.self.now.first c.args.a.now.rows c.args.term.now c.in-Leaf.leaf c.in-Leaf.is c.requires.a_fits

pub leaf_keys-requires-clause-b_fits : goal.leaf_keys-requires-clause-b_fits
leaf_keys-requires-clause-b_fits t c = LeavesFit-Leaf c.args.self.now.tables.now c.args.self.now.from.now c.args.self.now.first c.args.b.now.rows c.args.term.now c.in-Leaf.leaf c.in-Leaf.is c.requires.b_fits

pub term_keys-by_first-requires : goal.term_keys-by_first-requires
term_keys-by_first-requires t c = (
  search (rules, the_lemmas),
  (
    rw c.get.ensures (LeavesFit-Pareto_first c.args.self.now.tables.now c.args.self.now.from.now c.args.self.now.first c.args.a.now.rows c.args.term.now c.in-Pareto.first c.in-Pareto.second c.in-Pareto.is c.requires.a_fits),
    rw c.get.ensures (LeavesFit-Pareto_first c.args.self.now.tables.now c.args.self.now.from.now c.args.self.now.first c.args.b.now.rows c.args.term.now c.in-Pareto.first c.in-Pareto.second c.in-Pareto.is c.requires.b_fits),
  ),
)

pub term_keys-requires : goal.term_keys-requires
term_keys-requires t c = (
  search (rules, the_lemmas),
  (
    rw c.get-in-Equal.ensures (LeavesFit-Pareto_second c.args.self.now.tables.now c.args.self.now.from.now c.args.self.now.first c.args.a.now.rows c.args.term.now c.in-Pareto.first c.in-Pareto.second c.in-Pareto.is c.requires.a_fits),
    rw c.get-in-Equal.ensures (LeavesFit-Pareto_second c.args.self.now.tables.now c.args.self.now.from.now c.args.self.now.first c.args.b.now.rows c.args.term.now c.in-Pareto.first c.in-Pareto.second c.in-Pareto.is c.requires.b_fits),
  ),
)

pub term_keys-leading-requires : goal.term_keys-leading-requires
term_keys-leading-requires t c = (
  search (rules, the_lemmas),
  (
    rw c.get-in-Prior.ensures (LeavesFit-Prior_first c.args.self.now.tables.now c.args.self.now.from.now c.args.self.now.first c.args.a.now.rows c.args.term.now c.in-Prior.first c.in-Prior.second c.in-Prior.is c.requires.a_fits),
    rw c.get-in-Prior.ensures (LeavesFit-Prior_first c.args.self.now.tables.now c.args.self.now.from.now c.args.self.now.first c.args.b.now.rows c.args.term.now c.in-Prior.first c.in-Prior.second c.in-Prior.is c.requires.b_fits),
  ),
)

pub term_keys-requires-in-Equal-leading : goal.term_keys-requires-in-Equal-leading
term_keys-requires-in-Equal-leading t c = (
  search (rules, the_lemmas),
  (
    rw c.get-in-Equal-leading.ensures (LeavesFit-Prior_second c.args.self.now.tables.now c.args.self.now.from.now c.args.self.now.first c.args.a.now.rows c.args.term.now c.in-Prior.first c.in-Prior.second c.in-Prior.is c.requires.a_fits),
    rw c.get-in-Equal-leading.ensures (LeavesFit-Prior_second c.args.self.now.tables.now c.args.self.now.from.now c.args.self.now.first c.args.b.now.rows c.args.term.now c.in-Prior.first c.in-Prior.second c.in-Prior.is c.requires.b_fits),
  ),
)

pub returns-in-Equal : goal.returns-in-Equal
returns-in-Equal t c =
    let y = shown c.args.self.now.tables.now c.args.self.now.from.now c.args.self.now.first c.args.a.now in
    let x = shown c.args.self.now.tables.now c.args.self.now.from.now c.args.self.now.first c.args.b.now in
    let first = c.term_keys-by_first.ensures ∙ ap (λ (u : Term). key_order u y x) c.get.ensures in
    let second = c.term_keys.ensures ∙ ap (λ (u : Term). key_order u y x) c.get-in-Equal.ensures in
    second ∙ second_decides (key_order c.in-Pareto.first y x) (key_order c.in-Pareto.second y x) (sym first ∙ c.in-Equal.is)
    ∙ sym (keys-Pareto c.args.term.now c.in-Pareto.first c.in-Pareto.second c.in-Pareto.is y x)

pub returns-in_default : goal.returns-in_default
returns-in_default t c =
    let y = shown c.args.self.now.tables.now c.args.self.now.from.now c.args.self.now.first c.args.a.now in
    let x = shown c.args.self.now.tables.now c.args.self.now.from.now c.args.self.now.first c.args.b.now in
    let first = c.term_keys-by_first.ensures ∙ ap (λ (u : Term). key_order u y x) c.get.ensures in
    first ∙ first_decides (key_order c.in-Pareto.first y x) (key_order c.in-Pareto.second y x) (λ equal. c.in_default.not-Equal (first ∙ equal))
    ∙ sym (keys-Pareto c.args.term.now c.in-Pareto.first c.in-Pareto.second c.in-Pareto.is y x)

pub returns-in-Equal-leading : goal.returns-in-Equal-leading
returns-in-Equal-leading t c =
    let y = shown c.args.self.now.tables.now c.args.self.now.from.now c.args.self.now.first c.args.a.now in
    let x = shown c.args.self.now.tables.now c.args.self.now.from.now c.args.self.now.first c.args.b.now in
    let first = c.term_keys-leading.ensures ∙ ap (λ (u : Term). key_order u y x) c.get-in-Prior.ensures in
    let second = c.term_keys-in-Equal-leading.ensures ∙ ap (λ (u : Term). key_order u y x) c.get-in-Equal-leading.ensures in
    second ∙ second_decides (key_order c.in-Prior.first y x) (key_order c.in-Prior.second y x) (sym first ∙ c.in-Equal-leading.is)
    ∙ sym (keys-Prior c.args.term.now c.in-Prior.first c.in-Prior.second c.in-Prior.is y x)

pub returns-in_default-leading : goal.returns-in_default-leading
returns-in_default-leading t c =
    let y = shown c.args.self.now.tables.now c.args.self.now.from.now c.args.self.now.first c.args.a.now in
    let x = shown c.args.self.now.tables.now c.args.self.now.from.now c.args.self.now.first c.args.b.now in
    let first = c.term_keys-leading.ensures ∙ ap (λ (u : Term). key_order u y x) c.get-in-Prior.ensures in
    first ∙ first_decides (key_order c.in-Prior.first y x) (key_order c.in-Prior.second y x) (λ equal. c.in_default-leading.not-Equal (first ∙ equal))
    ∙ sym (keys-Prior c.args.term.now c.in-Prior.first c.in-Prior.second c.in-Prior.is y x)

pub term_keys-requires-in-Dual : goal.term_keys-requires-in-Dual
term_keys-requires-in-Dual t c = (
  search (rules, the_lemmas),
  (
    rw c.get-in-Dual.ensures (LeavesFit-Dual c.args.self.now.tables.now c.args.self.now.from.now c.args.self.now.first c.args.b.now.rows c.args.term.now c.in-Dual.inner c.in-Dual.is c.requires.b_fits),
    rw c.get-in-Dual.ensures (LeavesFit-Dual c.args.self.now.tables.now c.args.self.now.from.now c.args.self.now.first c.args.a.now.rows c.args.term.now c.in-Dual.inner c.in-Dual.is c.requires.a_fits),
  ),
)

pub returns-in-Dual : goal.returns-in-Dual
returns-in-Dual t c =
    let y = shown c.args.self.now.tables.now c.args.self.now.from.now c.args.self.now.first c.args.a.now in
    let x = shown c.args.self.now.tables.now c.args.self.now.from.now c.args.self.now.first c.args.b.now in
    c.term_keys-in-Dual.ensures ∙ ap (λ (u : Term). key_order u x y) c.get-in-Dual.ensures
    ∙ sym (keys-Dual c.args.term.now c.in-Dual.inner c.in-Dual.is y x)
