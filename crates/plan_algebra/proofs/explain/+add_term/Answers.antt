use Rattle.plan_algebra.proofs.TextReads.{five_more, three_more, term-Pareto, term-Prior, term-Dual}
use Rattle.plan_algebra.proofs.explain.+add_term.Goals as goal

pub returns-in_ok-push_str-in-Pareto-3 : goal.returns-in_ok-push_str-in-Pareto-3
returns-in_ok-push_str-in-Pareto-3 t c =
    five_more _ _ _ _ _ _ _ _ _ _ _ _ c.in_ok-push_str-in-Pareto.ensures.bytes (rw c.get.ensures at c.in_ok-add_term-in-Pareto.ensures)
    c.in_ok-push_str-in-Pareto-2.ensures.bytes (rw c.get-in-Pareto.ensures at c.in_ok-add_term-in-Pareto-2.ensures) c.in_ok-push_str-in-Pareto-3.ensures.bytes
    (term-Pareto c.args.term.now c.in-Pareto.first c.in-Pareto.second c.in-Pareto.is)

pub returns-in_ok-push_str-in-Prior-3 : goal.returns-in_ok-push_str-in-Prior-3
returns-in_ok-push_str-in-Prior-3 t c =
    five_more _ _ _ _ _ _ _ _ _ _ _ _ c.in_ok-push_str-in-Prior.ensures.bytes (rw c.get-in-Prior.ensures at c.in_ok-add_term-in-Prior.ensures)
    c.in_ok-push_str-in-Prior-2.ensures.bytes (rw c.get-in-Prior-2.ensures at c.in_ok-add_term-in-Prior-2.ensures) c.in_ok-push_str-in-Prior-3.ensures.bytes
    (term-Prior c.args.term.now c.in-Prior.first c.in-Prior.second c.in-Prior.is)

pub returns-in_ok-push_str-in-Dual-2 : goal.returns-in_ok-push_str-in-Dual-2
returns-in_ok-push_str-in-Dual-2 t c =
    three_more _ _ _ _ _ _ _ _ c.in_ok-push_str-in-Dual.ensures.bytes (rw c.get-in-Dual.ensures at c.in_ok-add_term-in-Dual.ensures)
    c.in_ok-push_str-in-Dual-2.ensures.bytes (term-Dual c.args.term.now c.in-Dual.inner c.in-Dual.is)
