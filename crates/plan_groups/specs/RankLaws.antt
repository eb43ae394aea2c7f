-- The rows of a list, by their places, keep the laws of a preference, whatever their groups.
use Rattle.std.proofs.Common.{[], List}
use Rattle.std.specs.Ordering.{on}
use Rattle.std.proofs.lemmas.List.Elements.{All-nil}
use Rattle.prefsql_tables.specs.declared.place.Combo.{Combo}
use Rattle.order_laws.specs.Lawful.{IsLawfulWhere, Valid}
use Rattle.order_laws.specs.CombineLaws.{lawful_on}
use Rattle.pref_terms.specs.BoundLaws.{bound_lawful}
use Rattle.pref_terms.specs.Terms.{key_order, order_of}
use Rattle.pref_terms.specs.declared.bound.BoundTerm.{BoundTerm}
use Rattle.plan_groups.specs.Groups.{IsRow, row_at, seen_at}

pub ranked_lawful : (bound : BoundTerm) (combos : List Combo)
    → IsLawfulWhere (IsRow bound combos)
    (on (seen_at bound combos) ((order_of bound.term.now).better))
    (on (seen_at bound combos) ((order_of bound.term.now).same))
    (on (seen_at bound combos) (key_order bound.term.now))
ranked_lawful bound combos = record {
  among_valid = lawful_on (λ (v : Valid (IsRow bound combos)). (
    row_at combos v.0,
    record { leaves = v.1.1.leaves; groups_in_sight = All-nil _ },
  ))
      (bound_lawful bound.tables.now bound.from.now bound.first bound.term.now []).among_valid;
}
