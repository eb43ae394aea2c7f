use Rattle.std.proofs.Common.{◌≡◌, ◌++◌, map}
use Rattle.std.specs.Vec.Iter.{into_iter_items}
use Rattle.sql_resolver.specs.declared.found.FoundOutput.{FoundOutput}
use Rattle.sql_resolver.proofs.query.items_of.Given as goal

abbrev pub invariant-loop-output : goal.invariant-loop-output
invariant-loop-output l = record {
  items : l.items.items ++ map (λ (output : FoundOutput). output.item) (into_iter_items l.output-iterator)
      ≡ map (λ (output : FoundOutput). output.item) l.fn.outputs.items;
  columns : l.columns ++ map (λ (output : FoundOutput). output.column) (into_iter_items l.output-iterator)
      ≡ map (λ (output : FoundOutput). output.column) l.fn.outputs.items;
}
