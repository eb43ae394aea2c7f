use Rattle.std.proofs.Common.{◌≡◌, take}
use Rattle.base_prefs.specs.Kind.{edges_of}
use Rattle.rewritten_query.specs.Rankings.{code_parts, lower_side, upper_side}
use Rattle.sql_rewriter.proofs.rankings.code_parts.Given as goal

abbrev pub invariant-loop-upper : goal.invariant-loop-upper
invariant-loop-upper l = l.parts ≡ code_parts (upper_side l.turned) (lower_side l.turned) (edges_of l.base) l.column 1 (take l.upper l.values)
