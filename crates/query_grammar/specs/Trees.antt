-- The tree of a statement from its parts.
use Rattle.std.specs.Prelude.{Bool, List, [], Option, Some, None}
use Rattle.query_tree.specs.declared.name.NameTree.{NameTree}
use Rattle.query_tree.specs.declared.condition.CondTree.{CondTree}
use Rattle.query_tree.specs.declared.preference.PrefTree.{PrefTree}
use Rattle.query_tree.specs.declared.query.SelectTree.{SelectTree}
use Rattle.query_tree.specs.declared.query.FromTree.{FromTree}
use Rattle.query_tree.specs.declared.query.OrderTree.{OrderTree}
use Rattle.query_tree.specs.declared.query.QueryTree.{QueryTree}

-- what is preferred, by which groups, and what is then kept
abbrev pub Preferred : Type 0
Preferred = PrefTree × (List NameTree × Option CondTree)

abbrev pub query_tree : Bool
    × (SelectTree × (List FromTree × (Option CondTree × (Option Preferred × List OrderTree))))
    → QueryTree
query_tree (d, (s, (f, (w, (None, o))))) = record {
  distinct = d;
  select = s;
  from = f;
  filter = w;
  prefer = None;
  groups = [];
  only = None;
  order = o;
}
query_tree (d, (s, (f, (w, (Some p, o))))) = record {
  distinct = d;
  select = s;
  from = f;
  filter = w;
  prefer = Some p.0;
  groups = p.1.0;
  only = p.1.1;
  order = o;
}
