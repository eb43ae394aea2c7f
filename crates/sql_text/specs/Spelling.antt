-- The bytes of words that are written by a choice.
use Rattle.std.specs.Prelude.{ℕ, Bool, true, false, List, codes, map, ◌++◌}
use Rattle.std.specs.Option.{option_map}
use Rattle.sql_tree.specs.declared.tree.SqlQuery.{SqlQuery, out-SqlQuery}
use Rattle.sql_text.specs.Pieces.{bytes_of}
use Rattle.sql_text.specs.Text as spec

abbrev pub between_text : Bool → List ℕ
between_text true = codes " NOT BETWEEN "
between_text false = codes " BETWEEN "

abbrev pub in_text : Bool → List ℕ
in_text true = codes " NOT IN ("
in_text false = codes " IN ("

abbrev pub null_text : Bool → List ℕ
null_text true = codes " IS NOT NULL"
null_text false = codes " IS NULL"

abbrev pub select_text : Bool → List ℕ
select_text true = codes "SELECT DISTINCT "
select_text false = codes "SELECT "

abbrev pub sign_text : Bool → List ℕ
sign_text true = codes " - "
sign_text false = codes " + "

-- the bytes of a query whose own names are the first of names
abbrev pub select_bytes : SqlQuery → spec.Names → List ℕ
select_bytes query names =
    let q = out-SqlQuery query in
    select_text q.distinct
    ++ (bytes_of (spec.listed (map (λ item. (spec.item_pieces item).pieces names) q.items))
    ++ (codes " FROM "
    ++ (bytes_of (spec.listed (map (λ item. (spec.from_pieces item).pieces) q.from))
    ++ bytes_of (spec.filter_pieces (option_map spec.cond_pieces q.filter) names))))
