use Rattle.std.proofs.Common.{List, ℕ, ◌≡◌, ◌++◌, ◌∷◌, [], cond, map, subst, sym, ap, ◌∙◌, codes}
use Rattle.std.specs.Prelude.{OnOk}
use Rattle.std.specs.Option.{option_map}
use Rattle.std.specs.String.{string_bytes}
use Rattle.prefsql_values.specs.Nesting.{in_and, in_or, wraps_and, wraps_or}
use Rattle.sql_tree.specs.declared.tree.SqlCond.{SqlCond}
use Rattle.sql_tree.specs.declared.tree.SqlWhen.{SqlWhen}
use Rattle.sql_text.specs.Levels.{names_of, standing_of}
use Rattle.sql_text.specs.Pieces.{bytes_of}
use Rattle.sql_text.specs.Text as spec
use Rattle.sql_text.proofs.Chained.{wrapped, four}
use Rattle.sql_text.proofs.Spelled.{bytes-And, bytes-Or, bytes-Case, bytes_query}
use Rattle.sql_text.specs.Spelling.{select_bytes}
use Rattle.sql_text.proofs.writer.+write.Goals as goal

pub cond-returns-in_ok-all_parts-in-And : goal.cond-returns-in_ok-all_parts-in-And
cond-returns-in_ok-all_parts-in-And t c =
    let names = names_of c.args.levels.now in
    let parts_of : List SqlCond → List ℕ = λ ps. bytes_of (spec.all_joined (map (λ part. spec.cond_pieces part names in_and) ps)) in
    let whole = bytes_of (spec.cond_pieces c.args.cond.now names (standing_of c.args.standing)) in
    let v = wraps_and (standing_of c.args.standing) in
    subst (λ z. OnOk c.close_if.result (string_bytes c.close_if.new.out ≡ z))
    (wrapped (string_bytes c.args.out.now) (string_bytes c.open_if.new.out) (string_bytes c.all_parts.new.out) (parts_of c.as_slice.result.now) whole c.wraps_and-wraps.result v
    c.in_ok-open_if-in-And.ensures c.in_ok-all_parts-in-And.ensures c.wraps_and-wraps.ensures
    (ap (λ z. bytes_of (spec.cond_pieces z names (standing_of c.args.standing))) c.in-And.is ∙ (bytes-And _ names (standing_of c.args.standing) ∙ ap (λ ps. cond v (40 ∷ []) [] ++ (parts_of ps ++ cond v (41 ∷ []) [])) (sym c.as_slice.ensures))))
    c.close_if.ensures

pub cond-returns-in_ok-any_parts-in-Or : goal.cond-returns-in_ok-any_parts-in-Or
cond-returns-in_ok-any_parts-in-Or t c =
    let names = names_of c.args.levels.now in
    let parts_of : List SqlCond → List ℕ = λ ps. bytes_of (spec.any_joined (map (λ part. spec.cond_pieces part names in_or) ps)) in
    let whole = bytes_of (spec.cond_pieces c.args.cond.now names (standing_of c.args.standing)) in
    let v = wraps_or (standing_of c.args.standing) in
    subst (λ z. OnOk c.close_if-in-Or.result (string_bytes c.close_if-in-Or.new.out ≡ z))
    (wrapped (string_bytes c.args.out.now) (string_bytes c.open_if-in-Or.new.out) (string_bytes c.any_parts.new.out) (parts_of c.as_slice-in-Or.result.now) whole c.wraps_or-wraps.result v
    c.in_ok-open_if-in-Or.ensures c.in_ok-any_parts-in-Or.ensures c.wraps_or-wraps.ensures
    (ap (λ z. bytes_of (spec.cond_pieces z names (standing_of c.args.standing))) c.in-Or.is ∙ (bytes-Or _ names (standing_of c.args.standing) ∙ ap (λ ps. cond v (40 ∷ []) [] ++ (parts_of ps ++ cond v (41 ∷ []) [])) (sym c.as_slice-in-Or.ensures))))
    c.close_if-in-Or.ensures

pub query-returns : goal.query-returns
query-returns t c =
    let old = string_bytes c.args.out.now in
    let outer = names_of c.args.levels.now in
    c.in_ok-select.ensures
    ∙ (ap (λ ns. old ++ select_bytes c.args.query.now ns) (ap names_of c.as_slice-2.ensures.value ∙ (c.in_ok-inner.ensures ∙ ap (λ f. map (λ item. (spec.from_pieces item).names) f ∷ outer) c.as_slice.ensures))
    ∙ ap (λ z. old ++ z) (sym (bytes_query c.args.query.now outer)))

pub scalar-returns-in_ok-push_str-in-Case-2 : goal.scalar-returns-in_ok-push_str-in-Case-2
scalar-returns-in_ok-push_str-in-Case-2 t c =
    let names = names_of c.args.levels.now in
    let whens_of : List SqlWhen → List ℕ = λ ws. bytes_of (spec.whens_joined (map (λ when. spec.when_pieces when names) ws)) in
    let rest = bytes_of (spec.else_pieces (option_map (λ value. spec.scalar_pieces value names) c.in-Case.last)) ++ codes " END" in
    four (string_bytes c.args.out.now) (string_bytes c.push_str.new.self) (string_bytes c.whens_joined.new.out) (string_bytes c.otherwise.new.out) (string_bytes c.push_str-in-Case.new.self)
    (codes "CASE ") (whens_of c.as_slice-in-Case.result.now) (bytes_of (spec.else_pieces (option_map (λ value. spec.scalar_pieces value names) c.in-Case.last))) (codes " END")
    (bytes_of (spec.scalar_pieces c.args.scalar.now names))
    c.in_ok-push_str-in-Case.ensures.bytes c.in_ok-whens_joined-in-Case.ensures c.in_ok-otherwise-in-Case.ensures c.in_ok-push_str-in-Case-2.ensures.bytes
    (ap (λ z. bytes_of (spec.scalar_pieces z names)) c.in-Case.is ∙ (bytes-Case _ _ names ∙ ap (λ ws. codes "CASE " ++ (whens_of ws ++ rest)) (sym c.as_slice-in-Case.ensures)))
