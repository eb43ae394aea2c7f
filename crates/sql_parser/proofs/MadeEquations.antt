-- What is said of each part of a tree, by what is said of the parts below it.
use Rattle.std.proofs.Common.{◌≡◌, ℕ, Bool, true, false, ◌&&◌, rules, Option, Some, None, List, map, sym, ap, ◌∙◌}
use Rattle.prefsql_values.specs.declared.value.CompareOp.{CompareOp}
use Rattle.query_tree.specs.declared.name.NameTree.{NameTree}
use Rattle.query_tree.specs.declared.name.LiteralTree.{LiteralTree}
use Rattle.query_tree.specs.declared.query.FromTree.{FromTree}
use Rattle.sql_tree.specs.WellFormed.{is_name}
use Rattle.sql_text.specs.declared.named.NamedCond.{NamedCond}
use Rattle.sql_text.specs.declared.named.NamedCond as named_cond
use Rattle.sql_text.specs.declared.named.NamedCond.TheOpen.{NamedCond-F, NamedFrom-F, NamedScalar-F, NamedSelect-F}
use Rattle.sql_text.specs.declared.named.NamedCond.TheFolds.{the_lemmas, fold-roll-NamedCond, fold-roll-NamedFrom, fold-roll-NamedScalar, fold-roll-NamedSelect, fold-roll-NamedQuery}
use Rattle.sql_text.specs.declared.named.NamedCond.TheViews as views
use Rattle.sql_text.specs.declared.named.NamedScalar.{NamedScalar}
use Rattle.sql_text.specs.declared.named.NamedScalar as named_scalar
use Rattle.sql_text.specs.declared.named.NamedSelect.{NamedSelect}
use Rattle.sql_text.specs.declared.named.NamedSelect as named_select
use Rattle.sql_text.specs.declared.named.NamedFrom.{NamedFrom}
use Rattle.sql_text.specs.declared.named.NamedFrom as named_from
use Rattle.sql_text.specs.declared.named.NamedItem.{NamedItem}
use Rattle.sql_text.specs.declared.named.NamedTerm.{NamedTerm}
use Rattle.sql_text.specs.declared.named.NamedWhen.{NamedWhen}
use Rattle.sql_text.specs.declared.named.NamedQuery.{NamedQuery}
use Rattle.sql_text.specs.Grammar.{query_tree}
use Rattle.sql_parser.specs.WellMade.{is_name_if, is_column, is_literal, all_of, MadeScalar, cond_step, from_step, scalar_step, select_step, item_step, query_step, term_step, when_step, is_term, first_is_plus, is_otherwise, is_filter, cond_made, from_made, scalar_made, select_made, item_made, query_made, term_made, when_made}

pub made-And : (parts : List NamedCond) → cond_made (named_cond.And parts) ≡ all_of 2 (map cond_made parts)
unfolding cond_made from_made scalar_made select_made item_made query_made term_made when_made
made-And parts = ap cond_made (sym (views.rolls-And parts)) ∙ fold-roll-NamedCond _ _ _ _ _ _ _ _ cond_step from_step scalar_step select_step item_step query_step term_step when_step (NamedCond-F.And parts)

pub made-Or : (parts : List NamedCond) → cond_made (named_cond.Or parts) ≡ all_of 2 (map cond_made parts)
unfolding cond_made from_made scalar_made select_made item_made query_made term_made when_made
made-Or parts = ap cond_made (sym (views.rolls-Or parts)) ∙ fold-roll-NamedCond _ _ _ _ _ _ _ _ cond_step from_step scalar_step select_step item_step query_step term_step when_step (NamedCond-F.Or parts)

pub made-Not : (part : NamedCond) → cond_made (named_cond.Not part) ≡ cond_made part
unfolding cond_made from_made scalar_made select_made item_made query_made term_made when_made
made-Not part = ap cond_made (sym (views.rolls-Not part)) ∙ fold-roll-NamedCond _ _ _ _ _ _ _ _ cond_step from_step scalar_step select_step item_step query_step term_step when_step (NamedCond-F.Not part)

pub made-Compare : (op : CompareOp) (a b : NamedScalar) → cond_made (named_cond.Compare op a b) ≡ ((scalar_made a).well && (scalar_made b).well)
unfolding cond_made from_made scalar_made select_made item_made query_made term_made when_made
made-Compare op a b = ap cond_made (sym (views.rolls-Compare op a b)) ∙ fold-roll-NamedCond _ _ _ _ _ _ _ _ cond_step from_step scalar_step select_step item_step query_step term_step when_step (NamedCond-F.Compare op a b)

pub made-Between : (negated : Bool) (a low high : NamedScalar) → cond_made (named_cond.Between negated a low high) ≡ ((scalar_made a).well && ((scalar_made low).well && (scalar_made high).well))
unfolding cond_made from_made scalar_made select_made item_made query_made term_made when_made
made-Between negated a low high = ap cond_made (sym (views.rolls-Between negated a low high)) ∙ fold-roll-NamedCond _ _ _ _ _ _ _ _ cond_step from_step scalar_step select_step item_step query_step term_step when_step (NamedCond-F.Between negated a low high)

pub made-OneOf : (negated : Bool) (a : NamedScalar) (list : List NamedScalar) → cond_made (named_cond.OneOf negated a list) ≡ ((scalar_made a).well && all_of 1 (map (λ (b : MadeScalar). b.well) (map scalar_made list)))
unfolding cond_made from_made scalar_made select_made item_made query_made term_made when_made
made-OneOf negated a list = ap cond_made (sym (views.rolls-OneOf negated a list)) ∙ fold-roll-NamedCond _ _ _ _ _ _ _ _ cond_step from_step scalar_step select_step item_step query_step term_step when_step (NamedCond-F.OneOf negated a list)

pub made-IsNull : (negated : Bool) (a : NamedScalar) → cond_made (named_cond.IsNull negated a) ≡ (scalar_made a).well
unfolding cond_made from_made scalar_made select_made item_made query_made term_made when_made
made-IsNull negated a = ap cond_made (sym (views.rolls-IsNull negated a)) ∙ fold-roll-NamedCond _ _ _ _ _ _ _ _ cond_step from_step scalar_step select_step item_step query_step term_step when_step (NamedCond-F.IsNull negated a)

pub made-Exists : (query : NamedQuery) → cond_made (named_cond.Exists query) ≡ query_made query
unfolding cond_made from_made scalar_made select_made item_made query_made term_made when_made
made-Exists query = ap cond_made (sym (views.rolls-Exists query)) ∙ fold-roll-NamedCond _ _ _ _ _ _ _ _ cond_step from_step scalar_step select_step item_step query_step term_step when_step (NamedCond-F.Exists query)

pub made-Column : (name : NameTree) → scalar_made (named_scalar.Column name) ≡ record { well = is_column name; is_sum = false }
unfolding cond_made from_made scalar_made select_made item_made query_made term_made when_made
made-Column name = ap scalar_made (sym (views.rolls-Column name)) ∙ fold-roll-NamedScalar _ _ _ _ _ _ _ _ cond_step from_step scalar_step select_step item_step query_step term_step when_step (NamedScalar-F.Column name)

pub made-Literal : (literal : LiteralTree) → scalar_made (named_scalar.Literal literal) ≡ record { well = is_literal literal.value; is_sum = false }
unfolding cond_made from_made scalar_made select_made item_made query_made term_made when_made
made-Literal literal = ap scalar_made (sym (views.rolls-Literal literal)) ∙ fold-roll-NamedScalar _ _ _ _ _ _ _ _ cond_step from_step scalar_step select_step item_step query_step term_step when_step (NamedScalar-F.Literal literal)

pub made-Sum : (terms : List NamedTerm) → scalar_made (named_scalar.Sum terms) ≡ record { well = first_is_plus (map term_made terms) && all_of 2 (map is_term (map term_made terms)); is_sum = true }
unfolding cond_made from_made scalar_made select_made item_made query_made term_made when_made
made-Sum terms = ap scalar_made (sym (views.rolls-Sum terms)) ∙ fold-roll-NamedScalar _ _ _ _ _ _ _ _ cond_step from_step scalar_step select_step item_step query_step term_step when_step (NamedScalar-F.Sum terms)

abbrev pub last_made : Option NamedScalar → Option MadeScalar
last_made None = None
last_made (Some value) = Some (scalar_made value)

pub made-Case : (at : ℕ) (whens : List NamedWhen) (last : Option NamedScalar) → scalar_made (named_scalar.Case at whens last) ≡ record { well = all_of 1 (map when_made whens) && is_otherwise (last_made last); is_sum = false }
unfolding cond_made from_made scalar_made select_made item_made query_made term_made when_made
made-Case at whens None = ap scalar_made (sym (views.rolls-Case at whens None)) ∙ fold-roll-NamedScalar _ _ _ _ _ _ _ _ cond_step from_step scalar_step select_step item_step query_step term_step when_step (NamedScalar-F.Case at whens None)
made-Case at whens (Some value) = ap scalar_made (sym (views.rolls-Case at whens (Some value))) ∙ fold-roll-NamedScalar _ _ _ _ _ _ _ _ cond_step from_step scalar_step select_step item_step query_step term_step when_step (NamedScalar-F.Case at whens (Some value))

pub term_made_is : (term : NamedTerm) → term_made term ≡ record { minus = term.minus; scalar = scalar_made term.scalar }
unfolding cond_made from_made scalar_made select_made item_made query_made term_made when_made
term_made_is term = search (rules, the_lemmas)

pub when_made_is : (when : NamedWhen) → when_made when ≡ (cond_made when.cond && (scalar_made when.value).well)
unfolding cond_made from_made scalar_made select_made item_made query_made term_made when_made
when_made_is when = search (rules, the_lemmas)

pub item_made_is : (item : NamedItem) → item_made item ≡ ((scalar_made item.value).well && is_name_if item.name)
unfolding cond_made from_made scalar_made select_made item_made query_made term_made when_made
item_made_is item = search (rules, the_lemmas)

pub made-Items : (items : List NamedItem) → select_made (named_select.Items items) ≡ all_of 1 (map item_made items)
unfolding cond_made from_made scalar_made select_made item_made query_made term_made when_made
made-Items items = ap select_made (sym (views.rolls-Items items)) ∙ fold-roll-NamedSelect _ _ _ _ _ _ _ _ cond_step from_step scalar_step select_step item_step query_step term_step when_step (NamedSelect-F.Items items)

pub made-Table : (tree : FromTree) → from_made (named_from.Table tree) ≡ (is_name tree.table && is_name_if tree.name)
unfolding cond_made from_made scalar_made select_made item_made query_made term_made when_made
made-Table tree = ap from_made (sym (views.rolls-Table tree)) ∙ fold-roll-NamedFrom _ _ _ _ _ _ _ _ cond_step from_step scalar_step select_step item_step query_step term_step when_step (NamedFrom-F.Table tree)

pub made-Derived : (query : NamedQuery) (name : List ℕ) (at : ℕ) → from_made (named_from.Derived query name at) ≡ (query_made query && is_name name)
unfolding cond_made from_made scalar_made select_made item_made query_made term_made when_made
made-Derived query name at = ap from_made (sym (views.rolls-Derived query name at)) ∙ fold-roll-NamedFrom _ _ _ _ _ _ _ _ cond_step from_step scalar_step select_step item_step query_step term_step when_step (NamedFrom-F.Derived query name at)

pub made-All : select_made named_select.All ≡ true
unfolding cond_made from_made scalar_made select_made item_made query_made term_made when_made
made-All = ap select_made (sym views.rolls-All) ∙ fold-roll-NamedSelect _ _ _ _ _ _ _ _ cond_step from_step scalar_step select_step item_step query_step term_step when_step NamedSelect-F.All

abbrev pub filter_made : Option NamedCond → Option Bool
filter_made None = None
filter_made (Some cond) = Some (cond_made cond)

pub query_made_is : (at : ℕ) (d : Bool) (s : NamedSelect) (fs : List NamedFrom) (o : Option NamedCond) → query_made (query_tree (at, (d, (s, (fs, o))))) ≡ (select_made s && (all_of 1 (map from_made fs) && is_filter (filter_made o)))
unfolding cond_made from_made scalar_made select_made item_made query_made term_made when_made
query_made_is at d s fs None = fold-roll-NamedQuery _ _ _ _ _ _ _ _ cond_step from_step scalar_step select_step item_step query_step term_step when_step (record { at = at; distinct = d; select = s; from = fs; filter = None })
query_made_is at d s fs (Some c) = fold-roll-NamedQuery _ _ _ _ _ _ _ _ cond_step from_step scalar_step select_step item_step query_step term_step when_step (record { at = at; distinct = d; select = s; from = fs; filter = Some c })
