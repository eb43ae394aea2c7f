-- A query that may be written over these tables, as it is judged, can be written so that its text gives its parts back.
use Rattle.std.proofs.Common.{◌≡◌, ℕ, ℤ, Bool, true, not, ◌&&◌, List, [], ◌∷◌, ◌++◌, map, length, refl, sym, ap, ◌∙◌, subst, arith, Option, Some, None}
use Rattle.std.specs.Prelude.{nat_le, nat_lt, slice_index_or}
use Rattle.std.specs.List.{list_all, flat_map}
use Rattle.std.specs.Option.{option_map}
use Rattle.std.proofs.lemmas.Bool.{and_parts, and_from, false≢true, le-leb}
use Rattle.std.proofs.lemmas.List.{length-map}
use Rattle.std.proofs.lemmas.List.Folds.{list_all-append}
use Rattle.prefsql_values.specs.declared.value.CompareOp.{CompareOp}
use Rattle.prefsql_values.specs.declared.value.Domain.{Domain}
use Rattle.prefsql_values.specs.declared.value.Domain.TheVariants.{Integer}
use Rattle.prefsql_tables.specs.declared.place.SortKey.{SortKey}
use Rattle.prefsql_tables.specs.Names.{names_of}
use Rattle.sql_tree.specs.Fits.{cond_tables, scalar_tables, source_tables, from_tables, item_tables, when_tables, term_tables, tables_of, if_written}
use Rattle.sql_tree.specs.Shown.{View, ShownItem, ShownColumn, table_columns}
use Rattle.sql_tree.specs.WellFormed.{JudgedScalar, JudgedWhen, JudgedTerm, JudgedItem, JudgedFrom, JudgedSource, JudgedQuery, agrees, domain_eq, is_term, is_bounded, is_when, is_otherwise, judged_sum, judged_at, result_shapes, first_is_plus, term_shapes, is_name, all_differ, filter_well}
use Rattle.sql_tree.specs.Shown as shown
use Rattle.sql_tree.specs.declared.tree.SqlCond.{SqlCond, roll-SqlCond, map-SqlCond}
use Rattle.sql_tree.specs.declared.tree.SqlCond.TheOpen.{SqlCond-F, SqlScalar-F, SqlSource-F, SqlQuery-F}
use Rattle.sql_tree.specs.declared.tree.SqlCond.TheFolds.{ind-SqlQuery}
use Rattle.sql_tree.specs.declared.tree.SqlScalar.{SqlScalar, roll-SqlScalar, map-SqlScalar}
use Rattle.sql_tree.specs.declared.tree.SqlPlace.{SqlPlace}
use Rattle.sql_tree.specs.declared.tree.SqlTable.{SqlTable}
use Rattle.sql_tree.specs.declared.tree.SqlSource.{SqlSource, roll-SqlSource, map-SqlSource}
use Rattle.sql_tree.specs.declared.tree.SqlFrom.{SqlFrom, roll-SqlFrom}
use Rattle.sql_tree.specs.declared.tree.SqlItem.{SqlItem, roll-SqlItem}
use Rattle.sql_tree.specs.declared.tree.SqlQuery.{SqlQuery, roll-SqlQuery, map-SqlQuery}
use Rattle.sql_tree.specs.declared.tree.SqlWhen.{SqlWhen, roll-SqlWhen}
use Rattle.sql_tree.specs.declared.tree.SumTerm.{SumTerm, roll-SumTerm}
use Rattle.sql_text.specs.Text.{Names, item_at}
use Rattle.sql_read_back.proofs.Found.{is_found}
use Rattle.sql_read_back.proofs.Writable.{FineScalar, FineTerm, FineItem, FineFrom, is_term as is_fine_term, are_terms, last_fine, filter_fine, fine_cond, fine_scalar, fine_source, fine_from, fine_item, fine_query, fine_when, fine_term}
use Rattle.sql_read_back.proofs.FineEquations.{fine-And, fine-Or, fine-Not, fine-Compare, fine-Between, fine-OneOf, fine-IsNull, fine-Exists, fine-Column, fine-Number, fine-Chars, fine-Sum, fine-Case, fine_term_is, fine_when_is, fine_item_is, fine_from_is, fine-Table, fine-Derived, fine_names, fine_query_is}
use Rattle.sql_read_back.proofs.Judged.{judged_cond, judged_scalar, judged_query, judged_source, judged_from, judged_item, judged_when, judged_term}
use Rattle.sql_read_back.proofs.JudgedEquations.{judged-And, judged-Or, judged-Not, judged-Compare, judged-Between, judged-OneOf, judged-IsNull, judged-Exists, judged-Column, judged-Number, judged-Chars, judged-Sum, judged-Case, judged_term_is, judged_when_is, judged_item_is, judged_from_is, judged-Table, judged-Derived, judged_parts, judged_query_is, own_items}
use Rattle.sql_tree.proofs.RolledTables.{tables-And, tables-Or, tables-Not, tables-Compare, tables-Between, tables-OneOf, tables-IsNull, tables-Exists, tables-Sum, tables-Case, tables-Table, tables-Derived, tables_from_is, tables_item_is, tables_when_is, tables_term_is, tables_query_is}
use Rattle.sql_read_back.proofs.NamesShown.{item_of, shown_names, written_items, fine_names_are, table_names}
use Rattle.sql_read_back.proofs.ToldColumns.{IsFineView, item_named, IsFound, told_found}

abbrev pub view_names : View → Names
view_names = map (map item_of)

one_or_more : {A : Type 0} (x : A) (xs : List A) → nat_le 1 (length (x ∷ xs)) ≡ true
one_or_more x xs = le-leb 1 (length (x ∷ xs)) (omega arith)

same_length : {X Y Z : Type 0} (f : X → Y) (g : X → Z) (xs : List X) → length (map f xs) ≡ length (map g xs)
same_length f g xs = length-map xs f ∙ sym (length-map xs g)

module _ (ok : SqlTable → Bool) where
  both_ok : (xs ys : List SqlTable) → list_all ok (xs ++ ys) ≡ true → (list_all ok xs ≡ true) × (list_all ok ys ≡ true)
  both_ok xs ys e = and_parts (list_all ok xs) (list_all ok ys) (sym (list_all-append ok xs ys) ∙ e)

  passed : {xs ys : List SqlTable} → xs ≡ ys → list_all ok xs ≡ true → list_all ok ys ≡ true
  passed is e = ap (list_all ok) (sym is) ∙ e

  abbrev PC : SqlCond → Type 0
  PC c = (view : View) → IsFineView view → judged_cond c view ≡ true → list_all ok (cond_tables c) ≡ true → (fine_cond ok) c (view_names view) ≡ true

  pub record ScalarTold (s : SqlScalar) : Type 0 where
    pub is_sum : (names : Names) (view : View) → ((fine_scalar ok) s names).is_sum ≡ (judged_scalar s view).is_sum
    pub fine : (view : View) → IsFineView view → (judged_scalar s view).well ≡ true → list_all ok (scalar_tables s) ≡ true → ((fine_scalar ok) s (view_names view)).fine ≡ true

  abbrev PS : SqlScalar → Type 0
  PS s = ScalarTold s

  pub record SourceTold (s : SqlSource) : Type 0 where
    pub columns : (judged_source s).well ≡ true → list_all is_name (shown_names (judged_source s).columns) ≡ true
    pub fine : (judged_source s).well ≡ true → list_all ok (source_tables s) ≡ true → ((fine_source ok) s).fine ≡ true

  abbrev PO : SqlSource → Type 0
  PO s = SourceTold s

  abbrev PF : SqlFrom → Type 0
  PF f = PO f.source

  abbrev PI : SqlItem → Type 0
  PI i = PS i.value

  pub record QueryTold (q : SqlQuery) : Type 0 where
    pub columns : (view : View) → (judged_query q view).well ≡ true → list_all is_name (shown_names (judged_query q view).columns) ≡ true
    pub fine : (view : View) → IsFineView view → (judged_query q view).well ≡ true → list_all ok (tables_of q) ≡ true → ((fine_query ok) q).fine (view_names view) ≡ true

  abbrev PQ : SqlQuery → Type 0
  PQ q = QueryTold q

  pub record WhenTold (w : SqlWhen) : Type 0 where
    pub cond : PC w.cond
    pub value : PS w.value

  abbrev PW : SqlWhen → Type 0
  PW w = WhenTold w

  abbrev PT : SumTerm → Type 0
  PT t = PS t.scalar

  abbrev C : Type 0
  C = (x : SqlCond) × PC x

  abbrev S : Type 0
  S = (x : SqlScalar) × PS x

  abbrev O : Type 0
  O = (x : SqlSource) × PO x

  abbrev F : Type 0
  F = (x : SqlFrom) × PF x

  abbrev I : Type 0
  I = (x : SqlItem) × PI x

  abbrev Q : Type 0
  Q = (x : SqlQuery) × PQ x

  abbrev W : Type 0
  W = (x : SqlWhen) × PW x

  abbrev T : Type 0
  T = (x : SumTerm) × PT x

  -- ---- conditions

  conds : (view : View) → IsFineView view → (parts : List C) → list_all (λ (part : View → Bool). part view) (map judged_cond (map (λ e. e.0) parts)) ≡ true → list_all ok (flat_map (λ below. below) (map cond_tables (map (λ e. e.0) parts))) ≡ true →
      list_all (λ (part : Names → Bool). part (view_names view)) (map (fine_cond ok) (map (λ e. e.0) parts)) ≡ true
  conds view fine [] well passes = refl
  conds view fine (p ∷ parts) well passes =
      let ps : List SqlCond = map (λ e. e.0) parts in
      let w = and_parts (judged_cond p.0 view) (list_all (λ (part : View → Bool). part view) (map judged_cond ps)) well in
      let t = both_ok (cond_tables p.0) (flat_map (λ below. below) (map cond_tables ps)) passes in
      and_from ((fine_cond ok) p.0 (view_names view)) (list_all (λ (part : Names → Bool). part (view_names view)) (map (fine_cond ok) ps)) (p.1 view fine w.0 t.0) (conds view fine parts w.1 t.1)

  two_still : (ps : List SqlCond) → nat_le 2 (length (map judged_cond ps)) ≡ true → nat_le 2 (length (map (fine_cond ok) ps)) ≡ true
  two_still ps e = ap (nat_le 2) (same_length (fine_cond ok) judged_cond ps) ∙ e

  chain : (view : View) → IsFineView view → (parts : List C) → nat_le 2 (length (map judged_cond (map (λ e. e.0) parts))) && list_all (λ (part : View → Bool). part view) (map judged_cond (map (λ e. e.0) parts)) ≡ true →
      list_all ok (flat_map (λ below. below) (map cond_tables (map (λ e. e.0) parts))) ≡ true →
      nat_le 2 (length (map (fine_cond ok) (map (λ e. e.0) parts))) && list_all (λ (part : Names → Bool). part (view_names view)) (map (fine_cond ok) (map (λ e. e.0) parts)) ≡ true
  chain view fine parts well passes =
      let ps : List SqlCond = map (λ e. e.0) parts in
      let w = and_parts (nat_le 2 (length (map judged_cond ps))) (list_all (λ (part : View → Bool). part view) (map judged_cond ps)) well in
      and_from (nat_le 2 (length (map (fine_cond ok) ps))) (list_all (λ (part : Names → Bool). part (view_names view)) (map (fine_cond ok) ps)) (two_still ps w.0) (conds view fine parts w.1 passes)

  and_case : (parts : List C) → PC (roll-SqlCond (SqlCond-F.And (map (λ e. e.0) parts)))
  and_case parts view fine well passes =
      let ps : List SqlCond = map (λ e. e.0) parts in
      fine-And ok ps (view_names view) ∙ chain view fine parts (sym (judged-And ps view) ∙ well) (passed (tables-And ps) passes)

  or_case : (parts : List C) → PC (roll-SqlCond (SqlCond-F.Or (map (λ e. e.0) parts)))
  or_case parts view fine well passes =
      let ps : List SqlCond = map (λ e. e.0) parts in
      fine-Or ok ps (view_names view) ∙ chain view fine parts (sym (judged-Or ps view) ∙ well) (passed (tables-Or ps) passes)

  not_case : (part : C) → PC (roll-SqlCond (SqlCond-F.Not part.0))
  not_case part view fine well passes =
      fine-Not ok part.0 (view_names view) ∙ part.1 view fine (sym (judged-Not part.0 view) ∙ well) (passed (tables-Not part.0) passes)

  -- the other of two that agree
  other_well : (view : View) (a b : SqlScalar) → agrees (judged_scalar a view) (judged_scalar b view) ≡ true → (judged_scalar b view).well ≡ true
  other_well view a b e = (and_parts (judged_scalar b view).well (domain_eq (judged_scalar a view).shape.domain (judged_scalar b view).shape.domain) e).0

  compare_case : (op : CompareOp) (a b : S) → PC (roll-SqlCond (SqlCond-F.Compare op a.0 b.0))
  compare_case op a b view fine well passes =
      let w = and_parts (judged_scalar a.0 view).well (agrees (judged_scalar a.0 view) (judged_scalar b.0 view)) (sym (judged-Compare op a.0 b.0 view) ∙ well) in
      let t = both_ok (scalar_tables a.0) (scalar_tables b.0) (passed (tables-Compare op a.0 b.0) passes) in
      fine-Compare ok op a.0 b.0 (view_names view)
      ∙ and_from ((fine_scalar ok) a.0 (view_names view)).fine ((fine_scalar ok) b.0 (view_names view)).fine (a.1.fine view fine w.0 t.0) (b.1.fine view fine (other_well view a.0 b.0 w.1) t.1)

  between_case : (negated : Bool) (a low high : S) → PC (roll-SqlCond (SqlCond-F.Between negated a.0 low.0 high.0))
  between_case negated a low high view fine well passes =
      let names = view_names view in
      let w = and_parts ((judged_scalar a.0 view).well && agrees (judged_scalar a.0 view) (judged_scalar low.0 view)) (agrees (judged_scalar a.0 view) (judged_scalar high.0 view)) (sym (judged-Between negated a.0 low.0 high.0 view) ∙ well) in
      let v = and_parts (judged_scalar a.0 view).well (agrees (judged_scalar a.0 view) (judged_scalar low.0 view)) w.0 in
      let t = both_ok (scalar_tables a.0 ++ scalar_tables low.0) (scalar_tables high.0) (passed (tables-Between negated a.0 low.0 high.0) passes) in
      let u = both_ok (scalar_tables a.0) (scalar_tables low.0) t.0 in
      fine-Between ok negated a.0 low.0 high.0 names
      ∙ and_from ((fine_scalar ok) a.0 names).fine (((fine_scalar ok) low.0 names).fine && ((fine_scalar ok) high.0 names).fine) (a.1.fine view fine v.0 u.0)
      (and_from ((fine_scalar ok) low.0 names).fine ((fine_scalar ok) high.0 names).fine (low.1.fine view fine (other_well view a.0 low.0 v.1) u.1) (high.1.fine view fine (other_well view a.0 high.0 w.1) t.1))

  listed_fine : (view : View) → IsFineView view → (a : SqlScalar) (list : List S) → list_all (λ (b : View → JudgedScalar). agrees (judged_scalar a view) (b view)) (map judged_scalar (map (λ e. e.0) list)) ≡ true →
      list_all ok (flat_map (λ below. below) (map scalar_tables (map (λ e. e.0) list))) ≡ true → list_all (λ (b : Names → FineScalar). (b (view_names view)).fine) (map (fine_scalar ok) (map (λ e. e.0) list)) ≡ true
  listed_fine view fine a [] well passes = refl
  listed_fine view fine a (b ∷ list) well passes =
      let bs : List SqlScalar = map (λ e. e.0) list in
      let w = and_parts (agrees (judged_scalar a view) (judged_scalar b.0 view)) (list_all (λ (b : View → JudgedScalar). agrees (judged_scalar a view) (b view)) (map judged_scalar bs)) well in
      let t = both_ok (scalar_tables b.0) (flat_map (λ below. below) (map scalar_tables bs)) passes in
      and_from ((fine_scalar ok) b.0 (view_names view)).fine (list_all (λ (b : Names → FineScalar). (b (view_names view)).fine) (map (fine_scalar ok) bs)) (b.1.fine view fine (other_well view a b.0 w.0) t.0) (listed_fine view fine a list w.1 t.1)

  member_case : (negated : Bool) (a : S) (list : List S) → PC (roll-SqlCond (SqlCond-F.OneOf negated a.0 (map (λ e. e.0) list)))
  member_case negated a list view fine well passes =
      let names = view_names view in
      let bs : List SqlScalar = map (λ e. e.0) list in
      let w = and_parts ((judged_scalar a.0 view).well && nat_le 1 (length (map judged_scalar bs))) (list_all (λ (b : View → JudgedScalar). agrees (judged_scalar a.0 view) (b view)) (map judged_scalar bs)) (sym (judged-OneOf negated a.0 bs view) ∙ well) in
      let v = and_parts (judged_scalar a.0 view).well (nat_le 1 (length (map judged_scalar bs))) w.0 in
      let t = both_ok (scalar_tables a.0) (flat_map (λ below. below) (map scalar_tables bs)) (passed (tables-OneOf negated a.0 bs) passes) in
      let some : nat_le 1 (length (map (fine_scalar ok) bs)) ≡ true = ap (nat_le 1) (same_length (fine_scalar ok) judged_scalar bs) ∙ v.1 in
      let all = listed_fine view fine a.0 list w.1 t.1 in
      let each = list_all (λ (b : Names → FineScalar). (b names).fine) (map (fine_scalar ok) bs) in
      fine-OneOf ok negated a.0 bs names
      ∙ and_from ((fine_scalar ok) a.0 names).fine (nat_le 1 (length (map (fine_scalar ok) bs)) && each) (a.1.fine view fine v.0 t.0) (and_from (nat_le 1 (length (map (fine_scalar ok) bs))) each some all)

  null_case : (negated : Bool) (a : S) → PC (roll-SqlCond (SqlCond-F.IsNull negated a.0))
  null_case negated a view fine well passes =
      fine-IsNull ok negated a.0 (view_names view) ∙ a.1.fine view fine (sym (judged-IsNull negated a.0 view) ∙ well) (passed (tables-IsNull negated a.0) passes)

  exists_case : (q : Q) → PC (roll-SqlCond (SqlCond-F.Exists q.0))
  exists_case q view fine well passes =
      let w = and_parts (judged_query q.0 view).well (not (judged_query q.0 view).has_order) (sym (judged-Exists q.0 view) ∙ well) in
      fine-Exists ok q.0 (view_names view) ∙ q.1.fine view fine w.0 (passed (tables-Exists q.0) passes)

  -- ---- scalars

  column_case : (place : SqlPlace) → PS (roll-SqlScalar (SqlScalar-F.Column place))
  column_case place = record {
    is_sum = (λ names view. ap (λ (f : FineScalar). f.is_sum) (fine-Column ok place names) ∙ ap (λ (k : JudgedScalar). k.is_sum) (sym (judged-Column place view)));
    fine = (λ view fine well passes.
        let names = view_names view in
        let f : IsFound names place = told_found view place fine (sym (ap (λ (k : JudgedScalar). k.well) (judged-Column place view)) ∙ well) in
        let item = is_name (item_at names place).name in
        let column = is_name (slice_index_or (item_at names place).columns place.column []) in
        ap (λ (f : FineScalar). f.fine) (fine-Column ok place names) ∙ and_from (is_found names place) (item && column) f.found (and_from item column f.item f.column));
  }

  number_case : (n : ℤ) → PS (roll-SqlScalar (SqlScalar-F.Number n))
  number_case n = record {
    is_sum = (λ names view. ap (λ (f : FineScalar). f.is_sum) (fine-Number ok n names) ∙ ap (λ (k : JudgedScalar). k.is_sum) (sym (judged-Number n view)));
    fine = (λ view fine well passes. ap (λ (f : FineScalar). f.fine) (fine-Number ok n (view_names view)) ∙ (sym (ap (λ (k : JudgedScalar). k.well) (judged-Number n view)) ∙ well));
  }

  chars_case : (t : List ℕ) → PS (roll-SqlScalar (SqlScalar-F.Chars t))
  chars_case t = record {
    is_sum = (λ names view. ap (λ (f : FineScalar). f.is_sum) (fine-Chars ok t names) ∙ ap (λ (k : JudgedScalar). k.is_sum) (sym (judged-Chars t view)));
    fine = (λ view fine well passes. ap (λ (f : FineScalar). f.fine) (fine-Chars ok t (view_names view)));
  }

  abbrev judged_terms : View → List SumTerm → List JudgedTerm
  judged_terms view xs = map (λ (term : View → JudgedTerm). term view) (map judged_term xs)

  abbrev fine_terms : Names → List SumTerm → List FineTerm
  fine_terms names xs = map (λ (term : Names → FineTerm). term names) (map (fine_term ok) xs)

  terms_told : (view : View) → IsFineView view → (ts : List T) → list_all is_term (judged_terms view (map (λ e. e.0) ts)) ≡ true → list_all ok (flat_map (λ below. below) (map term_tables (map (λ e. e.0) ts))) ≡ true →
      list_all is_fine_term (fine_terms (view_names view) (map (λ e. e.0) ts)) ≡ true
  terms_told view fine [] well passes = refl
  terms_told view fine (t ∷ ts) well passes =
      let names = view_names view in
      let xs : List SumTerm = map (λ e. e.0) ts in
      let w = and_parts (is_term (judged_term t.0 view)) (list_all is_term (judged_terms view xs)) well in
      let p = both_ok (term_tables t.0) (flat_map (λ below. below) (map term_tables xs)) passes in
      let s = judged_scalar t.0.scalar view in
      let one : (s.well && domain_eq s.shape.domain Integer) && not s.is_sum ≡ true = sym (ap is_term (judged_term_is t.0 view)) ∙ w.0 in
      let v = and_parts (s.well && domain_eq s.shape.domain Integer) (not s.is_sum) one in
      let u = and_parts s.well (domain_eq s.shape.domain Integer) v.0 in
      let good = t.1.fine view fine u.0 (passed (tables_term_is t.0) p.0) in
      let plain : not ((fine_scalar ok) t.0.scalar names).is_sum ≡ true = ap not (t.1.is_sum names view) ∙ v.1 in
      and_from (is_fine_term ((fine_term ok) t.0 names)) (list_all is_fine_term (fine_terms names xs))
      (ap is_fine_term (fine_term_is ok t.0 names) ∙ and_from ((fine_scalar ok) t.0.scalar names).fine (not ((fine_scalar ok) t.0.scalar names).is_sum) good plain)
      (terms_told view fine ts w.1 p.1)

  sum_fine : (ts : List T) (view : View) → IsFineView view → (judged_sum (judged_terms view (map (λ e. e.0) ts))).well ≡ true → list_all ok (flat_map (λ below. below) (map term_tables (map (λ e. e.0) ts))) ≡ true →
      are_terms (fine_terms (view_names view) (map (λ e. e.0) ts)) ≡ true
  sum_fine [] view fine well passes = absurd (false≢true well)
  sum_fine (t ∷ []) view fine well passes = absurd (false≢true well)
  sum_fine (t ∷ (u ∷ ts)) view fine well passes =
      let names = view_names view in
      let xs : List SumTerm = t.0 ∷ (u.0 ∷ map (λ e. e.0) ts) in
      let js = judged_terms view xs in
      let shape : shown.Shape = record { domain = Integer; bound = shown.sum_bound (term_shapes js) } in
      let p1 = and_parts (nat_le 2 (length js) && list_all is_term js && first_is_plus js) (is_bounded shape) well in
      let p2 = and_parts (nat_le 2 (length js) && list_all is_term js) (first_is_plus js) p1.0 in
      let p3 = and_parts (nat_le 2 (length js)) (list_all is_term js) p2.0 in
      let plus : not ((fine_term ok) t.0 names).minus ≡ true =
      ap (λ (f : FineTerm). not f.minus) (fine_term_is ok t.0 names) ∙ (ap (λ (k : JudgedTerm). not k.minus) (sym (judged_term_is t.0 view)) ∙ p2.1) in
      let more = fine_terms names (u.0 ∷ map (λ e. e.0) ts) in
      let all = list_all is_fine_term (fine_terms names xs) in
      and_from (not ((fine_term ok) t.0 names).minus) (nat_le 1 (length more) && all) plus
      (and_from (nat_le 1 (length more)) all (one_or_more ((fine_term ok) u.0 names) (fine_terms names (map (λ e. e.0) ts))) (terms_told view fine (t ∷ (u ∷ ts)) p3.1 passes))

  sum_case : (ts : List T) → PS (roll-SqlScalar (SqlScalar-F.Sum (map (λ e. e.0) ts)))
  sum_case ts =
      let xs : List SumTerm = map (λ e. e.0) ts in
      record {
        is_sum = (λ names view. ap (λ (f : FineScalar). f.is_sum) (fine-Sum ok xs names) ∙ ap (λ (k : JudgedScalar). k.is_sum) (sym (judged-Sum xs view)));
        fine = (λ view fine well passes. ap (λ (f : FineScalar). f.fine) (fine-Sum ok xs (view_names view)) ∙ sum_fine ts view fine (sym (ap (λ (k : JudgedScalar). k.well) (judged-Sum xs view)) ∙ well) (passed (tables-Sum xs) passes));
      }

  abbrev judged_whens : View → List SqlWhen → List JudgedWhen
  judged_whens view xs = map (λ (w : View → JudgedWhen). w view) (map judged_when xs)

  whens_told : (view : View) → IsFineView view → (d : Domain) (ws : List W) → list_all (is_when d) (judged_whens view (map (λ e. e.0) ws)) ≡ true → list_all ok (flat_map (λ below. below) (map when_tables (map (λ e. e.0) ws))) ≡ true →
      list_all (λ (when : Names → Bool). when (view_names view)) (map (fine_when ok) (map (λ e. e.0) ws)) ≡ true
  whens_told view fine d [] well passes = refl
  whens_told view fine d (w ∷ ws) well passes =
      let names = view_names view in
      let xs : List SqlWhen = map (λ e. e.0) ws in
      let p = and_parts (is_when d (judged_when w.0 view)) (list_all (is_when d) (judged_whens view xs)) well in
      let t = both_ok (when_tables w.0) (flat_map (λ below. below) (map when_tables xs)) passes in
      let u = both_ok (cond_tables w.0.cond) (scalar_tables w.0.value) (passed (tables_when_is w.0) t.0) in
      let c = judged_cond w.0.cond view in
      let s = judged_scalar w.0.value view in
      let one : (c && s.well) && domain_eq d s.shape.domain ≡ true = sym (ap (is_when d) (judged_when_is w.0 view)) ∙ p.0 in
      let q = and_parts (c && s.well) (domain_eq d s.shape.domain) one in
      let r = and_parts c s.well q.0 in
      and_from ((fine_when ok) w.0 names) (list_all (λ (when : Names → Bool). when names) (map (fine_when ok) xs))
      (fine_when_is ok w.0 names ∙ and_from ((fine_cond ok) w.0.cond names) ((fine_scalar ok) w.0.value names).fine (w.1.cond view fine r.0 u.0) (w.1.value.fine view fine r.1 u.1))
      (whens_told view fine d ws p.1 t.1)

  else_told : (view : View) → IsFineView view → (d : Domain) (last : Option S) → is_otherwise d (judged_at view (option_map judged_scalar (option_map (λ e. e.0) last))) ≡ true → list_all ok (if_written (option_map scalar_tables (option_map (λ e. e.0) last))) ≡ true →
      last_fine (option_map (fine_scalar ok) (option_map (λ e. e.0) last)) (view_names view) ≡ true
  else_told view fine d None well passes = refl
  else_told view fine d (Some v) well passes = v.1.fine view fine (and_parts (judged_scalar v.0 view).well (domain_eq d (judged_scalar v.0 view).shape.domain) well).0 passes

  choice_case : (ws : List W) (last : Option S) → PS (roll-SqlScalar (SqlScalar-F.Case (map (λ e. e.0) ws) (option_map (λ e. e.0) last)))
  choice_case ws last =
      let xs : List SqlWhen = map (λ e. e.0) ws in
      let l : Option SqlScalar = option_map (λ e. e.0) last in
      record {
        is_sum = (λ names view. ap (λ (f : FineScalar). f.is_sum) (fine-Case ok xs l names) ∙ ap (λ (k : JudgedScalar). k.is_sum) (sym (judged-Case xs l view)));
        fine = (λ view fine well passes.
            let names = view_names view in
            let js = judged_whens view xs in
            let o = judged_at view (option_map judged_scalar l) in
            let d = (shown.choice_shape (result_shapes js o)).domain in
            let e : (nat_le 1 (length js) && list_all (is_when d) js) && is_otherwise d o ≡ true = sym (ap (λ (k : JudgedScalar). k.well) (judged-Case xs l view)) ∙ well in
            let p = and_parts (nat_le 1 (length js) && list_all (is_when d) js) (is_otherwise d o) e in
            let q = and_parts (nat_le 1 (length js)) (list_all (is_when d) js) p.0 in
            let t = both_ok (flat_map (λ below. below) (map when_tables xs)) (if_written (option_map scalar_tables l)) (passed (tables-Case xs l) passes) in
            let same : length (map (fine_when ok) xs) ≡ length js = same_length (fine_when ok) judged_when xs ∙ sym (length-map (map judged_when xs) (λ (w : View → JudgedWhen). w view)) in
            let some : nat_le 1 (length (map (fine_when ok) xs)) ≡ true = ap (nat_le 1) same ∙ q.0 in
            let all = list_all (λ (when : Names → Bool). when names) (map (fine_when ok) xs) in
            let end = last_fine (option_map (fine_scalar ok) l) names in
            ap (λ (f : FineScalar). f.fine) (fine-Case ok xs l names)
            ∙ and_from (nat_le 1 (length (map (fine_when ok) xs))) (all && end) some (and_from all end (whens_told view fine d ws q.1 t.0) (else_told view fine d last p.1 t.1)));
      }

  -- ---- FROM items and queries

  table_case : (t : SqlTable) → PO (roll-SqlSource (SqlSource-F.Table t))
  table_case t =
      let columns = t.schema.columns in
      let parts : (judged_source (roll-SqlSource (SqlSource-F.Table t))).well ≡ true → (is_name t.name && list_all is_name (names_of columns) ≡ true) × (all_differ (names_of columns) ≡ true) =
      λ well. and_parts (is_name t.name && list_all is_name (names_of columns)) (all_differ (names_of columns)) (sym (ap (λ (k : JudgedSource). k.well) (judged-Table t)) ∙ well) in
      record {
        columns = (λ well.
            let p = and_parts (is_name t.name) (list_all is_name (names_of columns)) (parts well).0 in
            ap (λ (k : JudgedSource). list_all is_name (shown_names k.columns)) (judged-Table t) ∙ (ap (list_all is_name) (table_names columns) ∙ p.1));
        fine = (λ well passes.
            let p = and_parts (is_name t.name) (list_all is_name (names_of columns)) (parts well).0 in
            let here = and_parts (ok t) true (passed (tables-Table t) passes) in
            fine-Table ok t ∙ and_from (ok t) (is_name t.name) here.0 p.0);
      }

  derived_case : (q : Q) → PO (roll-SqlSource (SqlSource-F.Derived q.0))
  derived_case q =
      let good : (judged_source (roll-SqlSource (SqlSource-F.Derived q.0))).well ≡ true → (judged_query q.0 []).well ≡ true =
      λ well. (and_parts (judged_query q.0 []).well (not (judged_query q.0 []).has_order) (sym (ap (λ (k : JudgedSource). k.well) (judged-Derived q.0)) ∙ well)).0 in
      record {
        columns = (λ well. ap (λ (k : JudgedSource). list_all is_name (shown_names k.columns)) (judged-Derived q.0) ∙ q.1.columns [] (good well));
        fine = (λ well passes. fine-Derived ok q.0 ∙ q.1.fine [] tt (good well) (passed (tables-Derived q.0) passes));
      }

  froms_named : (fs : List F) → list_all (λ (f : JudgedFrom). f.well) (map judged_from (map (λ e. e.0) fs)) ≡ true → list_all item_named (own_items (map (λ e. e.0) fs)) ≡ true
  froms_named [] well = refl
  froms_named (f ∷ fs) well =
      let gs : List SqlFrom = map (λ e. e.0) fs in
      let p = and_parts (judged_from f.0).well (list_all (λ (f : JudgedFrom). f.well) (map judged_from gs)) well in
      let q = and_parts (is_name f.0.name) (judged_source f.0.source).well (sym (ap (λ (k : JudgedFrom). k.well) (judged_from_is f.0)) ∙ p.0) in
      and_from (item_named (judged_from f.0).item) (list_all item_named (own_items gs))
      (ap (λ (k : JudgedFrom). item_named k.item) (judged_from_is f.0) ∙ and_from (is_name f.0.name) (list_all is_name (shown_names (judged_source f.0.source).columns)) q.0 (f.1.columns q.1))
      (froms_named fs p.1)

  froms_told : (fs : List F) → list_all (λ (f : JudgedFrom). f.well) (map judged_from (map (λ e. e.0) fs)) ≡ true → list_all ok (flat_map (λ below. below) (map from_tables (map (λ e. e.0) fs))) ≡ true →
      list_all (λ (f : FineFrom). f.fine) (map (fine_from ok) (map (λ e. e.0) fs)) ≡ true
  froms_told [] well passes = refl
  froms_told (f ∷ fs) well passes =
      let gs : List SqlFrom = map (λ e. e.0) fs in
      let p = and_parts (judged_from f.0).well (list_all (λ (f : JudgedFrom). f.well) (map judged_from gs)) well in
      let q = and_parts (is_name f.0.name) (judged_source f.0.source).well (sym (ap (λ (k : JudgedFrom). k.well) (judged_from_is f.0)) ∙ p.0) in
      let t = both_ok (from_tables f.0) (flat_map (λ below. below) (map from_tables gs)) passes in
      and_from ((fine_from ok) f.0).fine (list_all (λ (f : FineFrom). f.fine) (map (fine_from ok) gs))
      (fine_from_is ok f.0 ∙ and_from (is_name f.0.name) ((fine_source ok) f.0.source).fine q.0 (f.1.fine q.1 (passed (tables_from_is f.0) t.0)))
      (froms_told fs p.1 t.1)

  abbrev judged_items : View → List SqlItem → List JudgedItem
  judged_items view xs = map (λ (item : View → JudgedItem). item view) (map judged_item xs)

  items_named : (view : View) (is : List SqlItem) → list_all (λ (item : JudgedItem). item.well) (judged_items view is) ≡ true → list_all is_name (shown_names (map (λ (item : JudgedItem). item.column) (judged_items view is))) ≡ true
  items_named view [] well = refl
  items_named view (i ∷ is) well =
      let p = and_parts (judged_item i view).well (list_all (λ (item : JudgedItem). item.well) (judged_items view is)) well in
      let q = and_parts (is_name i.name) (judged_scalar i.value view).well (sym (ap (λ (k : JudgedItem). k.well) (judged_item_is i view)) ∙ p.0) in
      and_from (is_name (judged_item i view).column.name) (list_all is_name (shown_names (map (λ (item : JudgedItem). item.column) (judged_items view is))))
      (ap (λ (k : JudgedItem). is_name k.column.name) (judged_item_is i view) ∙ q.0) (items_named view is p.1)

  items_told : (view : View) → IsFineView view → (is : List I) → list_all (λ (item : JudgedItem). item.well) (judged_items view (map (λ e. e.0) is)) ≡ true → list_all ok (flat_map (λ below. below) (map item_tables (map (λ e. e.0) is))) ≡ true →
      list_all (λ (item : FineItem). item.fine (view_names view)) (map (fine_item ok) (map (λ e. e.0) is)) ≡ true
  items_told view fine [] well passes = refl
  items_told view fine (i ∷ is) well passes =
      let names = view_names view in
      let js : List SqlItem = map (λ e. e.0) is in
      let p = and_parts (judged_item i.0 view).well (list_all (λ (item : JudgedItem). item.well) (judged_items view js)) well in
      let q = and_parts (is_name i.0.name) (judged_scalar i.0.value view).well (sym (ap (λ (k : JudgedItem). k.well) (judged_item_is i.0 view)) ∙ p.0) in
      let t = both_ok (item_tables i.0) (flat_map (λ below. below) (map item_tables js)) passes in
      and_from (((fine_item ok) i.0).fine names) (list_all (λ (item : FineItem). item.fine names) (map (fine_item ok) js))
      (fine_item_is ok i.0 names ∙ and_from (is_name i.0.name) ((fine_scalar ok) i.0.value names).fine q.0 (i.1.fine view fine q.1 (passed (tables_item_is i.0) t.0)))
      (items_told view fine is p.1 t.1)

  filter_told : (view : View) → IsFineView view → (c : Option C) → filter_well (option_map judged_cond (option_map (λ e. e.0) c)) view ≡ true → list_all ok (if_written (option_map cond_tables (option_map (λ e. e.0) c))) ≡ true →
      filter_fine (option_map (fine_cond ok) (option_map (λ e. e.0) c)) (view_names view) ≡ true
  filter_told view fine None well passes = refl
  filter_told view fine (Some c) well passes = c.1 view fine well passes

  -- what a query asks of its parts
  pub record PartsWell (is : List SqlItem) (fs : List SqlFrom) (c : Option SqlCond) (view : View) : Type 0 where
    pub some_items : nat_le 1 (length (judged_items view is)) ≡ true
    pub items : list_all (λ (item : JudgedItem). item.well) (judged_items view is) ≡ true
    pub some_froms : nat_le 1 (length (map judged_from fs)) ≡ true
    pub froms : list_all (λ (f : JudgedFrom). f.well) (map judged_from fs) ≡ true
    pub differ : all_differ (map (λ (item : ShownItem). item.name) (own_items fs)) ≡ true
    pub filter : filter_well (option_map judged_cond c) view ≡ true

  parts_well : (items : List SqlItem) (froms : List SqlFrom) (filter : Option SqlCond) (order : List SortKey) (round : View) → (judged_parts items froms filter order round).well ≡ true → PartsWell items froms filter (own_items froms ∷ round)
  parts_well items froms filter order round e =
      let view : View = own_items froms ∷ round in
      let js = judged_items view items in
      let a = nat_le 1 (length js) in
      let b = list_all (λ (item : JudgedItem). item.well) js in
      let c = nat_le 1 (length (map judged_from froms)) in
      let d = list_all (λ (f : JudgedFrom). f.well) (map judged_from froms) in
      let f = all_differ (map (λ (item : ShownItem). item.name) (own_items froms)) in
      let g = filter_well (option_map judged_cond filter) view in
      let p1 = and_parts (a && b && c && d && f && g) (list_all (λ (key : SortKey). nat_lt key.column (length js)) order) e in
      let p2 = and_parts (a && b && c && d && f) g p1.0 in
      let p3 = and_parts (a && b && c && d) f p2.0 in
      let p4 = and_parts (a && b && c) d p3.0 in
      let p5 = and_parts (a && b) c p4.0 in
      let p6 = and_parts a b p5.0 in
      record { some_items = p6.0; items = p6.1; some_froms = p5.1; froms = p4.1; differ = p3.1; filter = p2.1 }

  query_case : (d : Bool) (order : List SortKey) (c : Option C) (is : List I) (fs : List F) →
      PQ (roll-SqlQuery (record { distinct = d; items = map (λ e. e.0) is; from = map (λ e. e.0) fs; filter = option_map (λ e. e.0) c; order = order }))
  query_case d order c is fs =
      let items : List SqlItem = map (λ e. e.0) is in
      let froms : List SqlFrom = map (λ e. e.0) fs in
      let filter : Option SqlCond = option_map (λ e. e.0) c in
      let q = roll-SqlQuery (record { distinct = d; items = items; from = froms; filter = filter; order = order }) in
      let parts : (round : View) → (judged_query q round).well ≡ true → PartsWell items froms filter (own_items froms ∷ round) =
      λ round well. parts_well items froms filter order round (sym (ap (λ (k : JudgedQuery). k.well) (judged_query_is d items froms filter order round)) ∙ well) in
      record {
        columns = (λ round well. ap (λ (k : JudgedQuery). list_all is_name (shown_names k.columns)) (judged_query_is d items froms filter order round) ∙ items_named (own_items froms ∷ round) items (parts round well).items);
        fine = (λ round fine well passes.
            let p = parts round well in
            let view : View = own_items froms ∷ round in
            let inside : IsFineView view = (record { named = froms_named fs p.froms; differ = p.differ }, fine) in
            let t = both_ok (flat_map (λ below. below) (map item_tables items) ++ flat_map (λ below. below) (map from_tables froms)) (if_written (option_map cond_tables filter)) (passed (tables_query_is d items froms filter order) passes) in
            let u = both_ok (flat_map (λ below. below) (map item_tables items)) (flat_map (λ below. below) (map from_tables froms)) t.0 in
            let names = fine_names ok froms (view_names round) in
            let same : names ≡ view_names view = fine_names_are ok froms (view_names round) ∙ ap (λ ns. ns ∷ view_names round) (sym (written_items froms)) in
            let long : length (map (fine_item ok) items) ≡ length (judged_items view items) = same_length (fine_item ok) judged_item items ∙ sym (length-map (map judged_item items) (λ (item : View → JudgedItem). item view)) in
            let some_items : nat_le 1 (length (map (fine_item ok) items)) ≡ true = ap (nat_le 1) long ∙ p.some_items in
            let some_froms : nat_le 1 (length (map (fine_from ok) froms)) ≡ true = ap (nat_le 1) (same_length (fine_from ok) judged_from froms) ∙ p.some_froms in
            let E : Names → Type 0 = λ n. (nat_le 1 (length (map (fine_item ok) items)) && list_all (λ (item : FineItem). item.fine n) (map (fine_item ok) items))
            && ((nat_le 1 (length (map (fine_from ok) froms)) && list_all (λ (f : FineFrom). f.fine) (map (fine_from ok) froms)) && filter_fine (option_map (fine_cond ok) filter) n) ≡ true in
            let n1 = nat_le 1 (length (map (fine_item ok) items)) in
            let a1 = list_all (λ (item : FineItem). item.fine (view_names view)) (map (fine_item ok) items) in
            let n2 = nat_le 1 (length (map (fine_from ok) froms)) in
            let a2 = list_all (λ (f : FineFrom). f.fine) (map (fine_from ok) froms) in
            let a3 = filter_fine (option_map (fine_cond ok) filter) (view_names view) in
            let all : E (view_names view) = and_from (n1 && a1) ((n2 && a2) && a3) (and_from n1 a1 some_items (items_told view inside is p.items u.0))
            (and_from (n2 && a2) a3 (and_from n2 a2 some_froms (froms_told fs p.froms u.1)) (filter_told view inside c p.filter t.1)) in
            fine_query_is ok d items froms filter order (view_names round) ∙ subst E (sym same) all);
      }

  -- ---- every query

  cond_any : (y : SqlCond-F C S O F I Q W T) → PC (roll-SqlCond (map-SqlCond C S O F I Q W T SqlCond SqlScalar SqlSource SqlFrom SqlItem SqlQuery SqlWhen SumTerm (λ e. e.0) (λ e. e.0) (λ e. e.0) (λ e. e.0) (λ e. e.0) (λ e. e.0) (λ e. e.0) (λ e. e.0) y))
  cond_any (SqlCond-F.And parts) = and_case parts
  cond_any (SqlCond-F.Or parts) = or_case parts
  cond_any (SqlCond-F.Not part) = not_case part
  cond_any (SqlCond-F.Compare op a b) = compare_case op a b
  cond_any (SqlCond-F.Between negated a low high) = between_case negated a low high
  cond_any (SqlCond-F.OneOf negated a list) = member_case negated a list
  cond_any (SqlCond-F.IsNull negated a) = null_case negated a
  cond_any (SqlCond-F.Exists q) = exists_case q

  scalar_any : (y : SqlScalar-F C S O F I Q W T) → PS (roll-SqlScalar (map-SqlScalar C S O F I Q W T SqlCond SqlScalar SqlSource SqlFrom SqlItem SqlQuery SqlWhen SumTerm (λ e. e.0) (λ e. e.0) (λ e. e.0) (λ e. e.0) (λ e. e.0) (λ e. e.0) (λ e. e.0) (λ e. e.0) y))
  scalar_any (SqlScalar-F.Column place) = column_case place
  scalar_any (SqlScalar-F.Number n) = number_case n
  scalar_any (SqlScalar-F.Chars t) = chars_case t
  scalar_any (SqlScalar-F.Sum ts) = sum_case ts
  scalar_any (SqlScalar-F.Case ws last) = by_last last
    where
      by_last : (last : Option S) → PS (roll-SqlScalar (map-SqlScalar C S O F I Q W T SqlCond SqlScalar SqlSource SqlFrom SqlItem SqlQuery SqlWhen SumTerm (λ e. e.0) (λ e. e.0) (λ e. e.0) (λ e. e.0) (λ e. e.0) (λ e. e.0) (λ e. e.0) (λ e. e.0) (SqlScalar-F.Case ws last)))
      by_last None = choice_case ws None
      by_last (Some v) = choice_case ws (Some v)

  source_any : (y : SqlSource-F C S O F I Q W T) → PO (roll-SqlSource (map-SqlSource C S O F I Q W T SqlCond SqlScalar SqlSource SqlFrom SqlItem SqlQuery SqlWhen SumTerm (λ e. e.0) (λ e. e.0) (λ e. e.0) (λ e. e.0) (λ e. e.0) (λ e. e.0) (λ e. e.0) (λ e. e.0) y))
  source_any (SqlSource-F.Table t) = table_case t
  source_any (SqlSource-F.Derived q) = derived_case q

  query_any : (y : SqlQuery-F C S O F I Q W T) → PQ (roll-SqlQuery (map-SqlQuery C S O F I Q W T SqlCond SqlScalar SqlSource SqlFrom SqlItem SqlQuery SqlWhen SumTerm (λ e. e.0) (λ e. e.0) (λ e. e.0) (λ e. e.0) (λ e. e.0) (λ e. e.0) (λ e. e.0) (λ e. e.0) y))
  query_any y = by_filter y.filter
    where
      by_filter : (c : Option C) → PQ (roll-SqlQuery (map-SqlQuery C S O F I Q W T SqlCond SqlScalar SqlSource SqlFrom SqlItem SqlQuery SqlWhen SumTerm (λ e. e.0) (λ e. e.0) (λ e. e.0) (λ e. e.0) (λ e. e.0) (λ e. e.0) (λ e. e.0) (λ e. e.0) (record { distinct = y.distinct; items = y.items; from = y.from; filter = c; order = y.order })))
      by_filter None = query_case y.distinct y.order None y.items y.from
      by_filter (Some c) = query_case y.distinct y.order (Some c) y.items y.from

  pub query_told : (q : SqlQuery) → QueryTold q
  query_told = ind-SqlQuery PC PS PO PF PI PQ PW PT
      (λ x y is. subst (λ z. PC (roll-SqlCond z)) is (cond_any y))
      (λ x y is. subst (λ z. PS (roll-SqlScalar z)) is (scalar_any y))
      (λ x y is. subst (λ z. PO (roll-SqlSource z)) is (source_any y))
      (λ x y is. subst (λ z. PF (roll-SqlFrom z)) is y.source.1)
      (λ x y is. subst (λ z. PI (roll-SqlItem z)) is y.value.1)
      (λ x y is. subst (λ z. PQ (roll-SqlQuery z)) is (query_any y))
      (λ x y is. subst (λ z. PW (roll-SqlWhen z)) is (record { cond = y.cond.1; value = y.value.1 }))
      (λ x y is. subst (λ z. PT (roll-SumTerm z)) is y.scalar.1)
