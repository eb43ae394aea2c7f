-- No number of a well-formed query leaves the range of a 128-bit number: with sums and signs in that range each part means what it
-- means without, over tables that the query fits.
use Rattle.std.proofs.Common.{◌≡◌, ℕ, ℤ, ◌+◌, ◌-◌, ◌≤◌, ◌^◌, Bool, true, false, not, ◌&&◌, Option, Some, None, List, [], ◌∷◌, ◌++◌, map, cond, length, leb, All, refl, sym, ap, ◌∙◌, subst, arith}
use Rattle.std.specs.Prelude.{unsigned_abs}
use Rattle.std.specs.List.{flat_map, list_all, list_any}
use Rattle.std.specs.Option.{option_map}
use Rattle.std.proofs.lemmas.Bool.{and_parts, leb-true, ltb-true}
use Rattle.prefsql_values.specs.declared.value.CompareOp.{CompareOp}
use Rattle.prefsql_values.specs.declared.value.Domain.{Domain}
use Rattle.prefsql_values.specs.declared.value.Domain.TheVariants.{Integer}
use Rattle.prefsql_values.specs.declared.value.Value.{Value}
use Rattle.prefsql_values.specs.Truth.{all_true, any_true, is_true, negated, negated_if}
use Rattle.prefsql_values.specs.Value.{between, comparison, is_null, one_of, truth_of}
use Rattle.prefsql_tables.specs.Table.{Tables}
use Rattle.prefsql_tables.specs.Valid.{IsTableSet}
use Rattle.sql_tree.specs.declared.tree.SqlCond.{SqlCond, And, Or, Not, Compare, Between, OneOf, IsNull, Exists}
use Rattle.sql_tree.specs.declared.tree.SqlScalar.{SqlScalar, Column, Number, Chars, Sum, Case}
use Rattle.sql_tree.specs.declared.tree.SqlPlace.{SqlPlace}
use Rattle.sql_tree.specs.declared.tree.SqlTable.{SqlTable}
use Rattle.sql_tree.specs.declared.tree.SqlSource.{SqlSource}
use Rattle.sql_tree.specs.declared.tree.SqlFrom.{SqlFrom}
use Rattle.sql_tree.specs.declared.tree.SqlItem.{SqlItem}
use Rattle.sql_tree.specs.declared.tree.SqlQuery.{SqlQuery}
use Rattle.sql_tree.specs.declared.tree.SqlWhen.{SqlWhen}
use Rattle.sql_tree.specs.declared.tree.SumTerm.{SumTerm}
use Rattle.sql_tree.specs.Fits.{IsTableOf, cond_tables, if_written, scalar_tables, source_tables, tables_of, term_tables, when_tables}
use Rattle.sql_tree.specs.Meaning.{Scopes, else_value, first_some, or_else, rows_in, source_rows, sum_of, term_value, truth_in, value_in, when_value}
use Rattle.sql_tree.specs.Shown.{Shape, View, choice_shape, greatest_bound, sum_bound}
use Rattle.sql_tree.specs.WellFormed.{JudgedScalar, JudgedTerm, JudgedWhen, agrees, domain_eq, first_is_plus, is_bounded, is_otherwise, is_short, is_term, is_when, judged_at, judged_cond, judged_query, judged_scalar, judged_sum, result_shapes, term_shapes}
use Rattle.sql_tree.proofs.MeaningLemmas.{truth_in-And, truth_in-Or, truth_in-Not, truth_in-Compare, truth_in-Between, truth_in-OneOf, truth_in-IsNull, truth_in-Exists, value_in-Column, value_in-Number, value_in-Chars, value_in-Sum, value_in-Case, when_value_is, term_value_is}
use Rattle.sql_exec.specs.Wrapping as wrapping
use Rattle.sql_exec.specs.Wrapping.{wrapped_sign, wrapped_sum}
use Rattle.sql_exec.proofs.WrappingReads as reads
use Rattle.sql_exec.proofs.JudgedReads.{judged_source, judged_term, judged_when, judged-And, judged-Or, judged-Not, judged-Compare, judged-Between, judged-OneOf, judged-IsNull, judged-Exists, judged-Column, judged-Number, judged-Chars, judged-Sum, judged-Case, judged_when_is, judged_term_is}
use Rattle.sql_exec.proofs.Named as named
use Rattle.sql_exec.proofs.Bounded.{IsSomeWithin, IsWithin, added_within, either_within, first_within, greatest_front, greatest_last, sign_exact, signed_within, some_within_more, where_true, within_more, wrapped_within}
use Rattle.sql_exec.proofs.Fitted.{FitsRow, FitsView}

-- what is said of equal parts
within_at : {j k : JudgedScalar} {u v : Value} → j ≡ k → u ≡ v → IsWithin k.shape.bound v → IsWithin j.shape.bound u
within_at {j = j} {k = k} {u = u} {v = v} is same within = subst (λ (x : JudgedScalar). IsWithin x.shape.bound u) (sym is) (subst (λ (x : Value). IsWithin k.shape.bound x) (sym same) within)

-- a number of at most eighteen digits
short_bound_holds : (n : ℤ) → is_short n ≡ true → unsigned_abs n ≤ 10 ^ 18 - 1
short_bound_holds n short = let below = ltb-true (unsigned_abs n) (10 ^ 18) short in omega (arith, below)

no_less : (n : ℕ) → n ≤ n
no_less n = omega arith

-- both parts of a sum of bounds
first_small : (a b : ℕ) → a + b ≤ 10 ^ 36 → a ≤ 10 ^ 36
first_small a b small = omega (arith, small)

rest_small : (a b : ℕ) → a + b ≤ 10 ^ 36 → b ≤ 10 ^ 36
rest_small a b small = omega (arith, small)

-- a scalar that agrees with another is well formed
other_well : (view : View) (a b : SqlScalar) → agrees (judged_scalar false a view) (judged_scalar false b view) ≡ true → (judged_scalar false b view).well ≡ true
other_well view a b e = (and_parts (judged_scalar false b view).well (domain_eq (judged_scalar false a view).shape.domain (judged_scalar false b view).shape.domain) e).0

abbrev judged_terms : View → List SumTerm → List JudgedTerm
judged_terms view terms = map (λ term. judged_term term view) terms

abbrev judged_whens : View → List SqlWhen → List JudgedWhen
judged_whens view whens = map (λ w. judged_when w view) whens

abbrev when_bound : View → List SqlWhen → ℕ
when_bound view whens = greatest_bound (map (λ (w : JudgedWhen). w.value.shape) (judged_whens view whens))

module _ (tables : Tables) (valid : IsTableSet tables) where
  abbrev pub There : SqlTable → Type 0
  There = IsTableOf tables

  pub record ScalarExact (s : SqlScalar) (view : View) (scopes : Scopes) : Type 0 where
    pub same : wrapping.value_in tables s scopes ≡ value_in tables s scopes
    pub within : IsWithin (judged_scalar false s view).shape.bound (value_in tables s scopes)

  pub record SourceExact (s : SqlSource) : Type 0 where
    pub same : wrapping.source_rows tables s ≡ source_rows tables s
    pub fits : All (FitsRow (judged_source s).columns) (source_rows tables s)

  pub record QueryExact (q : SqlQuery) (view : View) (scopes : Scopes) : Type 0 where
    pub same : wrapping.rows_in tables q scopes ≡ rows_in tables q scopes
    pub fits : All (FitsRow (judged_query false q view).columns) (rows_in tables q scopes)

  abbrev pub PC : SqlCond → Type 0
  PC c = (view : View) (scopes : Scopes) → FitsView view scopes → judged_cond false c view ≡ true → All There (cond_tables c) → wrapping.truth_in tables c scopes ≡ truth_in tables c scopes

  abbrev pub PS : SqlScalar → Type 0
  PS s = (view : View) (scopes : Scopes) → FitsView view scopes → (judged_scalar false s view).well ≡ true → All There (scalar_tables s) → ScalarExact s view scopes

  abbrev pub PO : SqlSource → Type 0
  PO s = (judged_source s).well ≡ true → All There (source_tables s) → SourceExact s

  abbrev pub PF : SqlFrom → Type 0
  PF f = PO f.source

  abbrev pub PI : SqlItem → Type 0
  PI i = PS i.value

  abbrev pub PQ : SqlQuery → Type 0
  PQ q = (view : View) (scopes : Scopes) → FitsView view scopes → (judged_query false q view).well ≡ true → All There (tables_of q) → QueryExact q view scopes

  pub record WhenExact (w : SqlWhen) : Type 0 where
    pub cond : PC w.cond
    pub value : PS w.value

  abbrev pub PW : SqlWhen → Type 0
  PW w = WhenExact w

  abbrev pub PT : SumTerm → Type 0
  PT t = PS t.scalar

  abbrev pub C : Type 0
  C = (x : SqlCond) × PC x

  abbrev pub S : Type 0
  S = (x : SqlScalar) × PS x

  abbrev pub O : Type 0
  O = (x : SqlSource) × PO x

  abbrev pub F : Type 0
  F = (x : SqlFrom) × PF x

  abbrev pub I : Type 0
  I = (x : SqlItem) × PI x

  abbrev pub Q : Type 0
  Q = (x : SqlQuery) × PQ x

  abbrev pub W : Type 0
  W = (x : SqlWhen) × PW x

  abbrev pub T : Type 0
  T = (x : SumTerm) × PT x

  -- ---- conditions

  conds_exact : (view : View) (scopes : Scopes) → FitsView view scopes → (parts : List C) → list_all (λ part. judged_cond false part view) (map (λ e. e.0) parts) ≡ true → All There (flat_map cond_tables (map (λ e. e.0) parts))
      → map (λ part. wrapping.truth_in tables part scopes) (map (λ e. e.0) parts) ≡ map (λ part. truth_in tables part scopes) (map (λ e. e.0) parts)
  conds_exact view scopes fits [] well there = refl
  conds_exact view scopes fits (p ∷ parts) well there =
      let ps : List SqlCond = map (λ e. e.0) parts in
      let w = and_parts (judged_cond false p.0 view) (list_all (λ part. judged_cond false part view) ps) well in
      let first = p.1 view scopes fits w.0 (named.left There (cond_tables p.0) (flat_map cond_tables ps) there) in
      let rest = conds_exact view scopes fits parts w.1 (named.right There (cond_tables p.0) (flat_map cond_tables ps) there) in
      λ j. first j ∷ rest j

  pub and_case : (parts : List C) → PC (And (map (λ e. e.0) parts))
  and_case parts view scopes fits well there =
      let ps : List SqlCond = map (λ e. e.0) parts in
      let w = and_parts (leb 2 (length ps)) (list_all (λ part. judged_cond false part view) ps) (sym (judged-And ps view) ∙ well) in
      reads.truth_in-And tables ps scopes ∙ ap all_true (conds_exact view scopes fits parts w.1 (named.And_there There (And ps) ps refl there)) ∙ sym (truth_in-And tables ps scopes)

  pub or_case : (parts : List C) → PC (Or (map (λ e. e.0) parts))
  or_case parts view scopes fits well there =
      let ps : List SqlCond = map (λ e. e.0) parts in
      let w = and_parts (leb 2 (length ps)) (list_all (λ part. judged_cond false part view) ps) (sym (judged-Or ps view) ∙ well) in
      reads.truth_in-Or tables ps scopes ∙ ap any_true (conds_exact view scopes fits parts w.1 (named.Or_there There (Or ps) ps refl there)) ∙ sym (truth_in-Or tables ps scopes)

  pub not_case : (part : C) → PC (Not part.0)
  not_case part view scopes fits well there =
      reads.truth_in-Not tables part.0 scopes
      ∙ ap negated (part.1 view scopes fits (sym (judged-Not part.0 view) ∙ well) (named.Not_there There (Not part.0) part.0 refl there))
      ∙ sym (truth_in-Not tables part.0 scopes)

  pub compare_case : (op : CompareOp) (a b : S) → PC (Compare op a.0 b.0)
  compare_case op a b view scopes fits well there =
      let w = and_parts (judged_scalar false a.0 view).well (agrees (judged_scalar false a.0 view) (judged_scalar false b.0 view)) (sym (judged-Compare op a.0 b.0 view) ∙ well) in
      let x = (a.1 view scopes fits w.0 (named.Compare_left There (Compare op a.0 b.0) op a.0 b.0 refl there)).same in
      let y = (b.1 view scopes fits (other_well view a.0 b.0 w.1) (named.Compare_right There (Compare op a.0 b.0) op a.0 b.0 refl there)).same in
      reads.truth_in-Compare tables op a.0 b.0 scopes ∙ (λ j. comparison op (x j) (y j)) ∙ sym (truth_in-Compare tables op a.0 b.0 scopes)

  pub between_case : (negate : Bool) (a low high : S) → PC (Between negate a.0 low.0 high.0)
  between_case negate a low high view scopes fits well there =
      let whole : SqlCond = Between negate a.0 low.0 high.0 in
      let ja = judged_scalar false a.0 view in
      let w = and_parts (ja.well && agrees ja (judged_scalar false low.0 view)) (agrees ja (judged_scalar false high.0 view)) (sym (judged-Between negate a.0 low.0 high.0 view) ∙ well) in
      let v = and_parts ja.well (agrees ja (judged_scalar false low.0 view)) w.0 in
      let x = (a.1 view scopes fits v.0 (named.Between_scalar There whole negate a.0 low.0 high.0 refl there)).same in
      let y = (low.1 view scopes fits (other_well view a.0 low.0 v.1) (named.Between_low There whole negate a.0 low.0 high.0 refl there)).same in
      let z = (high.1 view scopes fits (other_well view a.0 high.0 w.1) (named.Between_high There whole negate a.0 low.0 high.0 refl there)).same in
      reads.truth_in-Between tables negate a.0 low.0 high.0 scopes ∙ (λ j. negated_if negate (between (x j) (y j) (z j))) ∙ sym (truth_in-Between tables negate a.0 low.0 high.0 scopes)

  listed_exact : (view : View) (scopes : Scopes) → FitsView view scopes → (a : SqlScalar) (list : List S) → list_all (λ b. agrees (judged_scalar false a view) (judged_scalar false b view)) (map (λ e. e.0) list) ≡ true
      → All There (flat_map scalar_tables (map (λ e. e.0) list)) → map (λ b. wrapping.value_in tables b scopes) (map (λ e. e.0) list) ≡ map (λ b. value_in tables b scopes) (map (λ e. e.0) list)
  listed_exact view scopes fits a [] well there = refl
  listed_exact view scopes fits a (b ∷ list) well there =
      let bs : List SqlScalar = map (λ e. e.0) list in
      let w = and_parts (agrees (judged_scalar false a view) (judged_scalar false b.0 view)) (list_all (λ b. agrees (judged_scalar false a view) (judged_scalar false b view)) bs) well in
      let first = (b.1 view scopes fits (other_well view a b.0 w.0) (named.left There (scalar_tables b.0) (flat_map scalar_tables bs) there)).same in
      let rest = listed_exact view scopes fits a list w.1 (named.right There (scalar_tables b.0) (flat_map scalar_tables bs) there) in
      λ j. first j ∷ rest j

  pub member_case : (negate : Bool) (a : S) (list : List S) → PC (OneOf negate a.0 (map (λ e. e.0) list))
  member_case negate a list view scopes fits well there =
      let bs : List SqlScalar = map (λ e. e.0) list in
      let ja = judged_scalar false a.0 view in
      let w = and_parts (ja.well && leb 1 (length bs)) (list_all (λ b. agrees ja (judged_scalar false b view)) bs) (sym (judged-OneOf negate a.0 bs view) ∙ well) in
      let v = and_parts ja.well (leb 1 (length bs)) w.0 in
      let x = (a.1 view scopes fits v.0 (named.OneOf_scalar There (OneOf negate a.0 bs) negate a.0 bs refl there)).same in
      let ys = listed_exact view scopes fits a.0 list w.1 (named.OneOf_list There (OneOf negate a.0 bs) negate a.0 bs refl there) in
      reads.truth_in-OneOf tables negate a.0 bs scopes ∙ (λ j. negated_if negate (one_of (x j) (ys j))) ∙ sym (truth_in-OneOf tables negate a.0 bs scopes)

  pub null_case : (negate : Bool) (a : S) → PC (IsNull negate a.0)
  null_case negate a view scopes fits well there =
      let x = (a.1 view scopes fits (sym (judged-IsNull negate a.0 view) ∙ well) (named.IsNull_there There (IsNull negate a.0) negate a.0 refl there)).same in
      reads.truth_in-IsNull tables negate a.0 scopes ∙ (λ j. negated_if negate (truth_of (is_null (x j)))) ∙ sym (truth_in-IsNull tables negate a.0 scopes)

  pub exists_case : (q : Q) → PC (Exists q.0)
  exists_case q view scopes fits well there =
      let w = and_parts (judged_query false q.0 view).well (not (judged_query false q.0 view).has_order) (sym (judged-Exists q.0 view) ∙ well) in
      let rows = (q.1 view scopes fits w.0 (named.Exists_there There (Exists q.0) q.0 refl there)).same in
      reads.truth_in-Exists tables q.0 scopes ∙ ap (λ found. truth_of (list_any (λ _. true) found)) rows ∙ sym (truth_in-Exists tables q.0 scopes)

  -- ---- scalars

  pub column_case : (place : SqlPlace) → PS (Column place)
  column_case place view scopes fits well there = record {
    same = reads.value_in-Column tables place scopes ∙ sym (value_in-Column tables place scopes);
    within = within_at (judged-Column place view) (value_in-Column tables place scopes) (fits place.up place.item place.column);
  }

  pub number_case : (n : ℤ) → PS (Number n)
  number_case n view scopes fits well there = record {
    same = reads.value_in-Number tables n scopes ∙ sym (value_in-Number tables n scopes);
    within =
        within_at (judged-Number n view) (value_in-Number tables n scopes)
        (short_bound_holds n (sym (ap (λ (k : JudgedScalar). k.well) (judged-Number n view)) ∙ well));
  }

  pub chars_case : (text : List ℕ) → PS (Chars text)
  chars_case text view scopes fits well there = record {
    same = reads.value_in-Chars tables text scopes ∙ sym (value_in-Chars tables text scopes);
    within = within_at (judged-Chars text view) (value_in-Chars tables text scopes) tt;
  }

  record TermsExact (terms : List SumTerm) (view : View) (scopes : Scopes) : Type 0 where
    same : map (λ term. wrapping.term_value tables term scopes) terms ≡ map (λ term. term_value tables term scopes) terms
    within : IsWithin (sum_bound (term_shapes (judged_terms view terms))) (sum_of (map (λ term. term_value tables term scopes) terms))

  record TermExact (term : SumTerm) (view : View) (scopes : Scopes) : Type 0 where
    same : wrapping.term_value tables term scopes ≡ term_value tables term scopes
    within : IsWithin (judged_term term view).scalar.shape.bound (term_value tables term scopes)

  term_exact : (view : View) (scopes : Scopes) → FitsView view scopes → (t : T) → is_term (judged_term t.0 view) ≡ true → All There (term_tables t.0) → (judged_term t.0 view).scalar.shape.bound ≤ 10 ^ 36 → TermExact t.0 view scopes
  term_exact view scopes fits t well there small =
      let s = judged_scalar false t.0.scalar view in
      let one : (s.well && domain_eq s.shape.domain Integer) && not s.is_sum ≡ true = sym (ap is_term (judged_term_is t.0 view)) ∙ well in
      let p = and_parts (s.well && domain_eq s.shape.domain Integer) (not s.is_sum) one in
      let q = and_parts s.well (domain_eq s.shape.domain Integer) p.0 in
      let e = t.1 view scopes fits q.0 (named.term_there There t.0 there) in
      let bound = (judged_term t.0 view).scalar.shape.bound in
      let v = value_in tables t.0.scalar scopes in
      let within : IsWithin bound v = subst (λ (k : JudgedTerm). IsWithin k.scalar.shape.bound v) (sym (judged_term_is t.0 view)) e.within in
      record {
        same = reads.term_value_is tables t.0 scopes ∙ ap (wrapped_sign t.0.minus) e.same ∙ sign_exact t.0.minus bound v small within ∙ sym (term_value_is tables t.0 scopes);
        within = subst (λ (x : Value). IsWithin bound x) (sym (term_value_is tables t.0 scopes)) (signed_within t.0.minus bound v within);
      }

  terms_exact : (view : View) (scopes : Scopes) → FitsView view scopes → (ts : List T) → list_all is_term (judged_terms view (map (λ e. e.0) ts)) ≡ true → All There (flat_map term_tables (map (λ e. e.0) ts))
      → sum_bound (term_shapes (judged_terms view (map (λ e. e.0) ts))) ≤ 10 ^ 36 → TermsExact (map (λ e. e.0) ts) view scopes
  terms_exact view scopes fits [] well there small = record { same = refl; within = (let e : 0 ≤ 0 = omega arith in e) }
  terms_exact view scopes fits (t ∷ ts) well there small =
      let xs : List SumTerm = map (λ e. e.0) ts in
      let w = and_parts (is_term (judged_term t.0 view)) (list_all is_term (judged_terms view xs)) well in
      let bound = (judged_term t.0 view).scalar.shape.bound in
      let bounds = sum_bound (term_shapes (judged_terms view xs)) in
      let first = term_exact view scopes fits t w.0 (named.left There (term_tables t.0) (flat_map term_tables xs) there) (first_small bound bounds small) in
      let rest = terms_exact view scopes fits ts w.1 (named.right There (term_tables t.0) (flat_map term_tables xs) there) (rest_small bound bounds small) in
      record {
        same = (λ j. first.same j ∷ rest.same j);
        within = added_within bound bounds (term_value tables t.0 scopes) (sum_of (map (λ term. term_value tables term scopes) xs)) first.within rest.within;
      }

  pub sum_case : (ts : List T) → PS (Sum (map (λ e. e.0) ts))
  sum_case ts view scopes fits well there =
      let xs : List SumTerm = map (λ e. e.0) ts in
      let js = judged_terms view xs in
      let bound = sum_bound (term_shapes js) in
      let shape : Shape = record { domain = Integer; bound = bound } in
      let e : (judged_sum js).well ≡ true = sym (ap (λ (k : JudgedScalar). k.well) (judged-Sum xs view)) ∙ well in
      let p1 = and_parts (leb 2 (length js) && list_all is_term js && first_is_plus js) (is_bounded shape) e in
      let p2 = and_parts (leb 2 (length js) && list_all is_term js) (first_is_plus js) p1.0 in
      let p3 = and_parts (leb 2 (length js)) (list_all is_term js) p2.0 in
      let small = leb-true bound (10 ^ 36) p1.1 in
      let t = terms_exact view scopes fits ts p3.1 (named.Sum_there There (Sum xs) xs refl there) small in
      let sum = sum_of (map (λ term. term_value tables term scopes) xs) in
      record {
        same = reads.value_in-Sum tables xs scopes ∙ ap wrapped_sum t.same ∙ wrapped_within bound sum small t.within ∙ sym (value_in-Sum tables xs scopes);
        within = within_at (judged-Sum xs view) (value_in-Sum tables xs scopes) t.within;
      }

  record WhensExact (whens : List SqlWhen) (view : View) (scopes : Scopes) : Type 0 where
    same : map (λ w. wrapping.when_value tables w scopes) whens ≡ map (λ w. when_value tables w scopes) whens
    within : IsSomeWithin (when_bound view whens) (first_some (map (λ w. when_value tables w scopes) whens))

  whens_exact : (view : View) (scopes : Scopes) → FitsView view scopes → (d : Domain) (ws : List W) → list_all (is_when d) (judged_whens view (map (λ e. e.0) ws)) ≡ true → All There (flat_map when_tables (map (λ e. e.0) ws))
      → WhensExact (map (λ e. e.0) ws) view scopes
  whens_exact view scopes fits d [] well there = record { same = refl; within = tt }
  whens_exact view scopes fits d (w ∷ ws) well there =
      let xs : List SqlWhen = map (λ e. e.0) ws in
      let p = and_parts (is_when d (judged_when w.0 view)) (list_all (is_when d) (judged_whens view xs)) well in
      let here = named.left There (when_tables w.0) (flat_map when_tables xs) there in
      let c = judged_cond false w.0.cond view in
      let s = judged_scalar false w.0.value view in
      let one : (c && s.well) && domain_eq d s.shape.domain ≡ true = sym (ap (is_when d) (judged_when_is w.0 view)) ∙ p.0 in
      let q = and_parts (c && s.well) (domain_eq d s.shape.domain) one in
      let r = and_parts c s.well q.0 in
      let t = w.1.cond view scopes fits r.0 (named.when_cond There w.0 here) in
      let e = w.1.value view scopes fits r.1 (named.when_scalar There w.0 here) in
      let v = value_in tables w.0.value scopes in
      let bound = (judged_when w.0 view).value.shape.bound in
      let within : IsWithin bound v = subst (λ (k : JudgedWhen). IsWithin k.value.shape.bound v) (sym (judged_when_is w.0 view)) e.within in
      let some : IsSomeWithin bound (when_value tables w.0 scopes) =
      subst (λ (o : Option Value). IsSomeWithin bound o) (sym (when_value_is tables w.0 scopes)) (where_true (is_true (truth_in tables w.0.cond scopes)) bound v within) in
      let first = reads.when_value_is tables w.0 scopes ∙ (λ j. cond (is_true (t j)) (Some (e.same j)) None) ∙ sym (when_value_is tables w.0 scopes) in
      let rest = whens_exact view scopes fits d ws p.1 (named.right There (when_tables w.0) (flat_map when_tables xs) there) in
      record {
        same = (λ j. first j ∷ rest.same j);
        within = first_within bound (when_bound view xs) (when_value tables w.0 scopes) (map (λ w. when_value tables w scopes) xs) some rest.within;
      }

  record LastExact (js : List JudgedWhen) (last : Option SqlScalar) (view : View) (scopes : Scopes) : Type 0 where
    same : else_value (option_map (wrapping.value_in tables) last) scopes ≡ else_value (option_map (value_in tables) last) scopes
    within : IsWithin (greatest_bound (result_shapes js (judged_at view (option_map (judged_scalar false) last)))) (else_value (option_map (value_in tables) last) scopes)
    more : greatest_bound (map (λ (w : JudgedWhen). w.value.shape) js) ≤ greatest_bound (result_shapes js (judged_at view (option_map (judged_scalar false) last)))

  last_exact : (view : View) (scopes : Scopes) → FitsView view scopes → (d : Domain) (js : List JudgedWhen) (last : Option S) → is_otherwise d (judged_at view (option_map (judged_scalar false) (option_map (λ e. e.0) last))) ≡ true
      → All There (if_written (option_map scalar_tables (option_map (λ e. e.0) last))) → LastExact js (option_map (λ e. e.0) last) view scopes
  last_exact view scopes fits d js None well there = record { same = refl; within = tt; more = no_less (greatest_bound (map (λ (w : JudgedWhen). w.value.shape) js)) }
  last_exact view scopes fits d js (Some v) well there =
      let s = judged_scalar false v.0 view in
      let e = v.1 view scopes fits (and_parts s.well (domain_eq d s.shape.domain) well).0 there in
      let shapes : List Shape = map (λ (w : JudgedWhen). w.value.shape) js in
      record {
        same = e.same;
        within = within_more s.shape.bound (greatest_bound (shapes ++ s.shape ∷ [])) (value_in tables v.0 scopes) (greatest_last shapes s.shape) e.within;
        more = greatest_front shapes (s.shape ∷ []);
      }

  pub choice_case : (ws : List W) (last : Option S) → PS (Case (map (λ e. e.0) ws) (option_map (λ e. e.0) last))
  choice_case ws last view scopes fits well there =
      let xs : List SqlWhen = map (λ e. e.0) ws in
      let l : Option SqlScalar = option_map (λ e. e.0) last in
      let js = judged_whens view xs in
      let o = judged_at view (option_map (judged_scalar false) l) in
      let d = (choice_shape (result_shapes js o)).domain in
      let bound = greatest_bound (result_shapes js o) in
      let e : (leb 1 (length js) && list_all (is_when d) js) && is_otherwise d o ≡ true = sym (ap (λ (k : JudgedScalar). k.well) (judged-Case xs l view)) ∙ well in
      let p = and_parts (leb 1 (length js) && list_all (is_when d) js) (is_otherwise d o) e in
      let q = and_parts (leb 1 (length js)) (list_all (is_when d) js) p.0 in
      let t = whens_exact view scopes fits d ws q.1 (named.Case_whens There (Case xs l) xs l refl there) in
      let u = last_exact view scopes fits d js last p.1 (named.Case_last There (Case xs l) xs l refl there) in
      let first = first_some (map (λ w. when_value tables w scopes) xs) in
      record {
        same = reads.value_in-Case tables xs l scopes ∙ (λ j. or_else (first_some (t.same j)) (u.same j)) ∙ sym (value_in-Case tables xs l scopes);
        within =
            within_at (judged-Case xs l view) (value_in-Case tables xs l scopes)
            (either_within bound first (else_value (option_map (value_in tables) l) scopes) (some_within_more (when_bound view xs) bound first u.more t.within) u.within);
      }
