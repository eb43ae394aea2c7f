-- A scalar that is read without a fault is well formed, and its domain and bound are those that it shows.
use Rattle.std.proofs.Common.{◌≡◌, ◌≤◌, ◌+◌, ◌^◌, ℕ, Bool, true, false, not, ◌&&◌, cond, List, [], ◌∷◌, ◌++◌, map, length, All, refl, sym, ap, ◌∙◌, arith, Option, Some, None}
use Rattle.std.specs.Prelude.{nat_lt, nat_le, unsigned_abs}
use Rattle.std.specs.List.{flat_map, list_all}
use Rattle.std.proofs.lemmas.Bool.{and_from, lt-ltb, false≢true}
use Rattle.std.proofs.lemmas.Bool.Decides.{nat_tests}
use Rattle.std.proofs.lemmas.List.Elements.{All-nil, All-cons, All-head, All-tail}
use Rattle.prefsql_values.specs.declared.value.Domain.{Domain}
use Rattle.prefsql_values.specs.declared.value.Domain.TheVariants.{Integer, Chars as CharsDomain}
use Rattle.prefsql_values.specs.declared.value.Value.{Value}
use Rattle.prefsql_values.specs.declared.value.Value.TheVariants.{Num, Str, Null}
use Rattle.prefsql_values.specs.Limits.{IsName, IsLiteralValue}
use Rattle.query_tree.specs.declared.name.NameTree.{NameTree}
use Rattle.sql_tree.specs.Shown.{View, Shape, number_shape, text_shape, column_at as shown_at}
use Rattle.sql_tree.specs.Shown as shown
use Rattle.sql_tree.specs.WellFormed.{JudgedScalar, JudgedTerm, is_in_range, is_short, domain_eq, is_term, first_is_plus, term_shapes, is_bounded, judged_sum}
use Rattle.sql_tree.specs.declared.tree.SqlPlace.{SqlPlace}
use Rattle.sql_tree.specs.declared.tree.SqlCond.TheViews as views
use Rattle.sql_tree.specs.declared.tree.SumTerm.{SumTerm}
use Rattle.sql_resolver.specs.NamesMeant.{column_part}
use Rattle.sql_resolver.specs.Owed.{Fault, fault, fault_if, is_text, both_bounds, max_bound}
use Rattle.sql_resolver.specs.Reading.{ScalarReading, TermReading, column_reading, literal_reading, sum_reading, sum_bound, bound_step, bound_faults}
use Rattle.read_queries.proofs.Kept.{Where, IsNamePath}
use Rattle.read_queries.proofs.FaultsNone.{some_none, none_left, none_right, not_owed, each_holds}
use Rattle.read_queries.proofs.ColumnsMeant.{scopes_of, Meant}
use Rattle.read_queries.proofs.JudgedParts.{judged_scalar, judged_term, judged-Column, judged-Number, judged-Chars, judged-Sum, judged_term_is}

-- well formed where these columns are seen, with the domain and bound that it shows
pub record ScalarFormed (view : View) (r : ScalarReading) : Type 0 where
  pub well : (judged_scalar r.tree view).well ≡ true
  pub domain : r.domain ≡ Some (judged_scalar r.tree view).shape.domain
  pub bound : r.bound ≡ Some (judged_scalar r.tree view).shape.bound
  pub own : Where IsName r.own_name

-- and no sum
pub record FactorFormed (view : View) (r : ScalarReading) : Type 0 where
  pub formed : ScalarFormed view r
  pub plain : (judged_scalar r.tree view).is_sum ≡ false

abbrev pub OfScalar : View → ScalarReading → Type 0
OfScalar view r = r.faults ≡ [] → ScalarFormed view r

abbrev pub OfFactor : View → ScalarReading → Type 0
OfFactor view r = r.faults ≡ [] → FactorFormed view r

pub formed_by : (view : View) (r : ScalarReading) (j : JudgedScalar) → judged_scalar r.tree view ≡ j → j.well ≡ true → r.domain ≡ Some j.shape.domain → r.bound ≡ Some j.shape.bound → Where IsName r.own_name → ScalarFormed view r
formed_by view r j is well domain bound own = record {
  well = ap (λ (j : JudgedScalar). j.well) is ∙ well;
  domain = domain ∙ sym (ap (λ (j : JudgedScalar). Some j.shape.domain) is);
  bound = bound ∙ sym (ap (λ (j : JudgedScalar). Some j.shape.bound) is);
  own = own;
}

pub factor_by : (view : View) (r : ScalarReading) (j : JudgedScalar) → judged_scalar r.tree view ≡ j → j.well ≡ true → r.domain ≡ Some j.shape.domain → r.bound ≡ Some j.shape.bound → Where IsName r.own_name → j.is_sum ≡ false → FactorFormed view r
factor_by view r j is well domain bound own plain = record { formed = formed_by view r j is well domain bound own; plain = ap (λ (j : JudgedScalar). j.is_sum) is ∙ plain }

-- ---- columns and literals

path_name : (first : List ℕ) (second : Option (List ℕ)) → IsName first → Where IsName second → IsName (column_part first second)
path_name first None is w = is
path_name first (Some column) is w = w

pub column_formed : (name : NameTree) → IsNamePath name → (view : View) (places : List SqlPlace) → All (Meant view) places → OfFactor view (column_reading name (scopes_of view) places)
column_formed name named view [] all e = absurd (some_none (fault 303 name.at) [] e)
column_formed name named view (p ∷ []) all e =
    let m = All-head (Meant view) p [] all in
    let shown = m.shown in
    factor_by view (column_reading name (scopes_of view) (p ∷ [])) (record { shape = (shown_at view p).shape; well = is_in_range view p; is_sum = false })
    (ap (λ s. judged_scalar s view) (sym (views.rolls-Column p)) ∙ judged-Column p view) m.within (ap (λ c. c.domain) shown) (ap (λ c. c.bound) shown) (path_name name.first name.second named.first named.second) refl
column_formed name named view (p ∷ q ∷ more) all e = absurd (some_none (fault 304 name.at) [] e)

pub literal_formed : (v : Value) (at : ℕ) → IsLiteralValue v → (view : View) → OfFactor view (literal_reading v at)
literal_formed (Num n) at is view e =
    factor_by view (literal_reading (Num n) at) (record { shape = number_shape; well = is_short n; is_sum = false }) (ap (λ s. judged_scalar s view) (sym (views.rolls-Number n)) ∙ judged-Number n view)
    (lt-ltb (unsigned_abs n) (10 ^ 18) is) refl refl tt refl
literal_formed (Str t) at is view e =
    factor_by view (literal_reading (Str t) at) (record { shape = text_shape; well = true; is_sum = false }) (ap (λ s. judged_scalar s view) (sym (views.rolls-Chars t)) ∙ judged-Chars t view) refl refl refl tt refl
literal_formed Null at is view e = absurd is

-- ---- sums

-- a factor that is no text
record TermFormed (view : View) (r : TermReading) : Type 0 where
  factor : FactorFormed view r.scalar
  number : is_text r.scalar.domain ≡ false

no_text : (d : Domain) → is_text (Some d) ≡ false → domain_eq d Integer ≡ true
no_text Integer e = refl
no_text CharsDomain e = absurd (false≢true (sym e))

module _ (view : View) where
  abbrev judged : TermReading → JudgedTerm
  judged r = judged_term (record { minus = r.minus; scalar = r.scalar.tree }) view

  abbrev plainly : TermReading → JudgedTerm
  plainly r = record { minus = r.minus; scalar = judged_scalar r.scalar.tree view }

  judged_is : (r : TermReading) → judged r ≡ plainly r
  judged_is r = judged_term_is (record { minus = r.minus; scalar = r.scalar.tree }) view

  abbrev all_judged : List TermReading → List JudgedTerm
  all_judged rs = map (λ (term : View → JudgedTerm). term view) (map judged_term (map (λ (r : TermReading). let t : SumTerm = record { minus = r.minus; scalar = r.scalar.tree } in t) rs))

  term_well : (r : TermReading) → TermFormed view r → is_term (judged r) ≡ true
  term_well r is =
      let j = judged_scalar r.scalar.tree view in
      let f = is.factor.formed in
      let number : is_text (Some j.shape.domain) ≡ false = ap is_text (sym f.domain) ∙ is.number in
      ap is_term (judged_is r) ∙ and_from (j.well && domain_eq j.shape.domain Integer) (not j.is_sum) (and_from j.well (domain_eq j.shape.domain Integer) f.well (no_text j.shape.domain number)) (ap not is.factor.plain)

  terms_well : (rs : List TermReading) → All (TermFormed view) rs → list_all is_term (all_judged rs) ≡ true
  terms_well [] all = refl
  terms_well (r ∷ rs) all =
      and_from (is_term (judged r)) (list_all is_term (all_judged rs)) (term_well r (All-head (TermFormed view) r rs all)) (terms_well rs (All-tail (TermFormed view) r rs all))

  abbrev bound_of : List TermReading → ℕ
  bound_of rs = shown.sum_bound (term_shapes (all_judged rs))

  term_bound : (r : TermReading) → TermFormed view r → r.scalar.bound ≡ Some (judged r).scalar.shape.bound
  term_bound r is = is.factor.formed.bound ∙ sym (ap (λ (j : JudgedTerm). Some j.scalar.shape.bound) (judged_is r))

  bounds_are : (rs : List TermReading) → All (TermFormed view) rs → sum_bound rs ≡ Some (bound_of rs)
  bounds_are [] all = refl
  bounds_are (r ∷ rs) all =
      ap (λ b. both_bounds (λ m n. m + n) b (sum_bound rs)) (term_bound r (All-head (TermFormed view) r rs all))
      ∙ ap (both_bounds (λ m n. m + n) (Some (judged r).scalar.shape.bound)) (bounds_are rs (All-tail (TermFormed view) r rs all))

  within : (total b at : ℕ) (later : ℕ → List Fault) → bound_step total at (Some b) later ≡ [] → (total + b ≤ max_bound) × (later (total + b) ≡ [])
  within total b at later e = by (nat_lt max_bound (total + b)) refl e
    where
      by : (t : Bool) → nat_lt max_bound (total + b) ≡ t → cond t (fault 401 at ∷ []) (later (total + b)) ≡ [] → (total + b ≤ max_bound) × (later (total + b) ≡ [])
      by true is e = absurd (some_none (fault 401 at) [] e)
      by false is e = (grind (arith, nat_tests), e)

  bounded : (total : ℕ) (rs : List TermReading) → All (TermFormed view) rs → total ≤ max_bound → bound_faults total rs ≡ [] → total + bound_of rs ≤ max_bound
  bounded total [] all le e = omega (arith, le)
  bounded total (r ∷ rs) all le e =
      let b = (judged r).scalar.shape.bound in
      let later : ℕ → List Fault = λ sum. bound_faults sum rs in
      let w = within total b r.scalar.at later (sym (ap (λ o. bound_step total r.scalar.at o later) (term_bound r (All-head (TermFormed view) r rs all))) ∙ e) in
      let more = bounded (total + b) rs (All-tail (TermFormed view) r rs all) w.0 w.1 in
      omega (arith, more)

  pub sum_formed : (first second : TermReading) (more : List TermReading) → first.minus ≡ false → All (OfFactor view) (map (λ (r : TermReading). r.scalar) (first ∷ second ∷ more)) → OfScalar view (sum_reading (first ∷ second ∷ more))
  sum_formed first second more plus all e =
      let rs : List TermReading = first ∷ second ∷ more in
      let f : TermReading → List Fault = λ term. term.scalar.faults ++ fault_if (is_text term.scalar.domain) 305 term.scalar.at in
      let each = each_holds f (TermFormed view) rs (terms_formed rs all) (none_left (flat_map f rs) (bound_faults 0 rs) e) in
      let trees = map (λ (r : TermReading). let t : SumTerm = record { minus = r.minus; scalar = r.scalar.tree } in t) rs in
      let js = all_judged rs in
      let le : 0 ≤ max_bound = omega arith in
      let small = bounded 0 rs each le (none_right (flat_map f rs) (bound_faults 0 rs) e) in
      let fits : bound_of rs ≤ 10 ^ 36 = omega (arith, small) in
      let shape : Shape = record { domain = Integer; bound = bound_of rs } in
      let plus_first : first_is_plus js ≡ true = ap (λ (j : JudgedTerm). not j.minus) (judged_is first) ∙ ap not plus in
      formed_by view (sum_reading rs) (judged_sum js) (ap (λ s. judged_scalar s view) (sym (views.rolls-Sum trees)) ∙ judged-Sum trees view)
      (and_from (nat_le 2 (length js) && list_all is_term js && first_is_plus js) (is_bounded shape) (and_from (nat_le 2 (length js) && list_all is_term js) (first_is_plus js) (and_from (nat_le 2 (length js)) (list_all is_term js) (two (length js) (omega arith)) (terms_well rs each)) plus_first) (two_le fits))
      refl (bounds_are rs each) tt
    where
      two : (n : ℕ) → 2 ≤ n → nat_le 2 n ≡ true
      two n le = grind (arith, nat_tests)

      two_le : {m n : ℕ} → m ≤ n → nat_le m n ≡ true
      two_le le = grind (arith, nat_tests)

      terms_formed : (rs : List TermReading) → All (OfFactor view) (map (λ (r : TermReading). r.scalar) rs) → All (λ (term : TermReading). term.scalar.faults ++ fault_if (is_text term.scalar.domain) 305 term.scalar.at ≡ [] → TermFormed view term) rs
      terms_formed [] all = All-nil _
      terms_formed (r ∷ rs) all =
          All-cons (λ (term : TermReading). term.scalar.faults ++ fault_if (is_text term.scalar.domain) 305 term.scalar.at ≡ [] → TermFormed view term) r rs
          (λ e. record {
            factor = All-head (OfFactor view) r.scalar (map (λ (r : TermReading). r.scalar) rs) all (none_left r.scalar.faults (fault_if (is_text r.scalar.domain) 305 r.scalar.at) e);
            number = not_owed (is_text r.scalar.domain) 305 r.scalar.at (none_right r.scalar.faults (fault_if (is_text r.scalar.domain) 305 r.scalar.at) e);
          }) (terms_formed rs (All-tail (OfFactor view) r.scalar (map (λ (r : TermReading). r.scalar) rs) all))
