-- A choice that is read without a fault is well formed: its results have one domain.
use Rattle.std.proofs.Common.{◌≡◌, ◌≤◌, ℕ, true, false, ◌&&◌, List, [], ◌∷◌, ◌++◌, map, length, All, refl, sym, ap, ◌∙◌, arith, Option, Some, None}
use Rattle.std.specs.Prelude.{nat_le, max}
use Rattle.std.specs.List.{flat_map, list_all}
use Rattle.std.specs.Option.{option_map}
use Rattle.std.proofs.lemmas.Bool.{and_from, false≢true}
use Rattle.std.proofs.lemmas.Bool.Decides.{nat_tests}
use Rattle.std.proofs.lemmas.List.{length-map}
use Rattle.std.proofs.lemmas.List.Elements.{All-nil, All-cons, All-head, All-tail, All-append}
use Rattle.prefsql_values.specs.declared.value.Domain.{Domain}
use Rattle.prefsql_values.specs.declared.value.Domain.TheVariants.{Integer, Chars as CharsDomain}
use Rattle.sql_tree.specs.Shown.{View, Shape, choice_shape}
use Rattle.sql_tree.specs.Shown as shown
use Rattle.sql_tree.specs.WellFormed.{JudgedScalar, JudgedWhen, domain_eq, result_shapes, is_when, is_otherwise, judged_at, judged_choice}
use Rattle.sql_tree.specs.declared.tree.SqlCond.TheViews as views
use Rattle.sql_tree.specs.declared.tree.SqlWhen.{SqlWhen}
use Rattle.sql_resolver.specs.Owed.{Fault, fault_if, differ, both_bounds}
use Rattle.sql_resolver.specs.Reading.{ScalarReading, WhenReading, case_reading, results_of, first_domain, greatest_bound, tree_if, faults_if}
use Rattle.read_queries.proofs.Kept.{Where}
use Rattle.read_queries.proofs.FaultsNone.{none_left, none_right, not_owed, each_holds}
use Rattle.read_queries.proofs.FormedScalars.{ScalarFormed, OfScalar, OfFactor, factor_by}
use Rattle.read_queries.proofs.JudgedParts.{judged_scalar, judged_cond, judged_when, judged-Case, judged_when_is}

-- two known domains that do not differ are one
pub one_domain : (d e : Domain) → differ (Some d) (Some e) ≡ false → domain_eq d e ≡ true
one_domain Integer Integer is = refl
one_domain Integer CharsDomain is = absurd (false≢true (sym is))
one_domain CharsDomain Integer is = absurd (false≢true (sym is))
one_domain CharsDomain CharsDomain is = refl

all_before : {A : Type 0} (P : A → Type 0) (xs ys : List A) → All P (xs ++ ys) → All P xs
all_before P [] ys all = All-nil P
all_before P (x ∷ xs) ys all = All-cons P x xs (All-head P x (xs ++ ys) all) (all_before P xs ys (All-tail P x (xs ++ ys) all))

all_behind : {A : Type 0} (P : A → Type 0) (xs ys : List A) → All P (xs ++ ys) → All P ys
all_behind P [] ys all = all
all_behind P (x ∷ xs) ys all = all_behind P xs ys (All-tail P x (xs ++ ys) all)

pub record WhenFormed (view : View) (w : WhenReading) : Type 0 where
  pub cond : judged_cond w.cond.tree view ≡ true
  pub value : ScalarFormed view w.value

abbrev pub OfWhenReading : View → WhenReading → Type 0
OfWhenReading view w = w.cond.faults ++ w.value.faults ≡ [] → WhenFormed view w

module _ (view : View) where
  abbrev shape_of : ScalarReading → Shape
  shape_of v = (judged_scalar v.tree view).shape

  abbrev values : List WhenReading → List ScalarReading
  values rs = map (λ (when : WhenReading). when.value) rs

  abbrev judged : WhenReading → JudgedWhen
  judged w = judged_when (record { cond = w.cond.tree; value = w.value.tree }) view

  judged_is : (w : WhenReading) → judged w ≡ record { cond = judged_cond w.cond.tree view; value = judged_scalar w.value.tree view }
  judged_is w = judged_when_is (record { cond = w.cond.tree; value = w.value.tree }) view

  abbrev trees : List WhenReading → List SqlWhen
  trees rs = map (λ (when : WhenReading). let w : SqlWhen = record { cond = when.cond.tree; value = when.value.tree } in w) rs

  abbrev all_judged : List WhenReading → List JudgedWhen
  all_judged rs = map (λ (w : View → JudgedWhen). w view) (map judged_when (trees rs))

  abbrev last_judged : Option ScalarReading → Option JudgedScalar
  last_judged l = judged_at view (option_map judged_scalar (tree_if l))

  value_is : (w : WhenReading) → (judged w).value ≡ judged_scalar w.value.tree view
  value_is w = ap (λ (j : JudgedWhen). j.value) (judged_is w)

  shapes_before : (rs : List WhenReading) (tail : List ScalarReading) → map (λ (w : JudgedWhen). w.value.shape) (all_judged rs) ++ map shape_of tail ≡ map shape_of (values rs ++ tail)
  shapes_before [] tail = refl
  shapes_before (w ∷ rs) tail =
      ap (λ (j : JudgedScalar). j.shape ∷ (map (λ (w : JudgedWhen). w.value.shape) (all_judged rs) ++ map shape_of tail)) (value_is w) ∙ ap (λ ss. shape_of w.value ∷ ss) (shapes_before rs tail)

  shapes_alone : (rs : List WhenReading) → map (λ (w : JudgedWhen). w.value.shape) (all_judged rs) ≡ map shape_of (values rs)
  shapes_alone [] = refl
  shapes_alone (w ∷ rs) = ap (λ (j : JudgedScalar). j.shape ∷ map (λ (w : JudgedWhen). w.value.shape) (all_judged rs)) (value_is w) ∙ ap (λ ss. shape_of w.value ∷ ss) (shapes_alone rs)

  shapes_are : (rs : List WhenReading) (l : Option ScalarReading) → result_shapes (all_judged rs) (last_judged l) ≡ map shape_of (results_of rs l)
  shapes_are rs None = shapes_alone rs
  shapes_are rs (Some v) = shapes_before rs (v ∷ [])

  first_is : (vs : List ScalarReading) → 1 ≤ length vs → All (ScalarFormed view) vs → first_domain vs ≡ Some (shown.first_domain (map shape_of vs))
  first_is [] some all = absurd (omega (arith, some))
  first_is (v ∷ vs) some all = (All-head (ScalarFormed view) v vs all).domain

  greatest_is : (vs : List ScalarReading) → All (ScalarFormed view) vs → greatest_bound vs ≡ Some (shown.greatest_bound (map shape_of vs))
  greatest_is [] all = refl
  greatest_is (v ∷ vs) all =
      ap (λ b. both_bounds max b (greatest_bound vs)) (All-head (ScalarFormed view) v vs all).bound ∙ ap (both_bounds max (Some (shape_of v).bound)) (greatest_is vs (All-tail (ScalarFormed view) v vs all))

  abbrev HasDomain : Domain → ScalarReading → Type 0
  HasDomain d v = domain_eq d (shape_of v).domain ≡ true

  all_agree : (d : Domain) (known : Option Domain) → known ≡ Some d → (vs : List ScalarReading) → All (ScalarFormed view) vs → flat_map (λ (value : ScalarReading). fault_if (differ known value.domain) 305 value.at) vs ≡ [] → All (HasDomain d) vs
  all_agree d known same [] all e = All-nil (HasDomain d)
  all_agree d known same (v ∷ vs) all e =
      let f : ScalarReading → List Fault = λ value. fault_if (differ known value.domain) 305 value.at in
      let is = not_owed (differ known v.domain) 305 v.at (none_left (f v) (flat_map f vs) e) in
      let here = (All-head (ScalarFormed view) v vs all).domain in
      All-cons (HasDomain d) v vs (one_domain d (shape_of v).domain (sym (ap (λ k. differ k v.domain) same ∙ ap (differ (Some d)) here) ∙ is))
      (all_agree d known same vs (All-tail (ScalarFormed view) v vs all) (none_right (f v) (flat_map f vs) e))

  whens_well : (d : Domain) (rs : List WhenReading) → All (WhenFormed view) rs → All (HasDomain d) (values rs) → list_all (is_when d) (all_judged rs) ≡ true
  whens_well d [] all agree = refl
  whens_well d (w ∷ rs) all agree =
      let is = All-head (WhenFormed view) w rs all in
      let c = judged_cond w.cond.tree view in
      let j = judged_scalar w.value.tree view in
      and_from (is_when d (judged w)) (list_all (is_when d) (all_judged rs))
      (ap (is_when d) (judged_is w) ∙ and_from (c && j.well) (domain_eq d j.shape.domain) (and_from c j.well is.cond is.value.well) (All-head (HasDomain d) w.value (values rs) agree))
      (whens_well d rs (All-tail (WhenFormed view) w rs all) (All-tail (HasDomain d) w.value (values rs) agree))

  values_formed : (rs : List WhenReading) → All (WhenFormed view) rs → All (ScalarFormed view) (values rs)
  values_formed [] all = All-nil (ScalarFormed view)
  values_formed (w ∷ rs) all = All-cons (ScalarFormed view) w.value (values rs) (All-head (WhenFormed view) w rs all).value (values_formed rs (All-tail (WhenFormed view) w rs all))

  results_formed : (rs : List WhenReading) (l : Option ScalarReading) → All (WhenFormed view) rs → Where (ScalarFormed view) l → All (ScalarFormed view) (results_of rs l)
  results_formed rs None all is = values_formed rs all
  results_formed rs (Some v) all is = All-append (ScalarFormed view) (values rs) (v ∷ []) (values_formed rs all) (All-cons (ScalarFormed view) v [] is (All-nil (ScalarFormed view)))

  agree_before : (d : Domain) (rs : List WhenReading) (l : Option ScalarReading) → All (HasDomain d) (results_of rs l) → All (HasDomain d) (values rs)
  agree_before d rs None all = all
  agree_before d rs (Some v) all = all_before (HasDomain d) (values rs) (v ∷ []) all

  otherwise_well : (d : Domain) (rs : List WhenReading) (l : Option ScalarReading) → Where (ScalarFormed view) l → All (HasDomain d) (results_of rs l) → is_otherwise d (last_judged l) ≡ true
  otherwise_well d rs None is all = refl
  otherwise_well d rs (Some v) is all =
      let j = judged_scalar v.tree view in
      and_from j.well (domain_eq d j.shape.domain) is.well (All-head (HasDomain d) v [] (all_behind (HasDomain d) (values rs) (v ∷ []) all))

  some_result : (rs : List WhenReading) (l : Option ScalarReading) → 1 ≤ length rs → 1 ≤ length (results_of rs l)
  some_result [] l some = absurd (omega (arith, some))
  some_result (w ∷ rs) None some = omega arith
  some_result (w ∷ rs) (Some v) some = omega arith

  last_formed : (l : Option ScalarReading) → Where (OfScalar view) l → faults_if l ≡ [] → Where (ScalarFormed view) l
  last_formed None is e = tt
  last_formed (Some v) is e = is e

  one_le : (n : ℕ) → 1 ≤ n → nat_le 1 n ≡ true
  one_le n le = grind (arith, nat_tests)

  pub choice_formed : (at : ℕ) (rs : List WhenReading) (l : Option ScalarReading) → 1 ≤ length rs → All (OfWhenReading view) rs → Where (OfScalar view) l → OfFactor view (case_reading at rs l)
  choice_formed at rs l some all is e =
      let results = results_of rs l in
      let f : WhenReading → List Fault = λ when. when.cond.faults ++ when.value.faults in
      let g : ScalarReading → List Fault = λ value. fault_if (differ (first_domain results) value.domain) 305 value.at in
      let parts = none_left (flat_map f rs ++ faults_if l) (flat_map g results) e in
      let each = each_holds f (WhenFormed view) rs all (none_left (flat_map f rs) (faults_if l) parts) in
      let last = last_formed l is (none_right (flat_map f rs) (faults_if l) parts) in
      let formed = results_formed rs l each last in
      let shapes = result_shapes (all_judged rs) (last_judged l) in
      let d = (choice_shape shapes).domain in
      let same : map shape_of results ≡ shapes = sym (shapes_are rs l) in
      let first : first_domain results ≡ Some d = first_is results (some_result rs l some) formed ∙ ap (λ ss. Some (shown.first_domain ss)) same in
      let greatest = greatest_is results formed ∙ ap (λ ss. Some (shown.greatest_bound ss)) same in
      let agree = all_agree d (first_domain results) first results formed (none_right (flat_map f rs ++ faults_if l) (flat_map g results) e) in
      let js = all_judged rs in
      let many : length js ≡ length rs = length-map (map judged_when (trees rs)) (λ (w : View → JudgedWhen). w view) ∙ (length-map (trees rs) judged_when ∙ length-map rs (λ (when : WhenReading). let w : SqlWhen = record { cond = when.cond.tree; value = when.value.tree } in w)) in
      let enough : 1 ≤ length js = omega (arith, some, many) in
      factor_by view (case_reading at rs l) (judged_choice js (last_judged l)) (ap (λ s. judged_scalar s view) (sym (views.rolls-Case (trees rs) (tree_if l))) ∙ judged-Case (trees rs) (tree_if l) view)
      (and_from (nat_le 1 (length js) && list_all (is_when d) js) (is_otherwise d (last_judged l)) (and_from (nat_le 1 (length js)) (list_all (is_when d) js) (one_le (length js) enough) (whens_well d rs each (agree_before d rs l agree))) (otherwise_well d rs l last agree))
      first greatest tt refl
