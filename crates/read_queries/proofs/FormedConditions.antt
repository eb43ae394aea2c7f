-- A condition that is read without a fault is well formed.
use Rattle.std.proofs.Common.{◌≡◌, ◌≤◌, ℕ, Bool, true, false, not, ◌&&◌, List, [], ◌∷◌, ◌++◌, map, length, All, refl, sym, ap, subst, ◌∙◌, arith, Some, None}
use Rattle.std.specs.Prelude.{nat_le}
use Rattle.std.specs.List.{flat_map, list_all}
use Rattle.std.proofs.lemmas.Bool.{and_from}
use Rattle.std.proofs.lemmas.Bool.Decides.{nat_tests}
use Rattle.std.proofs.lemmas.List.{length-map}
use Rattle.std.proofs.lemmas.List.Elements.{All-head, All-tail}
use Rattle.prefsql_values.specs.declared.value.CompareOp.{CompareOp}
use Rattle.prefsql_tables.specs.Table.{Tables}
use Rattle.sql_tree.specs.Shown.{View, ShownColumn}
use Rattle.sql_tree.specs.WellFormed.{JudgedScalar, agrees, domain_eq, is_name}
use Rattle.sql_tree.specs.declared.tree.SqlCond.{SqlCond}
use Rattle.sql_tree.specs.declared.tree.SqlCond.TheViews as views
use Rattle.sql_tree.specs.declared.tree.SqlScalar.{SqlScalar}
use Rattle.sql_text.specs.declared.named.NamedCond.{NamedCond}
use Rattle.sql_text.specs.declared.named.NamedCond as named_cond
use Rattle.sql_text.specs.declared.named.NamedScalar.{NamedScalar}
use Rattle.sql_text.specs.declared.named.NamedQuery.{NamedQuery}
use Rattle.sql_resolver.specs.Owed.{Fault, differ}
use Rattle.sql_resolver.specs.Reading.{In, CondReading, ScalarReading, QueryReading, cond_reading, scalar_reading, query_reading, unlike}
use Rattle.read_queries.proofs.FaultsNone.{none_left, none_right, inner_none, not_owed, all_map, each_holds}
use Rattle.read_queries.proofs.ColumnsMeant.{scope_column, scopes_of}
use Rattle.read_queries.proofs.FormedScalars.{ScalarFormed, OfScalar}
use Rattle.read_queries.proofs.FormedChoices.{one_domain}
use Rattle.read_queries.proofs.JudgedParts.{judged_scalar, judged_cond, judged_query, judged-And, judged-Or, judged-Not, judged-Compare, judged-Between, judged-OneOf, judged-IsNull, judged-Exists}
use Rattle.read_queries.proofs.Readings.{reading-And, reading-Or, reading-Not, reading-Compare, reading-Between, reading-OneOf, reading-IsNull, reading-Exists}

-- a query that is read is well formed, has no order and shows columns with names
pub record QueryFormed (view : View) (r : QueryReading) : Type 0 where
  pub well : (judged_query r.tree view).well ≡ true
  pub plain : (judged_query r.tree view).has_order ≡ false
  pub columns : r.columns ≡ map scope_column (judged_query r.tree view).columns
  pub some : 1 ≤ length (judged_query r.tree view).columns
  pub names : All (λ (column : ShownColumn). is_name column.name ≡ true) (judged_query r.tree view).columns

abbrev pub OfQuery : View → QueryReading → Type 0
OfQuery view r = r.first ≡ None → QueryFormed view r

abbrev pub OfCond : View → CondReading → Type 0
OfCond view r = r.faults ≡ [] → judged_cond r.tree view ≡ true

agree_well : (view : View) (r s : ScalarReading) → ScalarFormed view r → ScalarFormed view s → unlike r s ≡ [] → agrees (judged_scalar r.tree view) (judged_scalar s.tree view) ≡ true
agree_well view r s is also e =
    let j = judged_scalar r.tree view in
    let k = judged_scalar s.tree view in
    let same = not_owed (differ r.domain s.domain) 305 s.at e in
    and_from k.well (domain_eq j.shape.domain k.shape.domain) also.well
    (one_domain j.shape.domain k.shape.domain (sym (ap (λ d. differ d s.domain) is.domain ∙ ap (differ (Some j.shape.domain)) also.domain) ∙ same))

two_le : (n : ℕ) → 2 ≤ n → nat_le 2 n ≡ true
two_le n le = grind (arith, nat_tests)

one_le : (n : ℕ) → 1 ≤ n → nat_le 1 n ≡ true
one_le n le = grind (arith, nat_tests)

module _ (tables : Tables) where
  abbrev pub FormScalar : NamedScalar → Type 0
  FormScalar n = (view : View) → OfScalar view (scalar_reading tables n (scopes_of view))

  abbrev pub FormCond : NamedCond → Type 0
  FormCond n = (view : View) → OfCond view (cond_reading tables n (scopes_of view))

  abbrev pub FormQuery : NamedQuery → Type 0
  FormQuery n = (view : View) → OfQuery view (query_reading tables n (scopes_of view))

  -- ---- chains

  abbrev parts_of : List NamedCond → List (In CondReading)
  parts_of cs = map (cond_reading tables) cs

  abbrev trees_in : View → List NamedCond → List SqlCond
  trees_in view cs = map (λ (part : In CondReading). (part (scopes_of view)).tree) (parts_of cs)

  all_well : (view : View) (rs : List (In CondReading)) → All (λ (part : In CondReading). judged_cond (part (scopes_of view)).tree view ≡ true) rs →
      list_all (λ (part : View → Bool). part view) (map judged_cond (map (λ (part : In CondReading). (part (scopes_of view)).tree) rs)) ≡ true
  all_well view [] all = refl
  all_well view (r ∷ rs) all =
      let P : In CondReading → Type 0 = λ part. judged_cond (part (scopes_of view)).tree view ≡ true in
      and_from (judged_cond (r (scopes_of view)).tree view) (list_all (λ (part : View → Bool). part view) (map judged_cond (map (λ (part : In CondReading). (part (scopes_of view)).tree) rs))) (All-head P r rs all)
      (all_well view rs (All-tail P r rs all))

  parts_well : (view : View) (cs : List NamedCond) → 2 ≤ length cs → All FormCond cs → flat_map (λ (part : In CondReading). (part (scopes_of view)).faults) (parts_of cs) ≡ [] →
      (nat_le 2 (length (map judged_cond (trees_in view cs))) && list_all (λ (part : View → Bool). part view) (map judged_cond (trees_in view cs))) ≡ true
  parts_well view cs two all e =
      let f : In CondReading → List Fault = λ part. (part (scopes_of view)).faults in
      let h : In CondReading → SqlCond = λ part. (part (scopes_of view)).tree in
      let P : In CondReading → Type 0 = λ part. judged_cond (h part) view ≡ true in
      let each = each_holds f P (parts_of cs) (all_map (cond_reading tables) FormCond (λ part. f part ≡ [] → P part) (λ c is. is view) cs all) e in
      let many : length (map judged_cond (trees_in view cs)) ≡ length cs = length-map (trees_in view cs) judged_cond ∙ (length-map (parts_of cs) h ∙ length-map cs (cond_reading tables)) in
      let enough : 2 ≤ length (map judged_cond (trees_in view cs)) = omega (arith, two, many) in
      and_from (nat_le 2 (length (map judged_cond (trees_in view cs)))) (list_all (λ (part : View → Bool). part view) (map judged_cond (trees_in view cs))) (two_le (length (map judged_cond (trees_in view cs))) enough) (all_well view (parts_of cs) each)

  pub and_formed : (cs : List NamedCond) → 2 ≤ length cs → All FormCond cs → FormCond (named_cond.And cs)
  and_formed cs two all view =
      subst (OfCond view) (sym (reading-And tables cs (scopes_of view)))
      (λ e. ap (λ c. judged_cond c view) (sym (views.rolls-And (trees_in view cs))) ∙ (judged-And (trees_in view cs) view ∙ parts_well view cs two all e))

  pub or_formed : (cs : List NamedCond) → 2 ≤ length cs → All FormCond cs → FormCond (named_cond.Or cs)
  or_formed cs two all view =
      subst (OfCond view) (sym (reading-Or tables cs (scopes_of view)))
      (λ e. ap (λ c. judged_cond c view) (sym (views.rolls-Or (trees_in view cs))) ∙ (judged-Or (trees_in view cs) view ∙ parts_well view cs two all e))

  pub not_formed : (c : NamedCond) → FormCond c → FormCond (named_cond.Not c)
  not_formed c is view =
      let t = (cond_reading tables c (scopes_of view)).tree in
      subst (OfCond view) (sym (reading-Not tables c (scopes_of view))) (λ e. ap (λ c. judged_cond c view) (sym (views.rolls-Not t)) ∙ (judged-Not t view ∙ is view e))

  -- ---- tests

  pub compare_formed : (op : CompareOp) (a b : NamedScalar) → FormScalar a → FormScalar b → FormCond (named_cond.Compare op a b)
  compare_formed op a b is also view =
      let r = scalar_reading tables a (scopes_of view) in
      let s = scalar_reading tables b (scopes_of view) in
      subst (OfCond view) (sym (reading-Compare tables op a b (scopes_of view)))
      (λ e.
      let both = none_left (r.faults ++ s.faults) (unlike r s) e in
      let x = is view (none_left r.faults s.faults both) in
      let y = also view (none_right r.faults s.faults both) in
      ap (λ c. judged_cond c view) (sym (views.rolls-Compare op r.tree s.tree))
      ∙ (judged-Compare op r.tree s.tree view ∙ and_from (judged_scalar r.tree view).well (agrees (judged_scalar r.tree view) (judged_scalar s.tree view)) x.well (agree_well view r s x y (none_right (r.faults ++ s.faults) (unlike r s) e))))

  pub between_formed : (negated : Bool) (a low high : NamedScalar) → FormScalar a → FormScalar low → FormScalar high → FormCond (named_cond.Between negated a low high)
  between_formed negated a low high is from upto view =
      let r = scalar_reading tables a (scopes_of view) in
      let s = scalar_reading tables low (scopes_of view) in
      let t = scalar_reading tables high (scopes_of view) in
      let j = judged_scalar r.tree view in
      subst (OfCond view) (sym (reading-Between tables negated a low high (scopes_of view)))
      (λ e.
      let four = none_left (r.faults ++ s.faults ++ t.faults ++ unlike r s) (unlike r t) e in
      let three = none_left (r.faults ++ s.faults ++ t.faults) (unlike r s) four in
      let two = none_left (r.faults ++ s.faults) t.faults three in
      let x = is view (none_left r.faults s.faults two) in
      let y = from view (none_right r.faults s.faults two) in
      let z = upto view (none_right (r.faults ++ s.faults) t.faults three) in
      ap (λ c. judged_cond c view) (sym (views.rolls-Between negated r.tree s.tree t.tree))
      ∙ (judged-Between negated r.tree s.tree t.tree view
      ∙ and_from (j.well && agrees j (judged_scalar s.tree view)) (agrees j (judged_scalar t.tree view))
      (and_from j.well (agrees j (judged_scalar s.tree view)) x.well (agree_well view r s x y (none_right (r.faults ++ s.faults ++ t.faults) (unlike r s) four)))
      (agree_well view r t x z (none_right (r.faults ++ s.faults ++ t.faults ++ unlike r s) (unlike r t) e))))

  list_agrees : (view : View) (r : ScalarReading) (rs : List (In ScalarReading)) → All (λ (b : In ScalarReading). agrees (judged_scalar r.tree view) (judged_scalar (b (scopes_of view)).tree view) ≡ true) rs →
      list_all (λ (b : View → JudgedScalar). agrees (judged_scalar r.tree view) (b view)) (map judged_scalar (map (λ (b : In ScalarReading). (b (scopes_of view)).tree) rs)) ≡ true
  list_agrees view r [] all = refl
  list_agrees view r (s ∷ rs) all =
      let P : In ScalarReading → Type 0 = λ b. agrees (judged_scalar r.tree view) (judged_scalar (b (scopes_of view)).tree view) ≡ true in
      and_from (agrees (judged_scalar r.tree view) (judged_scalar (s (scopes_of view)).tree view)) (list_all (λ (b : View → JudgedScalar). agrees (judged_scalar r.tree view) (b view)) (map judged_scalar (map (λ (b : In ScalarReading). (b (scopes_of view)).tree) rs)))
      (All-head P s rs all) (list_agrees view r rs (All-tail P s rs all))

  pub member_formed : (negated : Bool) (a : NamedScalar) (list : List NamedScalar) → FormScalar a → 1 ≤ length list → All FormScalar list → FormCond (named_cond.OneOf negated a list)
  member_formed negated a list is some all view =
      let r = scalar_reading tables a (scopes_of view) in
      let j = judged_scalar r.tree view in
      let rs : List (In ScalarReading) = map (scalar_reading tables) list in
      let f : In ScalarReading → List Fault = λ b. (b (scopes_of view)).faults ++ unlike r (b (scopes_of view)) in
      let h : In ScalarReading → SqlScalar = λ b. (b (scopes_of view)).tree in
      let P : In ScalarReading → Type 0 = λ b. agrees j (judged_scalar (h b) view) ≡ true in
      let trees = map h rs in
      let many : length (map judged_scalar trees) ≡ length list = length-map trees judged_scalar ∙ (length-map rs h ∙ length-map list (scalar_reading tables)) in
      let enough : 1 ≤ length (map judged_scalar trees) = omega (arith, some, many) in
      subst (OfCond view) (sym (reading-OneOf tables negated a list (scopes_of view)))
      (λ e.
      let x = is view (none_left r.faults (flat_map f rs) e) in
      let each = each_holds f P rs
      (all_map (scalar_reading tables) FormScalar (λ b. f b ≡ [] → P b)
      (λ b of e. let s = scalar_reading tables b (scopes_of view) in agree_well view r s x (of view (none_left s.faults (unlike r s) e)) (none_right s.faults (unlike r s) e)) list all) (none_right r.faults (flat_map f rs) e) in
      ap (λ c. judged_cond c view) (sym (views.rolls-OneOf negated r.tree trees))
      ∙ (judged-OneOf negated r.tree trees view
      ∙ and_from (j.well && nat_le 1 (length (map judged_scalar trees))) (list_all (λ (b : View → JudgedScalar). agrees j (b view)) (map judged_scalar trees))
      (and_from j.well (nat_le 1 (length (map judged_scalar trees))) x.well (one_le (length (map judged_scalar trees)) enough)) (list_agrees view r rs each)))

  pub null_formed : (negated : Bool) (a : NamedScalar) → FormScalar a → FormCond (named_cond.IsNull negated a)
  null_formed negated a is view =
      let t = (scalar_reading tables a (scopes_of view)).tree in
      subst (OfCond view) (sym (reading-IsNull tables negated a (scopes_of view))) (λ e. ap (λ c. judged_cond c view) (sym (views.rolls-IsNull negated t)) ∙ (judged-IsNull negated t view ∙ (is view e).well))

  pub exists_formed : (q : NamedQuery) → FormQuery q → FormCond (named_cond.Exists q)
  exists_formed q is view =
      let r = query_reading tables q (scopes_of view) in
      let j = judged_query r.tree view in
      subst (OfCond view) (sym (reading-Exists tables q (scopes_of view)))
      (λ e.
      let of = is view (inner_none r.at r.first e) in
      ap (λ c. judged_cond c view) (sym (views.rolls-Exists r.tree)) ∙ (judged-Exists r.tree view ∙ and_from j.well (not j.has_order) of.well (ap not of.plain)))
