-- A query without faults has no column whose bound is above the greatest, by induction over its parts.
use Rattle.std.proofs.Common.{◌≡◌, ℕ, ◌+◌, Bool, true, Option, Some, None, List, [], ◌∷◌, ◌++◌, map, refl, sym, ap, subst, ◌∙◌, append-nil}
use Rattle.std.specs.List.{flat_map}
use Rattle.prefsql_lexer.specs.declared.fault.Spot.{Spot}
use Rattle.prefsql_tables.specs.Table.{Tables, columns_of}
use Rattle.prefsql_tables.specs.Names.{table_place}
use Rattle.query_tree.specs.declared.query.FromTree.{FromTree}
use Rattle.sql_text.specs.declared.named.NamedCond.{NamedCond}
use Rattle.sql_text.specs.declared.named.NamedCond.TheOpen.{NamedFrom-F, NamedScalar-F, NamedSelect-F, NamedItem-F, NamedQuery-F, NamedWhen-F}
use Rattle.sql_text.specs.declared.named.NamedCond.TheFolds.{ind-NamedQuery, fold-roll-NamedFrom, fold-roll-NamedScalar, fold-roll-NamedSelect, fold-roll-NamedItem, fold-roll-NamedQuery, fold-roll-NamedWhen}
use Rattle.sql_text.specs.declared.named.NamedFrom.{NamedFrom, roll-NamedFrom, map-NamedFrom}
use Rattle.sql_text.specs.declared.named.NamedScalar.{NamedScalar, roll-NamedScalar, map-NamedScalar}
use Rattle.sql_text.specs.declared.named.NamedSelect.{NamedSelect, roll-NamedSelect, map-NamedSelect}
use Rattle.sql_text.specs.declared.named.NamedItem.{NamedItem, roll-NamedItem, map-NamedItem}
use Rattle.sql_text.specs.declared.named.NamedQuery.{NamedQuery, roll-NamedQuery, map-NamedQuery}
use Rattle.sql_text.specs.declared.named.NamedTerm.{NamedTerm}
use Rattle.sql_text.specs.declared.named.NamedWhen.{NamedWhen, roll-NamedWhen, map-NamedWhen}
use Rattle.sql_resolver.specs.NamesMeant.{places_of}
use Rattle.sql_resolver.specs.Scope.{Scopes, names_in}
use Rattle.sql_resolver.specs.Owed.{Fault, inner_faults}
use Rattle.sql_resolver.specs.Reading.{CondReading, FromReading, In, ItemReading, OutputReading, QueryReading, ScalarReading, TermReading, WhenReading, cond_reading, cond_step, from_reading, from_step, greatest_bound, item_reading, item_step, outputs_from, own_scope, query_reading, query_step, scalar_reading, scalar_step, select_reading, select_step, table_reading, term_reading, term_step, when_reading, when_step}
use Rattle.sql_resolver.proofs.Bounded.{all_small, is_small, is_within, both_true, column_case, greater_small, literal_case, nil_left, nil_right, no_faults, no_first, own_small, small_scope, small_scopes, sum_case, table_small}

abbrev SmallScalar : ScalarReading → Type 0
SmallScalar r = r.faults ≡ [] → is_small r.bound ≡ true

abbrev SmallFrom : FromReading → Type 0
SmallFrom r = r.faults ≡ [] → is_within r.item.columns ≡ true

abbrev SmallOutputs : List OutputReading → Type 0
SmallOutputs rs = flat_map (λ (o : OutputReading). o.faults) rs ≡ [] → is_within (map (λ (o : OutputReading). o.column) rs) ≡ true

abbrev SmallQuery : QueryReading → Type 0
SmallQuery r = r.first ≡ None → is_within r.columns ≡ true

no_inner : (at : ℕ) (first : Option Spot) → inner_faults at first ≡ [] → first ≡ None
no_inner at None e = refl
no_inner at (Some spot) e = absurd (let nope : ⊥ = cc in nope)

module _ (tables : Tables) where
  abbrev PC : NamedCond → Type 0
  PC c = Unit {0}

  abbrev PF : NamedFrom → Type 0
  PF from = SmallFrom (from_reading tables from)

  abbrev PS : NamedScalar → Type 0
  PS s = (scopes : Scopes) → small_scopes scopes ≡ true → SmallScalar (scalar_reading tables s scopes)

  abbrev PL : NamedSelect → Type 0
  PL s = (scopes : Scopes) → small_scopes scopes ≡ true → SmallOutputs (select_reading tables s scopes)

  abbrev PI : NamedItem → Type 0
  PI item = (scopes : Scopes) → small_scopes scopes ≡ true → SmallScalar (item_reading tables item scopes).scalar

  abbrev PQ : NamedQuery → Type 0
  PQ q = (outer : Scopes) → small_scopes outer ≡ true → SmallQuery (query_reading tables q outer)

  abbrev PT : NamedTerm → Type 0
  PT t = Unit {0}

  abbrev PW : NamedWhen → Type 0
  PW when = (scopes : Scopes) → small_scopes scopes ≡ true → SmallScalar (when_reading tables when scopes).value

  abbrev C : Type 0
  C = (x : NamedCond) × PC x

  abbrev F : Type 0
  F = (x : NamedFrom) × PF x

  abbrev S : Type 0
  S = (x : NamedScalar) × PS x

  abbrev L : Type 0
  L = (x : NamedSelect) × PL x

  abbrev I : Type 0
  I = (x : NamedItem) × PI x

  abbrev Q : Type 0
  Q = (x : NamedQuery) × PQ x

  abbrev T : Type 0
  T = (x : NamedTerm) × PT x

  abbrev W : Type 0
  W = (x : NamedWhen) × PW x

  -- ---- scalars

  values_of : Scopes → List W → List WhenReading
  values_of scopes ws = map (λ (w : In WhenReading). w scopes) (map (when_reading tables) (map (λ (e : W). e.0) ws))

  values_small : (scopes : Scopes) → small_scopes scopes ≡ true → (ws : List W) (rest : List ScalarReading)
      → flat_map (λ (w : WhenReading). w.cond.faults ++ w.value.faults) (values_of scopes ws) ≡ [] → is_small (greatest_bound rest) ≡ true
      → is_small (greatest_bound (map (λ (w : WhenReading). w.value) (values_of scopes ws) ++ rest)) ≡ true
  unfolding values_of
  values_small scopes h [] rest e k = k
  values_small scopes h (w ∷ ws) rest e k =
      let r : WhenReading = when_reading tables w.0 scopes in
      let own = nil_left (r.cond.faults ++ r.value.faults) (flat_map (λ (w : WhenReading). w.cond.faults ++ w.value.faults) (values_of scopes ws)) e in
      let later = nil_right (r.cond.faults ++ r.value.faults) (flat_map (λ (w : WhenReading). w.cond.faults ++ w.value.faults) (values_of scopes ws)) e in
      greater_small r.value.bound (greatest_bound (map (λ (w : WhenReading). w.value) (values_of scopes ws) ++ rest))
      (w.1 scopes h (nil_right r.cond.faults r.value.faults own)) (values_small scopes h ws rest later k)

  scalar_any : (y : NamedScalar-F C F S L I Q T W) → PS (roll-NamedScalar (map-NamedScalar C F S L I Q T W NamedCond NamedFrom NamedScalar NamedSelect NamedItem NamedQuery NamedTerm NamedWhen (λ e. e.0) (λ e. e.0) (λ e. e.0) (λ e. e.0) (λ e. e.0) (λ e. e.0) (λ e. e.0) (λ e. e.0) y))
  unfolding cond_reading from_reading scalar_reading select_reading item_reading query_reading term_reading when_reading values_of
  scalar_any (NamedScalar-F.Column name) =
      λ scopes h. subst SmallScalar (sym (λ j. fold-roll-NamedScalar _ _ _ _ _ _ _ _ cond_step (from_step tables) scalar_step select_step item_step (query_step tables) term_step when_step (NamedScalar-F.Column name) j scopes)) (λ e. column_case name scopes (places_of name.first name.second 0 (names_in scopes)) h)
  scalar_any (NamedScalar-F.Literal literal) =
      λ scopes h. subst SmallScalar (sym (λ j. fold-roll-NamedScalar _ _ _ _ _ _ _ _ cond_step (from_step tables) scalar_step select_step item_step (query_step tables) term_step when_step (NamedScalar-F.Literal literal) j scopes)) (λ e. literal_case literal.value literal.at)
  scalar_any (NamedScalar-F.Sum ts) =
      λ scopes h. subst SmallScalar (sym (λ j. fold-roll-NamedScalar _ _ _ _ _ _ _ _ cond_step (from_step tables) scalar_step select_step item_step (query_step tables) term_step when_step (NamedScalar-F.Sum (map (λ (e : T). e.0) ts)) j scopes))
      (λ e. sum_case (map (λ (t : In TermReading). t scopes) (map (term_reading tables) (map (λ (e : T). e.0) ts))) (nil_right _ _ e))
  scalar_any (NamedScalar-F.Case at ws last) = by_last last
    where
      by_last : (last : Option S) → PS (roll-NamedScalar (map-NamedScalar C F S L I Q T W NamedCond NamedFrom NamedScalar NamedSelect NamedItem NamedQuery NamedTerm NamedWhen (λ e. e.0) (λ e. e.0) (λ e. e.0) (λ e. e.0) (λ e. e.0) (λ e. e.0) (λ e. e.0) (λ e. e.0) (NamedScalar-F.Case at ws last)))
      by_last None =
          λ scopes h. subst SmallScalar (sym (λ j. fold-roll-NamedScalar _ _ _ _ _ _ _ _ cond_step (from_step tables) scalar_step select_step item_step (query_step tables) term_step when_step (NamedScalar-F.Case at (map (λ (e : W). e.0) ws) None) j scopes))
          (λ e. ap (λ values. is_small (greatest_bound values)) (sym (append-nil (map (λ (w : WhenReading). w.value) (values_of scopes ws))))
          ∙ values_small scopes h ws [] (nil_left _ _ (nil_left _ _ e)) refl)
      by_last (Some v) =
          λ scopes h. subst SmallScalar (sym (λ j. fold-roll-NamedScalar _ _ _ _ _ _ _ _ cond_step (from_step tables) scalar_step select_step item_step (query_step tables) term_step when_step (NamedScalar-F.Case at (map (λ (e : W). e.0) ws) (Some v.0)) j scopes))
          (λ e. values_small scopes h ws (scalar_reading tables v.0 scopes ∷ []) (nil_left _ _ (nil_left _ _ e))
          (greater_small (scalar_reading tables v.0 scopes).bound (Some 0) (v.1 scopes h (nil_right (flat_map (λ (w : WhenReading). w.cond.faults ++ w.value.faults) (values_of scopes ws)) (scalar_reading tables v.0 scopes).faults (nil_left _ _ e))) refl))

  -- ---- output columns

  items_of : Scopes → List I → List ItemReading
  items_of scopes es = map (λ (item : In ItemReading). item scopes) (map (item_reading tables) (map (λ (e : I). e.0) es))

  items_small : (scopes : Scopes) → small_scopes scopes ≡ true → (at : ℕ) (es : List I) → SmallOutputs (outputs_from at (items_of scopes es))
  unfolding items_of
  items_small scopes h at [] e = refl
  items_small scopes h at (item ∷ more) e =
      let r : ItemReading = item_reading tables item.0 scopes in
      let rest : List OutputReading = outputs_from (at + 1) (items_of scopes more) in
      both_true (is_small r.scalar.bound) (is_within (map (λ (o : OutputReading). o.column) rest))
      (item.1 scopes h (nil_left r.scalar.faults (flat_map (λ (o : OutputReading). o.faults) rest) e))
      (items_small scopes h (at + 1) more (nil_right r.scalar.faults (flat_map (λ (o : OutputReading). o.faults) rest) e))

  select_any : (y : NamedSelect-F C F S L I Q T W) → PL (roll-NamedSelect (map-NamedSelect C F S L I Q T W NamedCond NamedFrom NamedScalar NamedSelect NamedItem NamedQuery NamedTerm NamedWhen (λ e. e.0) (λ e. e.0) (λ e. e.0) (λ e. e.0) (λ e. e.0) (λ e. e.0) (λ e. e.0) (λ e. e.0) y))
  unfolding cond_reading from_reading scalar_reading select_reading item_reading query_reading term_reading when_reading items_of
  select_any NamedSelect-F.All =
      λ scopes h. subst SmallOutputs (sym (λ j. fold-roll-NamedSelect _ _ _ _ _ _ _ _ cond_step (from_step tables) scalar_step select_step item_step (query_step tables) term_step when_step NamedSelect-F.All j scopes)) (λ e. all_small 0 (own_scope scopes) (own_small scopes h))
  select_any (NamedSelect-F.Items es) =
      λ scopes h. subst SmallOutputs (sym (λ j. fold-roll-NamedSelect _ _ _ _ _ _ _ _ cond_step (from_step tables) scalar_step select_step item_step (query_step tables) term_step when_step (NamedSelect-F.Items (map (λ (e : I). e.0) es)) j scopes)) (items_small scopes h 1 es)

  -- ---- FROM items

  table_case : (tree : FromTree) (place : Option ℕ) → SmallFrom (table_reading tables tree place)
  table_case tree None e = refl
  table_case tree (Some index) e = table_small (columns_of tables index)

  from_any : (y : NamedFrom-F C F S L I Q T W) → PF (roll-NamedFrom (map-NamedFrom C F S L I Q T W NamedCond NamedFrom NamedScalar NamedSelect NamedItem NamedQuery NamedTerm NamedWhen (λ e. e.0) (λ e. e.0) (λ e. e.0) (λ e. e.0) (λ e. e.0) (λ e. e.0) (λ e. e.0) (λ e. e.0) y))
  unfolding cond_reading from_reading scalar_reading select_reading item_reading query_reading term_reading when_reading
  from_any (NamedFrom-F.Table tree) =
      subst SmallFrom (sym (λ j. fold-roll-NamedFrom _ _ _ _ _ _ _ _ cond_step (from_step tables) scalar_step select_step item_step (query_step tables) term_step when_step (NamedFrom-F.Table tree) j)) (table_case tree (table_place tables tree.table))
  from_any (NamedFrom-F.Derived q name at) =
      subst SmallFrom (sym (λ j. fold-roll-NamedFrom _ _ _ _ _ _ _ _ cond_step (from_step tables) scalar_step select_step item_step (query_step tables) term_step when_step (NamedFrom-F.Derived q.0 name at) j))
      (λ e. q.1 [] refl (no_inner (query_reading tables q.0 []).at (query_reading tables q.0 []).first e))

  froms_of : List F → List FromReading
  froms_of fs = map (from_reading tables) (map (λ (e : F). e.0) fs)

  froms_small : (fs : List F) → flat_map (λ (from : FromReading). from.faults) (froms_of fs) ≡ [] → small_scope (map (λ (from : FromReading). from.item) (froms_of fs)) ≡ true
  unfolding froms_of
  froms_small [] e = refl
  froms_small (f ∷ fs) e =
      let r : FromReading = from_reading tables f.0 in
      let rest : List Fault = flat_map (λ (from : FromReading). from.faults) (froms_of fs) in
      both_true (is_within r.item.columns) (small_scope (map (λ (from : FromReading). from.item) (froms_of fs)))
      (f.1 (nil_left r.faults rest e)) (froms_small fs (nil_right r.faults rest e))

  -- ---- queries

  query_case : (at : ℕ) (distinct : Bool) (select : L) (fs : List F) (filter : Option (In CondReading)) (outer : Scopes) → small_scopes outer ≡ true
      → SmallQuery (query_step tables (record { at = at; distinct = distinct; select = select_reading tables select.0; from = froms_of fs; filter = filter }) outer)
  query_case at distinct select fs filter outer h e =
      let scopes : Scopes = map (λ (from : FromReading). from.item) (froms_of fs) ∷ outer in
      let one = no_first _ _ e in
      let two = no_first _ _ one.1 in
      let from_none = nil_left (flat_map (λ (from : FromReading). from.faults) (froms_of fs)) _ (no_faults _ one.0) in
      select.1 scopes (both_true (small_scope (map (λ (from : FromReading). from.item) (froms_of fs))) (small_scopes outer) (froms_small fs from_none) h) (no_faults _ two.0)

  query_any : (y : NamedQuery-F C F S L I Q T W) → PQ (roll-NamedQuery (map-NamedQuery C F S L I Q T W NamedCond NamedFrom NamedScalar NamedSelect NamedItem NamedQuery NamedTerm NamedWhen (λ e. e.0) (λ e. e.0) (λ e. e.0) (λ e. e.0) (λ e. e.0) (λ e. e.0) (λ e. e.0) (λ e. e.0) y))
  unfolding cond_reading from_reading scalar_reading select_reading item_reading query_reading term_reading when_reading froms_of
  query_any y = by_filter y.filter
    where
      by_filter : (c : Option C) → PQ (roll-NamedQuery (map-NamedQuery C F S L I Q T W NamedCond NamedFrom NamedScalar NamedSelect NamedItem NamedQuery NamedTerm NamedWhen (λ e. e.0) (λ e. e.0) (λ e. e.0) (λ e. e.0) (λ e. e.0) (λ e. e.0) (λ e. e.0) (λ e. e.0) (record { at = y.at; distinct = y.distinct; select = y.select; from = y.from; filter = c })))
      by_filter None =
          λ outer h. subst SmallQuery (sym (λ j. fold-roll-NamedQuery _ _ _ _ _ _ _ _ cond_step (from_step tables) scalar_step select_step item_step (query_step tables) term_step when_step (record { at = y.at; distinct = y.distinct; select = y.select.0; from = map (λ (e : F). e.0) y.from; filter = None }) j outer))
          (query_case y.at y.distinct y.select y.from None outer h)
      by_filter (Some c) =
          λ outer h. subst SmallQuery (sym (λ j. fold-roll-NamedQuery _ _ _ _ _ _ _ _ cond_step (from_step tables) scalar_step select_step item_step (query_step tables) term_step when_step (record { at = y.at; distinct = y.distinct; select = y.select.0; from = map (λ (e : F). e.0) y.from; filter = Some c.0 }) j outer))
          (query_case y.at y.distinct y.select y.from (Some (cond_reading tables c.0)) outer h)

  item_any : (y : NamedItem-F C F S L I Q T W) → PI (roll-NamedItem (map-NamedItem C F S L I Q T W NamedCond NamedFrom NamedScalar NamedSelect NamedItem NamedQuery NamedTerm NamedWhen (λ e. e.0) (λ e. e.0) (λ e. e.0) (λ e. e.0) (λ e. e.0) (λ e. e.0) (λ e. e.0) (λ e. e.0) y))
  unfolding cond_reading from_reading scalar_reading select_reading item_reading query_reading term_reading when_reading
  item_any y =
      λ scopes h. subst (λ (r : ItemReading). SmallScalar r.scalar) (sym (λ j. fold-roll-NamedItem _ _ _ _ _ _ _ _ cond_step (from_step tables) scalar_step select_step item_step (query_step tables) term_step when_step (record { value = y.value.0; name = y.name }) j scopes)) (y.value.1 scopes h)

  when_any : (y : NamedWhen-F C F S L I Q T W) → PW (roll-NamedWhen (map-NamedWhen C F S L I Q T W NamedCond NamedFrom NamedScalar NamedSelect NamedItem NamedQuery NamedTerm NamedWhen (λ e. e.0) (λ e. e.0) (λ e. e.0) (λ e. e.0) (λ e. e.0) (λ e. e.0) (λ e. e.0) (λ e. e.0) y))
  unfolding cond_reading from_reading scalar_reading select_reading item_reading query_reading term_reading when_reading
  when_any y =
      λ scopes h. subst (λ (r : WhenReading). SmallScalar r.value) (sym (λ j. fold-roll-NamedWhen _ _ _ _ _ _ _ _ cond_step (from_step tables) scalar_step select_step item_step (query_step tables) term_step when_step (record { cond = y.cond.0; value = y.value.0 }) j scopes)) (y.value.1 scopes h)

  pub query_small : (q : NamedQuery) → PQ q
  query_small = ind-NamedQuery PC PF PS PL PI PQ PT PW
      (λ x y is. tt)
      (λ x y is. subst (λ z. PF (roll-NamedFrom z)) is (from_any y))
      (λ x y is. subst (λ z. PS (roll-NamedScalar z)) is (scalar_any y))
      (λ x y is. subst (λ z. PL (roll-NamedSelect z)) is (select_any y))
      (λ x y is. subst (λ z. PI (roll-NamedItem z)) is (item_any y))
      (λ x y is. subst (λ z. PQ (roll-NamedQuery z)) is (query_any y))
      (λ x y is. tt)
      (λ x y is. subst (λ z. PW (roll-NamedWhen z)) is (when_any y))
