-- What is written of a well-formed scalar means that scalar again, and no obligation is false.
use Rattle.std.proofs.Common.{◌≡◌, ℕ, ℤ, ◌+◌, ◌<◌, suc, ◌≤◌, get_or, Bool, true, false, not, ◌&&◌, List, [], ◌∷◌, ◌++◌, map, length, refl, sym, ap, ◌∙◌, subst, arith, Option, Some, None}
use Rattle.std.proofs.Math.ListN.{get_or-map}
use Rattle.std.proofs.lemmas.List.{get_or-map as get_or-map_in}
use Rattle.std.specs.Prelude.{slice_index_or, nat_le, nat_lt, max, ◌==◌}
use Rattle.std.specs.List.{list_all, flat_map}
use Rattle.std.specs.Option.{option_map}
use Rattle.std.proofs.lemmas.Bool.{and_parts, false≢true, eqb-true}
use Rattle.std.proofs.lemmas.Bool.Decides.{nat_tests}
use Rattle.prefsql_tables.specs.Table.{Tables}
use Rattle.prefsql_values.specs.declared.value.Domain.{Domain}
use Rattle.prefsql_values.specs.declared.value.Domain.TheVariants.{Integer}
use Rattle.prefsql_values.specs.declared.value.Value.TheVariants.{Num, Str}
use Rattle.sql_tree.specs.Shown.{View, ShownItem, ShownColumn, Shape, number_shape, text_shape, domain_shape, table_columns}
use Rattle.sql_tree.specs.Shown as shown
use Rattle.sql_tree.specs.declared.tree.SumTerm.{SumTerm}
use Rattle.sql_text.specs.declared.named.NamedTerm.{NamedTerm}
use Rattle.sql_read_back.proofs.ScalarsWritten.{IsTerm}
use Rattle.sql_read_back.proofs.Judged.{judged_term, judged_when, judged_cond, judged_scalar}
use Rattle.sql_tree.specs.declared.tree.SqlWhen.{SqlWhen}
use Rattle.sql_text.specs.declared.named.NamedWhen.{NamedWhen}
use Rattle.sql_read_back.proofs.Round.{WhenIs, ElseIs}
use Rattle.sql_tree.specs.WellFormed.{JudgedTerm, JudgedWhen, is_when, is_term, term_shapes, first_is_plus, is_bounded, JudgedScalar, is_name, domain_eq, is_in_range, is_told, is_otherwise, judged_at, result_shapes}
use Rattle.sql_tree.specs.declared.tree.SqlCond.{SqlCond}
use Rattle.sql_tree.specs.declared.tree.SqlCond.TheOpen.{SqlScalar-F}
use Rattle.sql_tree.specs.declared.tree.SqlCond.TheViews as views
use Rattle.sql_tree.specs.declared.tree.SqlScalar.{SqlScalar, roll-SqlScalar}
use Rattle.sql_tree.specs.declared.tree.SqlScalar as scalar_tree
use Rattle.sql_tree.specs.declared.tree.SqlPlace.{SqlPlace}
use Rattle.sql_tree.specs.declared.tree.SqlTable.{SqlTable}
use Rattle.sql_text.specs.Text.{Names, item_at}
use Rattle.sql_read_back.proofs.Writable.{FineScalar, FineTerm, is_term as fine_is_term, fine_cond, fine_scalar, fine_term, fine_when, last_fine}
use Rattle.sql_resolver.specs.NamesMeant.{places_of}
use Rattle.sql_read_back.proofs.Found.{is_only, written_name, is_found}
use Rattle.sql_text.specs.declared.named.NamedScalar.{NamedScalar}
use Rattle.sql_text.specs.declared.named.NamedScalar as named_scalar
use Rattle.sql_read_back.proofs.FineEquations.{fine-Column, fine-Sum, fine_term_is, fine-Case, fine_when_is}
use Rattle.sql_read_back.proofs.Placed.{Each}
use Rattle.sql_resolver.specs.Scope.{ScopeColumn, ScopeItem, names_in, column_at, no_column, no_scope_item}
use Rattle.sql_resolver.specs.Owed.{fault_if, differ, is_text, both_bounds, max_bound}
use Rattle.sql_resolver.specs.Reading.{In, ScalarReading, greatest_bound, WhenReading, when_reading, results_of, first_domain, tree_if, faults_if, column_reading, cond_reading, scalar_reading, TermReading, term_reading, sum_bound as reading_bound, bound_step, bound_faults}
use Rattle.sql_read_back.proofs.JudgedEquations.{judged-Column, judged-Number, judged-Chars, judged-Sum, judged_term_is, judged-Case, judged_when_is}
use Rattle.sql_read_back.proofs.Readings.{reading-Column, reading-Literal, reading-Sum, term_reading_is, reading-Case, when_reading_is, last_reading}
use Rattle.sql_read_back.proofs.Back.{CondBack, QC, QF, QQ, QS, ScalarBack, no_difference, none_both, same_domain, scope_column, scope_item, scopes_of}

module _ (ok : SqlTable → Bool) (tables : Tables) where
  -- ---- columns and literals

  pub number_back : (names : Names) (n : ℤ) (at : ℕ) → QS ok tables names (roll-SqlScalar (SqlScalar-F.Number n)) (named_scalar.Literal (record { value = Num n; at = at }))
  number_back names n at view same well fine =
      let is = reading-Literal tables (record { value = Num n; at = at }) (scopes_of view) in
      let j = judged-Number n view in
      record {
        tree = ap (λ (r : ScalarReading). r.tree) is ∙ sym (views.rolls-Number n);
        domain = ap (λ (r : ScalarReading). r.domain) is ∙ ap (λ (k : JudgedScalar). Some k.shape.domain) (sym j);
        bound = ap (λ (r : ScalarReading). r.bound) is ∙ ap (λ (k : JudgedScalar). Some k.shape.bound) (sym j);
        faults = ap (λ (r : ScalarReading). r.faults) is;
      }

  pub text_back : (names : Names) (t : List ℕ) (at : ℕ) → QS ok tables names (roll-SqlScalar (SqlScalar-F.Chars t)) (named_scalar.Literal (record { value = Str t; at = at }))
  text_back names t at view same well fine =
      let is = reading-Literal tables (record { value = Str t; at = at }) (scopes_of view) in
      let j = judged-Chars t view in
      record {
        tree = ap (λ (r : ScalarReading). r.tree) is ∙ sym (views.rolls-Chars t);
        domain = ap (λ (r : ScalarReading). r.domain) is ∙ ap (λ (k : JudgedScalar). Some k.shape.domain) (sym j);
        bound = ap (λ (r : ScalarReading). r.bound) is ∙ ap (λ (k : JudgedScalar). Some k.shape.bound) (sym j);
        faults = ap (λ (r : ScalarReading). r.faults) is;
      }

  only_place : (ps : List SqlPlace) (place : SqlPlace) → is_only ps place ≡ true → ps ≡ place ∷ []
  only_place [] place e = absurd (false≢true e)
  only_place (p ∷ []) place e =
      let a = and_parts (p.up == place.up) (p.item == place.item && p.column == place.column) e in
      let b = and_parts (p.item == place.item) (p.column == place.column) a.1 in
      let up = eqb-true p.up place.up a.0 in
      let item = eqb-true p.item place.item b.0 in
      let column = eqb-true p.column place.column b.1 in
      let one : p ≡ place =
      ap (λ u. let q : SqlPlace = record { up = u; item = p.item; column = p.column } in q) up
      ∙ (ap (λ i. let q : SqlPlace = record { up = place.up; item = i; column = p.column } in q) item ∙ ap (λ c. let q : SqlPlace = record { up = place.up; item = place.item; column = c } in q) column) in
      ap (λ q. q ∷ []) one
  only_place (p ∷ (q ∷ more)) place e = absurd (false≢true e)

  in_range : (m n : ℕ) → nat_lt m n ≡ true → m < n
  in_range m n e = grind (arith, nat_tests)

  -- the column that is seen at a place in range
  column_seen : (view : View) (place : SqlPlace) → is_in_range view place ≡ true → column_at (scopes_of view) place ≡ scope_column (shown.column_at view place)
  column_seen view place e =
      let p = and_parts (nat_lt place.up (length view) && nat_lt place.item (length (shown.items_at view place.up))) (nat_lt place.column (length (shown.item_at view place.up place.item).columns)) e in
      let items : get_or (scopes_of view) place.up [] ≡ map scope_item (shown.items_at view place.up) = get_or-map (map scope_item) view place.up [] in
      let item : get_or (map scope_item (shown.items_at view place.up)) place.item no_scope_item ≡ scope_item (shown.item_at view place.up place.item) = get_or-map scope_item (shown.items_at view place.up) place.item (record { name = []; columns = [] }) in
      let columns = (shown.item_at view place.up place.item).columns in
      ap (λ is. get_or (get_or is place.item no_scope_item).columns place.column no_column) items
      ∙ (ap (λ (i : ScopeItem). get_or i.columns place.column no_column) item ∙ get_or-map_in scope_column columns place.column (record { name = []; shape = number_shape }) no_column (in_range place.column (length columns) p.1))

  pub column_back : (names : Names) (place : SqlPlace) (at : ℕ) → QS ok tables names (roll-SqlScalar (SqlScalar-F.Column place)) (named_scalar.Column (written_name names place at))
  column_back names place at view same well fine =
      let name = written_name names place at in
      let scopes = scopes_of view in
      let f = and_parts (is_found names place) (is_name (item_at names place).name && is_name (slice_index_or (item_at names place).columns place.column [])) (sym (ap (λ (k : FineScalar). k.fine) (fine-Column ok place names)) ∙ fine) in
      let found : places_of name.first name.second 0 names ≡ place ∷ [] = only_place (places_of name.first name.second 0 names) place f.0 in
      let here : places_of name.first name.second 0 (names_in scopes) ≡ place ∷ [] = ap (λ ns. places_of name.first name.second 0 ns) same ∙ found in
      let is = reading-Column tables name scopes ∙ ap (column_reading name scopes) here in
      let j = judged-Column place view in
      let range : is_in_range view place ≡ true = (and_parts (is_in_range view place) (is_told view place) (sym (ap (λ (k : JudgedScalar). k.well) j) ∙ well)).0 in
      let seen = column_seen view place range in
      record {
        tree = ap (λ (r : ScalarReading). r.tree) is ∙ sym (views.rolls-Column place);
        domain = ap (λ (r : ScalarReading). r.domain) is ∙ (ap (λ (c : ScopeColumn). c.domain) seen ∙ ap (λ (k : JudgedScalar). Some k.shape.domain) (sym j));
        bound = ap (λ (r : ScalarReading). r.bound) is ∙ (ap (λ (c : ScopeColumn). c.bound) seen ∙ ap (λ (k : JudgedScalar). Some k.shape.bound) (sym j));
        faults = ap (λ (r : ScalarReading). r.faults) is;
      }

  -- ---- sums

  -- a term that is written with its sign
  abbrev pub TermQS : Names → SumTerm → NamedScalar → Type 0
  TermQS names z n = QS ok tables names z.scalar n

  pub record TermsBack (zs : List SumTerm) (ns : List NamedTerm) (view : View) : Type 0 where
    pub trees : map (λ (term : TermReading). let t : SumTerm = record { minus = term.minus; scalar = term.scalar.tree } in t) (map (λ (term : In TermReading). term (scopes_of view)) (map (term_reading tables) ns)) ≡ zs
    pub bound : reading_bound (map (λ (term : In TermReading). term (scopes_of view)) (map (term_reading tables) ns)) ≡ Some (shown.sum_bound (term_shapes (map (λ (term : View → JudgedTerm). term view) (map judged_term zs))))
    pub faults : flat_map (λ (term : TermReading). term.scalar.faults ++ fault_if (is_text term.scalar.domain) 305 term.scalar.at) (map (λ (term : In TermReading). term (scopes_of view)) (map (term_reading tables) ns)) ≡ []
    pub within : (total : ℕ) → total + shown.sum_bound (term_shapes (map (λ (term : View → JudgedTerm). term view) (map judged_term zs))) ≤ max_bound →
        bound_faults total (map (λ (term : In TermReading). term (scopes_of view)) (map (term_reading tables) ns)) ≡ []

  not_above : (m n : ℕ) → m ≤ n → nat_lt n m ≡ false
  not_above m n h = grind (arith, nat_tests)

  terms_back : (names : Names) (view : View) → names_in (scopes_of view) ≡ names → (zs : List SumTerm) (ns : List NamedTerm) → Each (IsTerm (λ (z : SumTerm). z.minus) (TermQS names)) zs ns →
      list_all is_term (map (λ (term : View → JudgedTerm). term view) (map judged_term zs)) ≡ true → list_all fine_is_term (map (λ (term : Names → FineTerm). term names) (map (fine_term ok) zs)) ≡ true → TermsBack zs ns view
  terms_back names view same [] [] each well fine = record { trees = refl; bound = refl; faults = refl; within = λ total h. refl }
  terms_back names view same [] (n ∷ ns) each well fine = absurd each
  terms_back names view same (z ∷ zs) [] each well fine = absurd each
  terms_back names view same (z ∷ zs) (n ∷ ns) each well fine =
      let scopes = scopes_of view in
      let jt : judged_term z view ≡ record { minus = z.minus; scalar = judged_scalar z.scalar view } = judged_term_is z view in
      let w = and_parts (is_term (judged_term z view)) (list_all is_term (map (λ (term : View → JudgedTerm). term view) (map judged_term zs))) well in
      let J = judged_scalar z.scalar view in
      let v = and_parts (J.well && domain_eq J.shape.domain Integer) (not J.is_sum) (sym (ap is_term jt) ∙ w.0) in
      let u = and_parts J.well (domain_eq J.shape.domain Integer) v.0 in
      let f = and_parts (fine_is_term (fine_term ok z names)) (list_all fine_is_term (map (λ (term : Names → FineTerm). term names) (map (fine_term ok) zs))) fine in
      let g = and_parts (fine_scalar ok z.scalar names).fine (not (fine_scalar ok z.scalar names).is_sum) (sym (ap fine_is_term (fine_term_is ok z names)) ∙ f.0) in
      let one : ScalarBack ok tables z.scalar n.scalar view = each.0.scalar view same u.0 g.0 in
      let more = terms_back names view same zs ns each.1 w.1 f.1 in
      let N = scalar_reading tables n.scalar scopes in
      let rt : term_reading tables n scopes ≡ record { minus = n.minus; scalar = N } = term_reading_is tables n scopes in
      let others = map (λ (term : In TermReading). term scopes) (map (term_reading tables) ns) in
      let other_shapes = term_shapes (map (λ (term : View → JudgedTerm). term view) (map judged_term zs)) in
      let T : Bool → SqlScalar → SumTerm = λ m s. record { minus = m; scalar = s } in
      let integer : J.shape.domain ≡ Integer = same_domain J.shape.domain Integer u.1 in
      let shape : (judged_term z view).scalar.shape.bound ≡ J.shape.bound = ap (λ (t : JudgedTerm). t.scalar.shape.bound) jt in
      let sum : (judged_term z view).scalar.shape.bound + shown.sum_bound other_shapes ≡ J.shape.bound + shown.sum_bound other_shapes = ap (λ b. b + shown.sum_bound other_shapes) shape in
      let bounded : (term_reading tables n scopes).scalar.bound ≡ Some J.shape.bound = ap (λ (t : TermReading). t.scalar.bound) rt ∙ one.bound in
      record {
        trees = ap (λ (t : TermReading). T t.minus t.scalar.tree ∷ map (λ (term : TermReading). T term.minus term.scalar.tree) others) rt
            ∙ (ap (λ m. T m N.tree ∷ map (λ (term : TermReading). T term.minus term.scalar.tree) others) each.0.sign ∙ (ap (λ s. T z.minus s ∷ map (λ (term : TermReading). T term.minus term.scalar.tree) others) one.tree ∙ ap (λ ts. z ∷ ts) more.trees));
        bound = ap (λ b. both_bounds (λ m n. m + n) b (reading_bound others)) bounded ∙ (ap (λ b. both_bounds (λ m n. m + n) (Some J.shape.bound) b) more.bound ∙ ap Some (sym sum));
        faults = ap (λ (t : TermReading). (t.scalar.faults ++ fault_if (is_text t.scalar.domain) 305 t.scalar.at) ++ flat_map (λ (term : TermReading). term.scalar.faults ++ fault_if (is_text term.scalar.domain) 305 term.scalar.at) others) rt
            ∙ none_both (N.faults ++ fault_if (is_text N.domain) 305 N.at) (flat_map (λ (term : TermReading). term.scalar.faults ++ fault_if (is_text term.scalar.domain) 305 term.scalar.at) others)
            (none_both N.faults (fault_if (is_text N.domain) 305 N.at) one.faults (ap (λ d. fault_if (is_text d) 305 N.at) (one.domain ∙ ap Some integer))) more.faults;
        within = (λ total h.
            let here : nat_lt max_bound (total + J.shape.bound) ≡ false = not_above (total + J.shape.bound) max_bound (omega (arith, h, shape)) in
            let later : bound_faults (total + J.shape.bound) others ≡ [] = more.within (total + J.shape.bound) (omega (arith, h, shape)) in
            ap (λ (t : TermReading). bound_step total t.scalar.at t.scalar.bound (λ sum. bound_faults sum others)) rt
            ∙ (ap (λ b. bound_step total N.at b (λ sum. bound_faults sum others)) one.bound ∙ rw here later));
      }

  pub sum_back : (names : Names) (t u : SumTerm) (ts : List SumTerm) (s : NamedScalar) (n : NamedTerm) (ns : List NamedTerm) → t.minus ≡ false → QS ok tables names t.scalar s → Each (IsTerm (λ (z : SumTerm). z.minus) (TermQS names)) (u ∷ ts) (n ∷ ns) →
      QS ok tables names (roll-SqlScalar (SqlScalar-F.Sum (t ∷ (u ∷ ts)))) (named_scalar.Sum (record { minus = false; scalar = s } ∷ (n ∷ ns)))
  sum_back names t u ts s n ns plus p each view same well fine =
      let zs : List SumTerm = t ∷ (u ∷ ts) in
      let first : NamedTerm = record { minus = false; scalar = s } in
      let all : List NamedTerm = first ∷ (n ∷ ns) in
      let scopes = scopes_of view in
      let j = judged-Sum zs view in
      let terms = map (λ (term : View → JudgedTerm). term view) (map judged_term zs) in
      let shape : Shape = record { domain = Integer; bound = shown.sum_bound (term_shapes terms) } in
      let w = and_parts ((nat_le 2 (length terms) && list_all is_term terms) && first_is_plus terms) (is_bounded shape) (sym (ap (λ (k : JudgedScalar). k.well) j) ∙ well) in
      let v = and_parts (nat_le 2 (length terms) && list_all is_term terms) (first_is_plus terms) w.0 in
      let x = and_parts (nat_le 2 (length terms)) (list_all is_term terms) v.0 in
      let fines = map (λ (term : Names → FineTerm). term names) (map (fine_term ok) zs) in
      let rest = map (λ (term : Names → FineTerm). term names) (map (fine_term ok) (u ∷ ts)) in
      let f = and_parts (not (fine_term ok t names).minus) (nat_le 1 (length rest) && list_all fine_is_term fines) (sym (ap (λ (k : FineScalar). k.fine) (fine-Sum ok zs names)) ∙ fine) in
      let g = and_parts (nat_le 1 (length rest)) (list_all fine_is_term fines) f.1 in
      let back = terms_back names view same zs all (record { sign = sym plus; scalar = p }, each) x.1 g.1 in
      let is = reading-Sum tables all scopes in
      let small : shown.sum_bound (term_shapes terms) ≤ max_bound = (let e = w.1 in grind (arith, nat_tests)) in
      let readings = map (λ (term : In TermReading). term scopes) (map (term_reading tables) all) in
      record {
        tree = ap (λ (r : ScalarReading). r.tree) is ∙ (ap scalar_tree.Sum back.trees ∙ sym (views.rolls-Sum zs));
        domain = ap (λ (r : ScalarReading). r.domain) is ∙ ap (λ (k : JudgedScalar). Some k.shape.domain) (sym j);
        bound = ap (λ (r : ScalarReading). r.bound) is ∙ (back.bound ∙ ap (λ (k : JudgedScalar). Some k.shape.bound) (sym j));
        faults = ap (λ (r : ScalarReading). r.faults) is ∙ none_both (flat_map (λ (term : TermReading). term.scalar.faults ++ fault_if (is_text term.scalar.domain) 305 term.scalar.at) readings) (bound_faults 0 readings) back.faults (back.within 0 (omega (arith, small)));
      }

  -- ---- choices

  -- values whose shapes are these, all of one domain
  abbrev pub AllLike : Domain → List ScalarReading → List Shape → Type 0
  AllLike d [] [] = Unit
  AllLike d [] (s ∷ ss) = ⊥
  AllLike d (v ∷ vs) [] = ⊥
  AllLike d (v ∷ vs) (s ∷ ss) = (v.domain ≡ Some s.domain) × (v.bound ≡ Some s.bound) × (s.domain ≡ d) × AllLike d vs ss

  like_bound : (d : Domain) (vs : List ScalarReading) (ss : List Shape) → AllLike d vs ss → greatest_bound vs ≡ Some (shown.greatest_bound ss)
  like_bound d [] [] like = refl
  like_bound d [] (s ∷ ss) like = absurd like
  like_bound d (v ∷ vs) [] like = absurd like
  like_bound d (v ∷ vs) (s ∷ ss) like = ap (λ b. both_bounds max b (greatest_bound vs)) like.1 ∙ ap (λ b. both_bounds max (Some s.bound) b) (like_bound d vs ss like.3)

  like_faults : (d : Domain) (vs : List ScalarReading) (ss : List Shape) → AllLike d vs ss → flat_map (λ (value : ScalarReading). fault_if (differ (Some d) value.domain) 305 value.at) vs ≡ []
  like_faults d [] ss like = refl
  like_faults d (v ∷ vs) [] like = absurd like
  like_faults d (v ∷ vs) (s ∷ ss) like =
      none_both (fault_if (differ (Some d) v.domain) 305 v.at) (flat_map (λ (value : ScalarReading). fault_if (differ (Some d) value.domain) 305 value.at) vs)
      (ap (λ e. fault_if (differ (Some d) e) 305 v.at) (like.0 ∙ ap Some like.2) ∙ no_difference d v.at) (like_faults d vs ss like.3)

  like_append : (d : Domain) (vs : List ScalarReading) (ss : List Shape) (v : ScalarReading) (s : Shape) → AllLike d vs ss → v.domain ≡ Some s.domain → v.bound ≡ Some s.bound → s.domain ≡ d → AllLike d (vs ++ v ∷ []) (ss ++ s ∷ [])
  like_append d [] [] v s like p q r = (p, q, r, tt)
  like_append d [] (s' ∷ ss) v s like p q r = absurd like
  like_append d (v' ∷ vs) [] v s like p q r = absurd like
  like_append d (v' ∷ vs) (s' ∷ ss) v s like p q r = (like.0, like.1, like.2, like_append d vs ss v s like.3 p q r)

  pub record WhensBack (d : Domain) (ws : List SqlWhen) (ns : List NamedWhen) (view : View) : Type 0 where
    pub trees : map (λ (when : WhenReading). let t : SqlWhen = record { cond = when.cond.tree; value = when.value.tree } in t) (map (λ (w : In WhenReading). w (scopes_of view)) (map (when_reading tables) ns)) ≡ ws
    pub faults : flat_map (λ (when : WhenReading). when.cond.faults ++ when.value.faults) (map (λ (w : In WhenReading). w (scopes_of view)) (map (when_reading tables) ns)) ≡ []
    pub like : AllLike d (map (λ (when : WhenReading). when.value) (map (λ (w : In WhenReading). w (scopes_of view)) (map (when_reading tables) ns))) (map (λ (w : JudgedWhen). w.value.shape) (map (λ (w : View → JudgedWhen). w view) (map judged_when ws)))

  whens_back : (names : Names) (view : View) → names_in (scopes_of view) ≡ names → (d : Domain) (ws : List SqlWhen) (ns : List NamedWhen) → Each (WhenIs ok (QC ok tables) (QS ok tables) (QF ok tables) (QQ ok tables) names) ws ns →
      list_all (is_when d) (map (λ (w : View → JudgedWhen). w view) (map judged_when ws)) ≡ true → list_all (λ (when : Names → Bool). when names) (map (fine_when ok) ws) ≡ true → WhensBack d ws ns view
  whens_back names view same d [] [] each well fine = record { trees = refl; faults = refl; like = tt }
  whens_back names view same d [] (n ∷ ns) each well fine = absurd each
  whens_back names view same d (w ∷ ws) [] each well fine = absurd each
  whens_back names view same d (w ∷ ws) (n ∷ ns) each well fine =
      let scopes = scopes_of view in
      let jw : judged_when w view ≡ record { cond = judged_cond w.cond view; value = judged_scalar w.value view } = judged_when_is w view in
      let a = and_parts (is_when d (judged_when w view)) (list_all (is_when d) (map (λ (w : View → JudgedWhen). w view) (map judged_when ws))) well in
      let J = judged_scalar w.value view in
      let b = and_parts (judged_cond w.cond view && J.well) (domain_eq d J.shape.domain) (sym (ap (is_when d) jw) ∙ a.0) in
      let c = and_parts (judged_cond w.cond view) J.well b.0 in
      let f = and_parts (fine_when ok w names) (list_all (λ (when : Names → Bool). when names) (map (fine_when ok) ws)) fine in
      let g = and_parts (fine_cond ok w.cond names) (fine_scalar ok w.value names).fine (sym (fine_when_is ok w names) ∙ f.0) in
      let cond_one : CondBack ok tables w.cond n.cond view = each.0.cond view same c.0 g.0 in
      let one : ScalarBack ok tables w.value n.value view = each.0.value view same c.1 g.1 in
      let more = whens_back names view same d ws ns each.1 a.1 f.1 in
      let C = cond_reading tables n.cond scopes in
      let N = scalar_reading tables n.value scopes in
      let is : when_reading tables n scopes ≡ record { cond = C; value = N } = when_reading_is tables n scopes in
      let others = map (λ (w : In WhenReading). w scopes) (map (when_reading tables) ns) in
      let T : SqlCond → SqlScalar → SqlWhen = λ c s. record { cond = c; value = s } in
      let shape : (judged_when w view).value.shape ≡ J.shape = ap (λ (k : JudgedWhen). k.value.shape) jw in
      record {
        trees = ap (λ (t : WhenReading). T t.cond.tree t.value.tree ∷ map (λ (when : WhenReading). T when.cond.tree when.value.tree) others) is
            ∙ (ap (λ c. T c N.tree ∷ map (λ (when : WhenReading). T when.cond.tree when.value.tree) others) cond_one.tree ∙ (ap (λ s. T w.cond s ∷ map (λ (when : WhenReading). T when.cond.tree when.value.tree) others) one.tree ∙ ap (λ ts. w ∷ ts) more.trees));
        faults = none_both ((when_reading tables n scopes).cond.faults ++ (when_reading tables n scopes).value.faults) (flat_map (λ (when : WhenReading). when.cond.faults ++ when.value.faults) others)
            (ap (λ (t : WhenReading). t.cond.faults ++ t.value.faults) is ∙ none_both C.faults N.faults cond_one.faults one.faults) more.faults;
        like = (ap (λ (t : WhenReading). t.value.domain) is ∙ (one.domain ∙ ap (λ (s : Shape). Some s.domain) (sym shape)), ap (λ (t : WhenReading). t.value.bound) is ∙ (one.bound ∙ ap (λ (s : Shape). Some s.bound) (sym shape)), ap (λ (s : Shape). s.domain) shape ∙ sym (same_domain d J.shape.domain b.1), more.like);
      }

  -- the values of all results, and their first one
  pub record ResultsBack (ws : List SqlWhen) (last : Option SqlScalar) (ns : List NamedWhen) (o : Option NamedScalar) (view : View) : Type 0 where
    pub tree : tree_if (last_reading tables o (scopes_of view)) ≡ last
    pub faults : faults_if (last_reading tables o (scopes_of view)) ≡ []
    pub like : (d : Domain) → AllLike d (map (λ (when : WhenReading). when.value) (map (λ (w : In WhenReading). w (scopes_of view)) (map (when_reading tables) ns))) (map (λ (w : JudgedWhen). w.value.shape) (map (λ (w : View → JudgedWhen). w view) (map judged_when ws))) →
        is_otherwise d (judged_at view (option_map judged_scalar last)) ≡ true →
        AllLike d (results_of (map (λ (w : In WhenReading). w (scopes_of view)) (map (when_reading tables) ns)) (last_reading tables o (scopes_of view))) (result_shapes (map (λ (w : View → JudgedWhen). w view) (map judged_when ws)) (judged_at view (option_map judged_scalar last)))

  -- ELSE
  results_back : (names : Names) (view : View) → names_in (scopes_of view) ≡ names → (ws : List SqlWhen) (last : Option SqlScalar) (ns : List NamedWhen) (o : Option NamedScalar) → ElseIs ok (QC ok tables) (QS ok tables) (QF ok tables) (QQ ok tables) names last o →
      (d : Domain) → is_otherwise d (judged_at view (option_map judged_scalar last)) ≡ true → last_fine (option_map (fine_scalar ok) last) names ≡ true → ResultsBack ws last ns o view
  results_back names view same ws None ns o is d well fine = subst (λ o. ResultsBack ws None ns o view) (sym is) (record { tree = refl; faults = refl; like = λ d like last_well. like })
  results_back names view same ws (Some value) ns o is d well fine =
      let w = and_parts (judged_scalar value view).well (domain_eq d (judged_scalar value view).shape.domain) well in
      let back : ScalarBack ok tables value is.0 view = is.2 view same w.0 fine in
      let vs = map (λ (when : WhenReading). when.value) (map (λ (w : In WhenReading). w (scopes_of view)) (map (when_reading tables) ns)) in
      let ss = map (λ (w : JudgedWhen). w.value.shape) (map (λ (w : View → JudgedWhen). w view) (map judged_when ws)) in
      let K : ResultsBack ws (Some value) ns (Some is.0) view = record {
        tree = ap Some back.tree;
        faults = back.faults;
        like = λ e like last_well. like_append e vs ss (scalar_reading tables is.0 (scopes_of view)) (judged_scalar value view).shape like back.domain back.bound
            (sym (same_domain e (judged_scalar value view).shape.domain (and_parts (judged_scalar value view).well (domain_eq e (judged_scalar value view).shape.domain) last_well).1));
      } in
      subst (λ o. ResultsBack ws (Some value) ns o view) (sym is.1) K

  like_first : (d : Domain) (vs : List ScalarReading) (ss : List Shape) → AllLike d vs ss → nat_le 1 (length ss) ≡ true → first_domain vs ≡ Some (shown.first_domain ss)
  like_first d [] [] like some = absurd (false≢true some)
  like_first d [] (s ∷ ss) like some = absurd like
  like_first d (v ∷ vs) [] like some = absurd like
  like_first d (v ∷ vs) (s ∷ ss) like some = like.0

  one_at_least : (n : ℕ) → nat_le 1 (suc n) ≡ true
  one_at_least n = grind (arith, nat_tests)

  some_results : (ws : List JudgedWhen) (last : Option JudgedScalar) → nat_le 1 (length ws) ≡ true → nat_le 1 (length (result_shapes ws last)) ≡ true
  some_results [] last some = absurd (false≢true some)
  some_results (w ∷ ws) None some = one_at_least (length (result_shapes ws None))
  some_results (w ∷ ws) (Some v) some = one_at_least (length (result_shapes ws (Some v)))

  pub choice_back : (names : Names) (ws : List SqlWhen) (last : Option SqlScalar) (at : ℕ) (ns : List NamedWhen) (o : Option NamedScalar) → Each (WhenIs ok (QC ok tables) (QS ok tables) (QF ok tables) (QQ ok tables) names) ws ns → ElseIs ok (QC ok tables) (QS ok tables) (QF ok tables) (QQ ok tables) names last o →
      QS ok tables names (roll-SqlScalar (SqlScalar-F.Case ws last)) (named_scalar.Case at ns o)
  choice_back names ws last at ns o each else_is view same well fine =
      let scopes = scopes_of view in
      let j = judged-Case ws last view in
      let judged = map (λ (w : View → JudgedWhen). w view) (map judged_when ws) in
      let judged_last = judged_at view (option_map judged_scalar last) in
      let shapes = result_shapes judged judged_last in
      let d = shown.first_domain shapes in
      let w = and_parts (nat_le 1 (length judged) && list_all (is_when d) judged) (is_otherwise d judged_last) (sym (ap (λ (k : JudgedScalar). k.well) j) ∙ well) in
      let v = and_parts (nat_le 1 (length judged)) (list_all (is_when d) judged) w.0 in
      let fines = map (fine_when ok) ws in
      let f = and_parts (nat_le 1 (length fines)) (list_all (λ (when : Names → Bool). when names) fines && last_fine (option_map (fine_scalar ok) last) names) (sym (ap (λ (k : FineScalar). k.fine) (fine-Case ok ws last names)) ∙ fine) in
      let g = and_parts (list_all (λ (when : Names → Bool). when names) fines) (last_fine (option_map (fine_scalar ok) last) names) f.1 in
      let whens = whens_back names view same d ws ns each v.1 g.0 in
      let results = results_back names view same ws last ns o else_is d w.1 g.1 in
      let like = results.like d whens.like w.1 in
      let readings = map (λ (w : In WhenReading). w scopes) (map (when_reading tables) ns) in
      let last_one = last_reading tables o scopes in
      let values = results_of readings last_one in
      let first : first_domain values ≡ Some d = like_first d values shapes like (some_results judged judged_last v.0) in
      let is = reading-Case tables at ns o scopes in
      let T : List SqlWhen → Option SqlScalar → SqlScalar = λ ws l. scalar_tree.Case ws l in
      let whens_faults = flat_map (λ (when : WhenReading). when.cond.faults ++ when.value.faults) readings in
      record {
        tree = ap (λ (r : ScalarReading). r.tree) is ∙ (ap (λ ws. T ws (tree_if last_one)) whens.trees ∙ (ap (λ l. T ws l) results.tree ∙ sym (views.rolls-Case ws last)));
        domain = ap (λ (r : ScalarReading). r.domain) is ∙ (first ∙ ap (λ (k : JudgedScalar). Some k.shape.domain) (sym j));
        bound = ap (λ (r : ScalarReading). r.bound) is ∙ (like_bound d values shapes like ∙ ap (λ (k : JudgedScalar). Some k.shape.bound) (sym j));
        faults = ap (λ (r : ScalarReading). r.faults) is
            ∙ none_both (whens_faults ++ faults_if last_one) (flat_map (λ (value : ScalarReading). fault_if (differ (first_domain values) value.domain) 305 value.at) values)
            (none_both whens_faults (faults_if last_one) whens.faults results.faults)
            (ap (λ e. flat_map (λ (value : ScalarReading). fault_if (differ e value.domain) 305 value.at) values) first ∙ like_faults d values shapes like);
      }
