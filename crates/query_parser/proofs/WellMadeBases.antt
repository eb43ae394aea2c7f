-- Base preferences and preferences that are read from tokens within the limits are well made.
use Rattle.std.proofs.Common.{◌≡◌, ◌≤◌, ◌<◌, ◌+◌, ◌^◌, inl, inr, ℕ, Bool, true, false, List, [], ◌∷◌, length, All, refl, sym, ap, subst, arith, Option, Some, None}
use Rattle.std.specs.List.{flat_map}
use Rattle.std.proofs.lemmas.List.Elements.{All-nil}
use Rattle.grammar_forms.specs.Form.{token, both, either, option, map as map_form}
use Rattle.prefsql_lexer.specs.declared.token.Keyword.TheVariants as word
use Rattle.query_tree.specs.declared.name.NameTree.{NameTree}
use Rattle.query_tree.specs.declared.name.LiteralTree.{LiteralTree}
use Rattle.query_tree.specs.declared.preference.SetTree.{SetTree}
use Rattle.query_tree.specs.declared.preference.BaseForm.{BaseForm}
use Rattle.query_tree.specs.declared.preference.BaseForm.TheVariants as base_form
use Rattle.query_tree.specs.declared.preference.BaseTree.{BaseTree}
use Rattle.query_tree.proofs.Rising.{Rises, Rises-ends, Rises-wider, Rises-append}
use Rattle.query_tree.specs.Places.{set_places, edge_places, form_places, base_places}
use Rattle.query_tree.specs.WellMade.{IsColumn, IsLiteral, IsSet, IsEdge, IsForm, IsBase, KeepsTrivial, IsFilled, IsCountable}
use Rattle.query_grammar.specs.Rules.{Grammar, Rule}
use Rattle.token_forms.specs.Forms.{word_only, comma, in_parens, or_none, ◌⨟◌, ◌⨟>◌, ◌<$>◌}
use Rattle.token_forms.specs.Columns.{column, literal}
use Rattle.query_grammar.specs.Sets.{single, set, sets, edges, mark}
use Rattle.query_grammar.specs.Preferences.{good, bad, layers, layers_tree, Unmarked, on_column, extremum, else_good, else_bad, good_tree, bad_tree, around_tree, between_tree, layered_tree, other, explicit_tree, graph, marked, base}
use Rattle.query_parser.proofs.Parts.{Part, Parts, moved, At, skip, stands_filled, parts_filled, enclosed_part}
use Rattle.query_parser.proofs.WellMadeColumns.{column_place, column_part, literal_part, set_part, sets_parts, single_part, edges_parts}

module _ (last : ℕ) (Good : (A : Type 0) → Rule A → ℕ → ℕ → ℕ → A → Type 0) (small : last < 2 ^ 32) where
  -- a column and a set on it
  abbrev OnSet : NameTree × SetTree → Type 0
  OnSet p = IsColumn p.0 × IsSet p.1

  abbrev on_set : NameTree × SetTree → List ℕ
  on_set p = p.0.at ∷ set_places p.1

  column_then : (lo m hi : ℕ) (c : NameTree) (s : SetTree) → Part IsColumn column_place lo m c → Part IsSet set_places m hi s → Part OnSet on_set lo hi (c, s)
  column_then lo m hi c s p q = record {
    good = (p.good, q.good);
    rising = (p.rising.0, Rises-wider m hi c.at hi (set_places s) p.rising.1 (omega arith) q.rising);
    filled = (let a = p.filled in let b = q.filled in omega arith);
  }

  good_part : (d r lo hi : ℕ) (v : NameTree × SetTree) → At last Good good d r lo hi v → Part OnSet on_set lo hi v
  unfolding good
  good_part d r lo hi v (inl w) =
      let m = w.0 in
      let x = w.2 in
      let s = skip last Good 8 d _ literal m hi x.0 x.1 in
      let l = literal_part last Good d _ s.0 hi x.0 s.2 in
      let q = single_part last Good small s.0 hi x.0 l in
      let t = moved IsSet set_places s.0 hi v.1 (single x.0) x.2 q in
      column_then lo m hi v.0 v.1 (column_part last Good d r lo m v.0 w.1) (record { good = t.good; rising = Rises-wider s.0 hi m hi (set_places v.1) (let k = s.1 in omega arith) (omega arith) t.rising; filled = (let k = s.1 in let f = t.filled in omega arith) })
  good_part d r lo hi v (inr w) =
      let m = w.0 in
      let s = skip last Good 37 d _ set m hi v.1 w.2 in
      let t = set_part last Good small d _ s.0 hi v.1 s.2 in
      column_then lo m hi v.0 v.1 (column_part last Good d r lo m v.0 w.1) (record { good = t.good; rising = Rises-wider s.0 hi m hi (set_places v.1) (let k = s.1 in omega arith) (omega arith) t.rising; filled = (let k = s.1 in let f = t.filled in omega arith) })

  bad_part : (d r lo hi : ℕ) (v : NameTree × SetTree) → At last Good bad d r lo hi v → Part OnSet on_set lo hi v
  unfolding bad
  bad_part d r lo hi v (inl w) =
      let m = w.0 in
      let x = w.2 in
      let s = skip last Good 9 d _ literal m hi x.0 x.1 in
      let l = literal_part last Good d _ s.0 hi x.0 s.2 in
      let q = single_part last Good small s.0 hi x.0 l in
      let t = moved IsSet set_places s.0 hi v.1 (single x.0) x.2 q in
      column_then lo m hi v.0 v.1 (column_part last Good d r lo m v.0 w.1) (record { good = t.good; rising = Rises-wider s.0 hi m hi (set_places v.1) (let k = s.1 in omega arith) (omega arith) t.rising; filled = (let k = s.1 in let f = t.filled in omega arith) })
  bad_part d r lo hi v (inr w) =
      let m = w.0 in
      let n = skip last Good 42 d _ (word_only word.In ⨟> set) m hi v.1 w.2 in
      let s = skip last Good 37 d _ set n.0 hi v.1 n.2 in
      let t = set_part last Good small d _ s.0 hi v.1 s.2 in
      column_then lo m hi v.0 v.1 (column_part last Good d r lo m v.0 w.1) (record { good = t.good; rising = Rises-wider s.0 hi m hi (set_places v.1) (let k = s.1 in let j = n.1 in omega arith) (omega arith) t.rising; filled = (let k = s.1 in let j = n.1 in let f = t.filled in omega arith) })

  -- ---- layers

  -- sets that may be left out
  pub record SetsIf (lo hi : ℕ) (vs : List SetTree) : Type 0 where
    pub all : All IsSet vs
    pub rising : Rises lo hi (flat_map set_places vs)
    pub few : IsCountable (length vs)
    pub order : lo ≤ hi

  no_sets : (lo hi : ℕ) → lo ≤ hi → SetsIf lo hi []
  no_sets lo hi le = record { all = All-nil IsSet; rising = le; few = omega arith; order = le }

  some_sets : (lo m hi : ℕ) (vs : List SetTree) → lo ≤ m → Parts IsSet set_places m hi vs → SetsIf lo hi vs
  some_sets lo m hi vs le p = record { all = p.all; rising = Rises-wider m hi lo hi (flat_map set_places vs) le (omega arith) p.rising; few = p.some.1; order = (let r = p.room in omega arith) }

  abbrev After : Grammar (List SetTree)
  After = or_none <$> word_only word.Others ⨟> option (comma ⨟> sets)

  after_by : (d r lo m hi : ℕ) (o : Option (List SetTree)) → lo ≤ m → At last Good (option (comma ⨟> sets)) d r m hi o → SetsIf lo hi (or_none o)
  after_by d r lo m hi None le w = no_sets lo hi (omega (arith, w))
  after_by d r lo m hi (Some vs) le w =
      let s = skip last Good 5 d r sets m hi vs w in
      some_sets lo s.0 hi vs (let k = s.1 in omega arith) (sets_parts last Good small d _ s.0 hi vs s.2)

  after_part : (d r lo hi : ℕ) (vs : List SetTree) → At last Good After d r lo hi vs → SetsIf lo hi vs
  after_part d r lo hi vs w =
      let s = skip last Good 47 d r (option (comma ⨟> sets)) lo hi w.0 w.1 in
      subst (λ z. SetsIf lo hi z) (sym w.2) (after_by d _ lo s.0 hi w.0 (let k = s.1 in omega arith) s.2)

  others_by : (d r lo m hi : ℕ) (o : Option (List SetTree)) → lo ≤ m → At last Good (option (comma ⨟> After)) d r m hi o → SetsIf lo hi (or_none o)
  others_by d r lo m hi None le w = no_sets lo hi (omega (arith, w))
  others_by d r lo m hi (Some vs) le w =
      let s = skip last Good 5 d r After m hi vs w in
      let a = after_part d _ s.0 hi vs s.2 in
      record { all = a.all; rising = Rises-wider s.0 hi lo hi (flat_map set_places vs) (let k = s.1 in omega arith) (omega arith) a.rising; few = a.few; order = (let k = s.1 in let j = a.order in omega arith) }

  -- sets in layers, which may have either mark
  abbrev IsLayers : BaseForm → Type 0
  IsLayers form = IsForm form × ((t : Bool) → KeepsTrivial form t)

  layers_by : (lo m hi : ℕ) (before after : List SetTree) → Parts IsSet set_places lo m before → SetsIf m hi after → Part IsLayers form_places lo hi (base_form.Layered before after)
  layers_by lo m hi before after p q = record {
    good = (((p.some.1, p.all), (q.few, q.all), (let k = p.some.0 in omega arith)), λ t. tt);
    rising = Rises-append lo m hi (flat_map set_places before) (flat_map set_places after) p.rising q.rising;
    filled = (let k = parts_filled last Good small IsSet set_places lo m before p in let j = q.order in omega arith);
  }

  layers_part : (d r lo hi : ℕ) (v : BaseForm) → At last Good layers d r lo hi v → Part IsLayers form_places lo hi v
  unfolding layers
  layers_part d r lo hi v (inl w) =
      let u = w.0 in
      let m = w.1.0 in
      let p = sets_parts last Good small d r lo m u.0 w.1.1 in
      let q = others_by d _ m m hi u.1 (omega arith) w.1.2 in
      moved IsLayers form_places lo hi v (layers_tree u) w.2 (layers_by lo m hi u.0 (or_none u.1) p q)
  layers_part d r lo hi v (inr w) =
      let s = skip last Good 47 d r (comma ⨟> sets) lo hi w.0 w.1 in
      let t = skip last Good 5 d _ sets s.0 hi w.0 s.2 in
      let p = sets_parts last Good small d _ t.0 hi w.0 t.2 in
      moved IsLayers form_places lo hi v (base_form.Layered [] w.0) w.2 (record {
        good = (((omega arith, All-nil IsSet), (p.some.1, p.all), (let k = p.some.0 in omega arith)), λ t. tt);
        rising = Rises-wider t.0 hi lo hi (flat_map set_places w.0) (let k = s.1 in let j = t.1 in omega arith) (omega arith) p.rising;
        filled = (let k = s.1 in let j = t.1 in let f = parts_filled last Good small IsSet set_places t.0 hi w.0 p in omega arith);
      })

  -- ---- base preferences

  -- what is well made with either mark
  abbrev AnyMark : ℕ → ℕ → Unmarked → Type 0
  AnyMark lo hi v = (trivial : Bool) → Part IsBase base_places lo hi (v trivial)

  any_moved : (lo hi : ℕ) (v u : Unmarked) → v ≡ u → AnyMark lo hi u → AnyMark lo hi v
  any_moved lo hi v u e p = subst (λ z. AnyMark lo hi z) (sym e) p

  base_on : (lo m hi : ℕ) (c : NameTree) (form : BaseForm) (trivial : Bool) → Part IsColumn column_place lo m c → IsForm form → Rises m hi (form_places form) → KeepsTrivial form trivial → Part IsBase base_places lo hi (on_column c form trivial)
  base_on lo m hi c form trivial p is rises keeps =
      let le = Rises-ends m hi (form_places form) rises in
      record {
        good = record { column = p.good; form = is; trivial = keeps };
        rising = (p.rising.0, (omega arith, Rises-wider m hi c.at hi (form_places form) p.rising.1 (omega arith) rises));
        filled = (let k = p.filled in omega arith);
      }

  -- with what stands behind the column
  on_form : (d r lo hi : ℕ) {X : Type 0} (c : ℕ) (f : Grammar X) (k : X → BaseForm) (v : NameTree × X) → ((r lo hi : ℕ) (x : X) → At last Good f d r lo hi x → (IsForm (k x)) × Rises lo hi (form_places (k x)) × ((t : Bool) → KeepsTrivial (k x) t)) →
      At last Good (column ⨟ (token c (λ t. tt {0}) ⨟> f)) d r lo hi v → AnyMark lo hi (on_column v.0 (k v.1))
  on_form d r lo hi {X} c f k v is w t =
      let m = w.0 in
      let p = column_part last Good d r lo m v.0 w.1 in
      let s = skip last Good c d _ f m hi v.1 w.2 in
      let x = is _ s.0 hi v.1 s.2 in
      base_on lo m hi v.0 (k v.1) t p x.0 (Rises-wider s.0 hi m hi (form_places (k v.1)) (let j = s.1 in omega arith) (omega arith) x.1) (x.2 t)

  pair_part : (d r lo hi : ℕ) (v : LiteralTree × LiteralTree) → At last Good (literal ⨟ word_only word.And ⨟> literal) d r lo hi v → IsLiteral v.0 × IsLiteral v.1 × Rises lo hi (v.0.at ∷ v.1.at ∷ [])
  pair_part d r lo hi v w =
      let m = w.0 in
      let a = literal_part last Good d r lo m v.0 w.1 in
      let s = skip last Good 17 d _ literal m hi v.1 w.2 in
      let b = literal_part last Good d _ s.0 hi v.1 s.2 in
      (a.good, b.good, (a.rising.0, (let x = a.rising.1 in let y = b.rising.0 in let k = s.1 in omega arith, b.rising.1)))

  -- the two sides after ELSE, and the set before it
  else_part : (d r lo hi : ℕ) (v : SetTree → BaseForm) → At last Good (either (map_form else_good (word_only word.Else ⨟> good)) (map_form else_bad (word_only word.Else ⨟> bad))) d r lo hi v →
      (first : SetTree) (low : ℕ) → IsSet first → Rises low lo (set_places first) → IsForm (v first) × Rises low hi (form_places (v first)) × ((t : Bool) → KeepsTrivial (v first) t)
  else_part d r lo hi v (inl w) first low is rises =
      let u = w.0 in
      let s = skip last Good 30 d r good lo hi u w.1 in
      let p = good_part d _ s.0 hi u s.2 in
      let form : v first ≡ base_form.PosPos first u.0 u.1 = ap (λ f. f first) w.2 in
      let P : BaseForm → Type 0 = λ z. IsForm z × Rises low hi (form_places z) × ((t : Bool) → KeepsTrivial z t) in
      subst P (sym form) ((is, p.good.0, p.good.1), Rises-append low lo hi (set_places first) (u.0.at ∷ set_places u.1) rises (Rises-wider s.0 hi lo hi (u.0.at ∷ set_places u.1) (let k = s.1 in omega arith) (omega arith) p.rising), λ t. tt)
  else_part d r lo hi v (inr w) first low is rises =
      let u = w.0 in
      let s = skip last Good 30 d r bad lo hi u w.1 in
      let p = bad_part d _ s.0 hi u s.2 in
      let form : v first ≡ base_form.PosNeg first u.0 u.1 = ap (λ f. f first) w.2 in
      let P : BaseForm → Type 0 = λ z. IsForm z × Rises low hi (form_places z) × ((t : Bool) → KeepsTrivial z t) in
      subst P (sym form) ((is, p.good.0, p.good.1), Rises-append low lo hi (set_places first) (u.0.at ∷ set_places u.1) rises (Rises-wider s.0 hi lo hi (u.0.at ∷ set_places u.1) (let k = s.1 in omega arith) (omega arith) p.rising), λ t. tt)

  -- a set on a column, and a form that it makes
  set_on : (lo m hi : ℕ) (p : NameTree × SetTree) (form : BaseForm) (trivial : Bool) → Part OnSet on_set lo m p → IsForm form → Rises p.0.at hi (form_places form) → KeepsTrivial form trivial → m ≤ hi → Part IsBase base_places lo hi (on_column p.0 form trivial)
  set_on lo m hi p form trivial q is rises keeps le = record {
    good = record { column = q.good.0; form = is; trivial = keeps };
    rising = (q.rising.0, (omega arith, rises));
    filled = (let k = q.filled in omega arith);
  }

  good_side : (d r lo m hi : ℕ) (p : NameTree × SetTree) (o : Option (SetTree → BaseForm)) → Part OnSet on_set lo m p → At last Good (option (either (map_form else_good (word_only word.Else ⨟> good)) (map_form else_bad (word_only word.Else ⨟> bad)))) d r m hi o → AnyMark lo hi (good_tree (p, o))
  good_side d r lo m hi p None q w t = set_on lo m hi p (base_form.Pos p.1) t q q.good.1 (Rises-wider p.0.at m p.0.at hi (set_places p.1) (omega arith) w q.rising.1) tt w
  good_side d r lo m hi p (Some f) q w t =
      let e = else_part d r m hi f w p.1 p.0.at q.good.1 q.rising.1 in
      let up = Rises-ends p.0.at m (set_places p.1) q.rising.1 in
      set_on lo m hi p (f p.1) t q e.0 e.1 (e.2 t) (else_order d r m hi f w)
    where
      else_order : (d r lo hi : ℕ) (v : SetTree → BaseForm) → At last Good (either (map_form else_good (word_only word.Else ⨟> good)) (map_form else_bad (word_only word.Else ⨟> bad))) d r lo hi v → lo ≤ hi
      else_order d r lo hi v (inl w) = let s = skip last Good 30 d r good lo hi w.0 w.1 in let p = good_part d _ s.0 hi w.0 s.2 in (let k = s.1 in let j = p.filled in omega arith)
      else_order d r lo hi v (inr w) = let s = skip last Good 30 d r bad lo hi w.0 w.1 in let p = bad_part d _ s.0 hi w.0 s.2 in (let k = s.1 in let j = p.filled in omega arith)

  extremum_part : (form : BaseForm) → IsForm form → form_places form ≡ [] → ((t : Bool) → KeepsTrivial form t) → (c d r lo hi : ℕ) (v : ℕ × NameTree) → At last Good (both (token c (λ t. t.start)) (in_parens column)) d r lo hi v → AnyMark lo hi (extremum form v)
  extremum_part form is none keeps c d r lo hi v w t =
      let m = w.0 in
      let s = w.1.2 in
      let at : v.0 ≡ w.1.0.start = w.1.3 in
      let p = enclosed_part last Good IsColumn column_place d _ column (column_part last Good d _) m hi v.1 w.2 in
      let tail : Rises v.1.at hi (form_places form) = subst (λ z. Rises v.1.at hi z) (sym none) p.rising.1 in
      record {
        good = record { column = p.good; form = is; trivial = keeps t };
        rising = (let k = s.from in omega arith, (let k = s.filled in let j = s.upto in let i = p.rising.0 in omega arith, tail));
        filled = (let k = s.from in let j = s.filled in let i = s.upto in let h = p.filled in omega arith);
      }

  other_part : (d r lo hi : ℕ) (v : Unmarked) → At last Good other d r lo hi v → AnyMark lo hi v
  unfolding other
  other_part d r lo hi v (inl w) =
      let u = w.0 in
      let m = w.1.0 in
      any_moved lo hi v (good_tree u) w.2 (good_side d _ lo m hi u.0 u.1 (good_part d r lo m u.0 w.1.1) w.1.2)
  other_part d r lo hi v (inr (inl w)) = any_moved lo hi v (bad_tree w.0) w.2 (λ t. let q = bad_part d r lo hi w.0 w.1 in set_on lo hi hi w.0 (base_form.Neg w.0.1) t q q.good.1 q.rising.1 tt (omega arith))
  other_part d r lo hi v (inr (inr (inl w))) = any_moved lo hi v (around_tree w.0) w.2 (on_form d r lo hi 18 literal base_form.Around w.0 (λ r lo hi x i. let p = literal_part last Good d r lo hi x i in (p.good, p.rising, λ t. tt)) w.1)
  other_part d r lo hi v (inr (inr (inr (inl w)))) =
      any_moved lo hi v (between_tree w.0) w.2 (on_form d r lo hi 21 (literal ⨟ word_only word.And ⨟> literal) (λ p. base_form.Between p.0 p.1) w.0 (λ r lo hi x i. let p = pair_part d r lo hi x i in ((p.0, p.1), p.2, λ t. tt)) w.1)
  other_part d r lo hi v (inr (inr (inr (inr (inl w))))) =
      any_moved lo hi v (layered_tree w.0) w.2 (on_form d r lo hi 39 (in_parens layers) (λ z. z) w.0 (λ r lo hi x i. let p = enclosed_part last Good IsLayers form_places d r layers (layers_part d (r + 1)) lo hi x i in (p.good.0, p.rising, p.good.1)) w.1)
  other_part d r lo hi v (inr (inr (inr (inr (inr (inl w)))))) = any_moved lo hi v (extremum base_form.Lowest w.0) w.2 (extremum_part base_form.Lowest tt refl (λ t. tt) 41 d r lo hi w.0 w.1)
  other_part d r lo hi v (inr (inr (inr (inr (inr (inr w)))))) = any_moved lo hi v (extremum base_form.Highest w.0) w.2 (extremum_part base_form.Highest tt refl (λ t. tt) 36 d r lo hi w.0 w.1)

  graph_part : (d r lo hi : ℕ) (v : BaseTree) → At last Good graph d r lo hi v → Part IsBase base_places lo hi v
  unfolding graph
  graph_part d r lo hi v w =
      let u = w.0 in
      let m = w.1.0 in
      let p = column_part last Good d r lo m u.0 w.1.1 in
      let s = skip last Good 33 d _ (in_parens edges) m hi u.1 w.1.2 in
      let e = enclosed_part last Good (λ z. IsFilled (length z) × All IsEdge z) (λ z. flat_map edge_places z) d _ edges (λ a b z i. let q = edges_parts last Good small d _ a b z i in record { good = (q.some, q.all); rising = q.rising; filled = parts_filled last Good small IsEdge edge_places a b z q }) s.0 hi u.1 s.2 in
      moved IsBase base_places lo hi v (explicit_tree u) w.2 (base_on lo m hi u.0 (base_form.Explicit u.1) true p e.good (Rises-wider s.0 hi m hi (flat_map edge_places u.1) (let k = s.1 in omega arith) (omega arith) e.rising) refl)

  mark_order : (d r lo hi : ℕ) (v : Bool) → At last Good mark d r lo hi v → lo ≤ hi
  unfolding mark
  mark_order d r lo hi v w = mark_by w.0 w.1
    where
      mark_by : (o : Option Bool) → At last Good (option (either (map_form (λ _. true) (word_only word.Trivial)) (map_form (λ _. false) (word_only word.Regular)))) d r lo hi o → lo ≤ hi
      mark_by None i = i
      mark_by (Some b) (inl i) = let k = stands_filled last Good (d + r) lo hi i.1.0 i.1.2 in omega arith
      mark_by (Some b) (inr i) = let k = stands_filled last Good (d + r) lo hi i.1.0 i.1.2 in omega arith

  trivial_order : (d r lo hi : ℕ) (o : Option (Unit {0})) → At last Good (option (word_only word.Trivial)) d r lo hi o → lo ≤ hi
  trivial_order d r lo hi None w = w
  trivial_order d r lo hi (Some u) w = let k = stands_filled last Good (d + r) lo hi w.0 w.2 in omega arith

  wider_base : (lo m hi : ℕ) (v : BaseTree) → m ≤ hi → Part IsBase base_places lo m v → Part IsBase base_places lo hi v
  wider_base lo m hi v le p = record { good = p.good; rising = Rises-wider lo m lo hi (base_places v) (omega arith) le p.rising; filled = (let k = p.filled in omega arith) }

  pub base_part : (d r lo hi : ℕ) (v : BaseTree) → At last Good base d r lo hi v → Part IsBase base_places lo hi v
  unfolding base
  base_part d r lo hi v (inl w) =
      let m = w.1.0 in
      moved IsBase base_places lo hi v w.0.0 w.2 (wider_base lo m hi w.0.0 (trivial_order d _ m hi w.0.1 w.1.2) (graph_part d r lo m w.0.0 w.1.1))
  base_part d r lo hi v (inr w) =
      let m = w.1.0 in
      moved IsBase base_places lo hi v (marked w.0) w.2 (wider_base lo m hi (marked w.0) (mark_order d _ m hi w.0.1 w.1.2) (other_part d r lo m w.0.0 w.1.1 w.0.1))
