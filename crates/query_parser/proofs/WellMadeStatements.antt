-- The trees of a script whose tokens keep the limits are well made, and are no more than the tokens.
use Rattle.std.proofs.Common.{◌≡◌, ◌≤◌, ◌<◌, ◌+◌, ◌^◌, inl, inr, ℕ, zero, suc, Bool, true, false, List, [], ◌∷◌, ◌++◌, length, map, All, refl, sym, ap, subst, arith, length-append, Option, Some, None}
use Rattle.std.specs.Prelude.{IfSome}
use Rattle.std.specs.List.{flat_map}
use Rattle.std.proofs.lemmas.List.Concat.{flat_map_single}
use Rattle.std.proofs.lemmas.List.Elements.{All-nil, All-cons, All-head, All-tail}
use Rattle.grammar_forms.specs.Form.{Several, Possibly, WholeRule, both, either, many, option, map as map_form}
use Rattle.grammar_forms.proofs.Nesting.{turn, level, rule_balanced}
use Rattle.grammar_forms.proofs.Spans.{Runs, span_of}
use Rattle.prefsql_lexer.specs.Bounds.{AreTokensOf, IsNameShort, IsNumberSmall, SpansAscend}
use Rattle.prefsql_lexer.specs.declared.token.Keyword.TheVariants as word
use Rattle.prefsql_lexer.specs.declared.token.Token.{Token}
use Rattle.query_tree.specs.declared.name.NameTree.{NameTree}
use Rattle.query_tree.specs.declared.condition.ScalarTree.{ScalarTree}
use Rattle.query_tree.specs.declared.condition.ScalarTree.TheVariants as scalar_tree
use Rattle.query_tree.specs.declared.condition.CondTree.{CondTree}
use Rattle.query_tree.specs.declared.query.ItemTree.{ItemTree}
use Rattle.query_tree.specs.declared.query.SelectTree.{SelectTree}
use Rattle.query_tree.specs.declared.query.SelectTree.TheVariants as select_tree
use Rattle.query_tree.specs.declared.query.FromTree.{FromTree}
use Rattle.query_tree.specs.declared.query.OrderName.{OrderName}
use Rattle.query_tree.specs.declared.query.OrderTree.{OrderTree}
use Rattle.query_tree.specs.declared.query.QueryTree.{QueryTree}
use Rattle.query_tree.proofs.Rising.{Rises, Rises-ends, Rises-wider, Rises-append, Rises-sorted}
use Rattle.prefsql_values.specs.Nesting.{alone}
use Rattle.query_tree.specs.Places.{scalar_places, cond_places, pref_places, select_places, places_if, query_places}
use Rattle.query_tree.specs.WellMade.{IsColumn, IsOutput, IsItem, IsSelect, IsFrom, IsOrderName, IsOrder, IsCondition, IsPref, IsQuery, IsCountable, AreWellMade}
use Rattle.prefsql_values.specs.Limits.{IsName}
use Rattle.token_forms.specs.Classes.{class}
use Rattle.query_grammar.specs.Rules.{Grammar, Rule, condition_rule, preference_rule}
use Rattle.token_forms.specs.Forms.{Named, name, number, word_only, or_none, text_of, ◌⨟>◌}
use Rattle.token_forms.specs.Columns.{column, columns, direction, order, orders, named_key, position_key, order_tree}
use Rattle.token_forms.specs.Phrases.{alias, from, from_tree, distinctness, ordering, from_items}
use Rattle.query_grammar.specs.Items.{value, item, item_tree, items, list, groups}
use Rattle.query_grammar.specs.Trees.{Preferred, query_tree}
use Rattle.query_grammar.specs.Conditions.{cond}
use Rattle.query_grammar.specs.Preferences.{pref, par, prim}
use Rattle.query_grammar.specs.Statements.{prefer, statement, production}
use Rattle.script_forms.specs.Scripts.{ended_by, script_of, with_last}
use Rattle.script_forms.proofs.Accepted.{script_keeps}
use Rattle.query_grammar.proofs.Language.{language}
use Rattle.query_grammar.specs.Scripts.{IsWhole, IsScript}
use Rattle.token_forms.proofs.Depth.{rises, falls}
use Rattle.token_forms.proofs.Depth.{StaysWithin, NestWithin-stays}
use Rattle.query_grammar.proofs.Depth.{production_keeps}
use Rattle.query_parser.proofs.Parts.{Part, Parts, moved, At, skip, name_part, number_part, stands_filled, parts_filled, separated_parts, first_byte, behind, Fine}
use Rattle.query_parser.proofs.WellMadeColumns.{column_place, column_part, level_part, distance_part}
use Rattle.query_parser.proofs.WellMadeConditions.{Good, Fits, by_itself, cond_part, pref_part}

module _ (last : ℕ) (small : last < 2 ^ 32) where
  abbrev In : {A : Type 0} → Grammar A → ℕ → ℕ → ℕ → A → Type 0
  In f r lo hi v = At last Good f 0 r lo hi v

  -- ---- items

  value_part : (r lo hi : ℕ) (v : ScalarTree) → In value r lo hi v → Part IsOutput scalar_places lo hi v
  unfolding value
  value_part r lo hi v (inl w) = level_part last Good IsOutput (λ c at g. g) 0 r lo hi v w
  value_part r lo hi v (inr (inl w)) = distance_part last Good IsOutput (λ c at g. g) 0 r lo hi v w
  value_part r lo hi v (inr (inr w)) = let c = column_part last Good 0 r lo hi w.0 w.1 in moved IsOutput scalar_places lo hi v (scalar_tree.Column w.0) w.2 (record { good = c.good; rising = c.rising; filled = c.filled })

  -- a name that may be left out
  abbrev NameIf : ℕ → ℕ → Option Named → Type 0
  NameIf lo hi None = lo ≤ hi
  NameIf lo hi (Some n) = IsName n.0 × (lo ≤ n.1) × (n.1 < hi)

  as_order : (r lo hi : ℕ) (o : Option (Unit {0})) → In (option (word_only word.As)) r lo hi o → lo ≤ hi
  as_order r lo hi None w = w
  as_order r lo hi (Some u) w = let k = stands_filled last Good (0 + r) lo hi w.0 w.2 in omega arith

  alias_part : (r lo hi : ℕ) (o : Option Named) → In alias r lo hi o → NameIf lo hi o
  unfolding alias
  alias_part r lo hi None w = w
  alias_part r lo hi (Some n) w =
      let x = w.1 in
      let p = name_part last Good 0 r x.0 hi w.0.1 x.2 in
      let up = as_order r lo x.0 w.0.0 x.1 in
      subst (λ z. NameIf lo hi (Some z)) (sym w.2) (p.good, (let k = p.from in omega arith), p.upto)

  named : (lo hi : ℕ) (o : Option Named) → NameIf lo hi o → (lo ≤ hi) × IfSome (text_of o) IsName
  named lo hi None p = (p, tt)
  named lo hi (Some n) p = ((let k = p.1 in let j = p.2 in omega arith), p.0)

  abbrev item_places : ItemTree → List ℕ
  item_places i = scalar_places i.value

  item_part : (r lo hi : ℕ) (v : ItemTree) → In item r lo hi v → Part IsItem item_places lo hi v
  unfolding item
  item_part r lo hi v w =
      let u = w.0 in
      let m = w.1.0 in
      let p = value_part r lo m u.0 w.1.1 in
      let n = named m hi u.1 (alias_part _ m hi u.1 w.1.2) in
      moved IsItem item_places lo hi v (item_tree u) w.2 (record { good = record { value = p.good; name = n.1 }; rising = Rises-wider lo m lo hi (scalar_places u.0) (omega arith) n.0 p.rising; filled = (let k = p.filled in let j = n.0 in omega arith) })

  list_part : (r lo hi : ℕ) (v : SelectTree) → In list r lo hi v → Part IsSelect select_places lo hi v
  unfolding list items
  list_part r lo hi v (inl w) = let k = stands_filled last Good (0 + r) lo hi w.1.0 w.1.2 in moved IsSelect select_places lo hi v select_tree.All w.2 (record { good = tt; rising = omega arith; filled = k })
  list_part r lo hi v (inr w) =
      let p = separated_parts last Good small IsItem item_places 5 0 r item (item_part r) (item_part _) lo hi w.0 w.1 in
      moved IsSelect select_places lo hi v (select_tree.Items w.0) w.2 (record { good = (p.some, p.all); rising = p.rising; filled = parts_filled last Good small IsItem item_places lo hi w.0 p })

  -- ---- tables

  abbrev from_places : FromTree → List ℕ
  from_places t = t.at ∷ t.name_at ∷ []

  from_by : (lo m hi : ℕ) (n : Named) (o : Option Named) → IsName n.0 → lo ≤ n.1 → n.1 < m → NameIf m hi o → Part IsFrom from_places lo hi (from_tree (n, o))
  from_by lo m hi n None is above below p = record { good = record { table_name = is; name = tt }; rising = (above, (omega arith, omega arith)); filled = omega arith }
  from_by lo m hi n (Some a) is above below p = record { good = record { table_name = is; name = p.0 }; rising = (above, ((let k = p.1 in omega arith), (let k = p.2 in omega arith))); filled = (let k = p.1 in let j = p.2 in omega arith) }

  from_part : (r lo hi : ℕ) (v : FromTree) → In from r lo hi v → Part IsFrom from_places lo hi v
  unfolding from
  from_part r lo hi v w =
      let u = w.0 in
      let m = w.1.0 in
      let n = name_part last Good 0 r lo m u.0 w.1.1 in
      moved IsFrom from_places lo hi v (from_tree u) w.2 (from_by lo m hi u.0 u.1 n.good n.from n.upto (alias_part _ m hi u.1 w.1.2))

  tables_parts : (r lo hi : ℕ) (vs : List FromTree) → In from_items r lo hi vs → Parts IsFrom from_places lo hi vs
  unfolding from_items
  tables_parts r lo hi vs w = separated_parts last Good small IsFrom from_places 5 0 r from (from_part r) (from_part _) lo hi vs w

  -- ---- lists that may be left out

  pub record ListIf {A : Type 0} (P : A → Type 0) (at : A → ℕ) (lo hi : ℕ) (vs : List A) : Type 0 where
    pub all : All P vs
    pub rising : Rises lo hi (map at vs)
    pub few : IsCountable (length vs)

  no_list : {A : Type 0} (P : A → Type 0) (at : A → ℕ) (lo hi : ℕ) → lo ≤ hi → ListIf P at lo hi []
  no_list P at lo hi le = record { all = All-nil P; rising = le; few = omega arith }

  some_list : {A : Type 0} (P : A → Type 0) (at : A → ℕ) (lo m hi : ℕ) (vs : List A) → lo ≤ m → Parts P (λ v. at v ∷ []) m hi vs → ListIf P at lo hi vs
  some_list P at lo m hi vs le p = record { all = p.all; rising = subst (λ z. Rises lo hi z) (flat_map_single at vs) (Rises-wider m hi lo hi (flat_map (λ v. at v ∷ []) vs) le (omega arith) p.rising); few = p.some.1 }

  abbrev column_at : NameTree → ℕ
  column_at c = c.at

  groups_by : (r lo hi : ℕ) (o : Option (List NameTree)) → In (option (word_only word.Grouping ⨟> columns)) r lo hi o → ListIf IsColumn column_at lo hi (or_none o)
  unfolding columns
  groups_by r lo hi None w = no_list IsColumn column_at lo hi w
  groups_by r lo hi (Some vs) w =
      let s = skip last Good 35 0 r columns lo hi vs w in
      some_list IsColumn column_at lo s.0 hi vs (let k = s.1 in omega arith) (separated_parts last Good small IsColumn column_place 5 0 _ column (column_part last Good 0 _) (column_part last Good 0 _) s.0 hi vs s.2)

  groups_part : (r lo hi : ℕ) (vs : List NameTree) → In groups r lo hi vs → ListIf IsColumn column_at lo hi vs
  unfolding groups
  groups_part r lo hi vs w = subst (λ z. ListIf IsColumn column_at lo hi z) (sym w.2) (groups_by r lo hi w.0 w.1)

  abbrev order_at : OrderTree → ℕ
  order_at o = o.at

  direction_order : (r lo hi : ℕ) (v : Bool) → In direction r lo hi v → lo ≤ hi
  unfolding direction
  direction_order r lo hi v w = by w.0 w.1
    where
      by : (o : Option Bool) → In (option (either (map_form (λ _. false) (word_only word.Asc)) (map_form (λ _. true) (word_only word.Desc)))) r lo hi o → lo ≤ hi
      by None i = i
      by (Some b) (inl i) = let k = stands_filled last Good (0 + r) lo hi i.1.0 i.1.2 in omega arith
      by (Some b) (inr i) = let k = stands_filled last Good (0 + r) lo hi i.1.0 i.1.2 in omega arith

  -- what an order item speaks of, and its place
  key_part : (r lo hi : ℕ) (v : OrderName × ℕ) → In (either (map_form named_key name) (map_form position_key number)) r lo hi v → IsOrderName v.0 × (lo ≤ v.1) × (v.1 < hi)
  key_part r lo hi v (inl w) =
      let n = name_part last Good 0 r lo hi w.0 w.1 in
      let P : OrderName × ℕ → Type 0 = λ z. IsOrderName z.0 × (lo ≤ z.1) × (z.1 < hi) in
      subst P (sym w.2) (n.good, n.from, n.upto)
  key_part r lo hi v (inr w) =
      let n = number_part last Good 0 r lo hi w.0 w.1 in
      let P : OrderName × ℕ → Type 0 = λ z. IsOrderName z.0 × (lo ≤ z.1) × (z.1 < hi) in
      subst P (sym w.2) (n.good, n.from, n.upto)

  order_part : (r lo hi : ℕ) (v : OrderTree) → In order r lo hi v → Part IsOrder (λ o. o.at ∷ []) lo hi v
  unfolding order
  order_part r lo hi v w =
      let u = w.0 in
      let m = w.1.0 in
      let k = key_part r lo m u.0 w.1.1 in
      let up = direction_order _ m hi u.1 w.1.2 in
      moved IsOrder (λ o. o.at ∷ []) lo hi v (order_tree u) w.2 (record { good = k.0; rising = (k.1, (let j = k.2 in omega arith)); filled = (let i = k.1 in let j = k.2 in omega arith) })

  ordering_by : (r lo hi : ℕ) (o : Option (List OrderTree)) → In (option (word_only word.Order ⨟> word_only word.By ⨟> orders)) r lo hi o → ListIf IsOrder order_at lo hi (or_none o)
  unfolding orders
  ordering_by r lo hi None w = no_list IsOrder order_at lo hi w
  ordering_by r lo hi (Some vs) w =
      let s = skip last Good 46 0 r (word_only word.By ⨟> orders) lo hi vs w in
      let t = skip last Good 23 0 _ orders s.0 hi vs s.2 in
      some_list IsOrder order_at lo t.0 hi vs (let k = s.1 in let j = t.1 in omega arith) (separated_parts last Good small IsOrder (λ o. o.at ∷ []) 5 0 _ order (order_part _) (order_part _) t.0 hi vs t.2)

  ordering_part : (r lo hi : ℕ) (vs : List OrderTree) → In ordering r lo hi vs → ListIf IsOrder order_at lo hi vs
  unfolding ordering
  ordering_part r lo hi vs w = subst (λ z. ListIf IsOrder order_at lo hi z) (sym w.2) (ordering_by r lo hi w.0 w.1)

  -- ---- clauses with conditions

  pub record CondIf (q : Bool) (lo hi : ℕ) (o : Option CondTree) : Type 0 where
    pub good : IfSome o (IsCondition q)
    pub rising : Rises lo hi (places_if cond_places o)

  some_cond : (q : Bool) (lo m hi : ℕ) (c : CondTree) → lo ≤ m → Part (Fits q by_itself 0) cond_places m hi c → CondIf q lo hi (Some c)
  some_cond q lo m hi c le p = record {
    good = record { parts = p.good.parts; nested = (let k = p.good.nested alone refl in omega (arith, k)) };
    rising = Rises-wider m hi lo hi (cond_places c) le (omega arith) p.rising;
  }

  where_part : (lo hi : ℕ) (o : Option CondTree) → In (option (word_only word.Where ⨟> cond false)) 0 lo hi o → CondIf false lo hi o
  where_part lo hi None w = record { good = tt; rising = w }
  where_part lo hi (Some c) w =
      let s = skip last Good 56 0 0 (cond false) lo hi c w in
      some_cond false lo s.0 hi c (let k = s.1 in omega arith) (cond_part last small false 0 s.0 hi c (omega arith) s.2)

  only_part : (lo hi : ℕ) (o : Option CondTree) → In (option (word_only word.But ⨟> word_only word.Only ⨟> cond true)) 0 lo hi o → CondIf true lo hi o
  only_part lo hi None w = record { good = tt; rising = w }
  only_part lo hi (Some c) w =
      let s = skip last Good 22 0 0 (word_only word.Only ⨟> cond true) lo hi c w in
      let t = skip last Good 44 0 0 (cond true) s.0 hi c s.2 in
      some_cond true lo t.0 hi c (let k = s.1 in let j = t.1 in omega arith) (cond_part last small true 0 t.0 hi c (omega arith) t.2)

  pub record PreferPart (lo hi : ℕ) (p : Preferred) : Type 0 where
    pub first : ℕ
    pub second : ℕ
    pub preference : IsPref p.0
    pub pref_rising : Rises lo first (pref_places p.0)
    pub grouping : ListIf IsColumn column_at first second p.1.0
    pub only : CondIf true second hi p.1.1

  prefer_part : (lo hi : ℕ) (p : Preferred) → In prefer 0 lo hi p → PreferPart lo hi p
  unfolding prefer pref par prim groups
  prefer_part lo hi p w =
      let s = skip last Good 48 0 0 (both pref (both groups (option (word_only word.But ⨟> word_only word.Only ⨟> cond true)))) lo hi p w in
      let x = s.2 in
      let y = x.2 in
      let q = pref_part last small 0 s.0 x.0 p.0 x.1 in
      record {
        first = x.0;
        second = y.0;
        preference = q.good;
        pref_rising = Rises-wider s.0 x.0 lo x.0 (pref_places p.0) (let k = s.1 in omega arith) (omega arith) q.rising;
        grouping = groups_part 0 x.0 y.0 p.1.0 y.1;
        only = only_part y.0 hi p.1.1 y.2;
      }

  -- ---- statements

  distinct_order : (lo hi : ℕ) (v : Bool) → In distinctness 0 lo hi v → lo ≤ hi
  unfolding distinctness
  distinct_order lo hi v w = by w.0 w.1
    where
      by : (o : Option (Unit {0})) → In (option (word_only word.Distinct)) 0 lo hi o → lo ≤ hi
      by None i = i
      by (Some u) i = let k = stands_filled last Good 0 lo hi i.0 i.2 in omega arith

  query_by : (lo a b c d hi : ℕ) (distinct : Bool) (s : SelectTree) (f : List FromTree) (w : Option CondTree) (p : Option Preferred) (o : List OrderTree) → lo < a → Part IsSelect select_places lo a s → Parts IsFrom from_places a b f → CondIf false b c w →
      In (option prefer) 0 c d p → ListIf IsOrder order_at d hi o → Part IsQuery query_places lo hi (query_tree (distinct, (s, (f, (w, (p, o))))))
  unfolding query_places
  query_by lo a b c d hi distinct s f w None o lt x y z u v =
      let r1 = Rises-append lo a b (select_places s) (flat_map from_places f) x.rising y.rising in
      let r2 = Rises-append lo b c (select_places s ++ flat_map from_places f) (places_if cond_places w) r1 z.rising in
      let r3 = Rises-append lo c c (select_places s ++ flat_map from_places f ++ places_if cond_places w) [] r2 (omega arith) in
      let r4 = Rises-append lo c c (select_places s ++ flat_map from_places f ++ places_if cond_places w ++ []) [] r3 (omega arith) in
      let r5 = Rises-append lo c d (select_places s ++ flat_map from_places f ++ places_if cond_places w ++ [] ++ []) [] r4 u in
      let r6 = Rises-append lo d hi (select_places s ++ flat_map from_places f ++ places_if cond_places w ++ [] ++ [] ++ []) (map order_at o) r5 v.rising in
      record {
        good = record {
          items = x.good;
          tables = (y.some, y.all);
          condition = z.good;
          preference = tt;
          grouping = (omega arith, All-nil IsColumn);
          only_condition = tt;
          sorting = (v.few, v.all);
          ungrouped = (refl, refl);
          places = Rises-sorted lo hi (select_places s ++ flat_map from_places f ++ places_if cond_places w ++ [] ++ [] ++ [] ++ map order_at o) r6;
        };
        rising = r6;
        filled = (let k = Rises-ends a b (flat_map from_places f) y.rising in let j = Rises-ends b c (places_if cond_places w) z.rising in let i = Rises-ends d hi (map order_at o) v.rising in omega arith);
      }
  query_by lo a b c d hi distinct s f w (Some p) o lt x y z u v =
      let q = prefer_part c d p u in
      let r1 = Rises-append lo a b (select_places s) (flat_map from_places f) x.rising y.rising in
      let r2 = Rises-append lo b c (select_places s ++ flat_map from_places f) (places_if cond_places w) r1 z.rising in
      let r3 = Rises-append lo c q.first (select_places s ++ flat_map from_places f ++ places_if cond_places w) (pref_places p.0) r2 q.pref_rising in
      let r4 = Rises-append lo q.first q.second (select_places s ++ flat_map from_places f ++ places_if cond_places w ++ pref_places p.0) (map column_at p.1.0) r3 q.grouping.rising in
      let r5 = Rises-append lo q.second d (select_places s ++ flat_map from_places f ++ places_if cond_places w ++ pref_places p.0 ++ map column_at p.1.0) (places_if cond_places p.1.1) r4 q.only.rising in
      let r6 = Rises-append lo d hi (select_places s ++ flat_map from_places f ++ places_if cond_places w ++ pref_places p.0 ++ map column_at p.1.0 ++ places_if cond_places p.1.1) (map order_at o) r5 v.rising in
      record {
        good = record {
          items = x.good;
          tables = (y.some, y.all);
          condition = z.good;
          preference = q.preference;
          grouping = (q.grouping.few, q.grouping.all);
          only_condition = q.only.good;
          sorting = (v.few, v.all);
          ungrouped = tt;
          places = Rises-sorted lo hi (select_places s ++ flat_map from_places f ++ places_if cond_places w ++ pref_places p.0 ++ map column_at p.1.0 ++ places_if cond_places p.1.1 ++ map order_at o) r6;
        };
        rising = r6;
        filled = (let k = Rises-ends lo d (select_places s ++ flat_map from_places f ++ places_if cond_places w ++ pref_places p.0 ++ map column_at p.1.0 ++ places_if cond_places p.1.1) r5 in let i = Rises-ends d hi (map order_at o) v.rising in let j = Rises-ends c d (pref_places p.0 ++ map column_at p.1.0 ++ places_if cond_places p.1.1) (Rises-append c q.second d (pref_places p.0 ++ map column_at p.1.0) (places_if cond_places p.1.1) (Rises-append c q.first q.second (pref_places p.0) (map column_at p.1.0) q.pref_rising q.grouping.rising) q.only.rising) in let h = Rises-ends a b (flat_map from_places f) y.rising in let g = Rises-ends b c (places_if cond_places w) z.rising in omega arith);
      }

  wider_select : (lo m hi : ℕ) (s : SelectTree) → lo ≤ m → Part IsSelect select_places m hi s → Part IsSelect select_places lo hi s
  wider_select lo m hi s le p = record { good = p.good; rising = Rises-wider m hi lo hi (select_places s) le (omega arith) p.rising; filled = (let k = p.filled in omega arith) }

  wider_from : (lo m hi : ℕ) (f : List FromTree) → lo ≤ m → Parts IsFrom from_places m hi f → Parts IsFrom from_places lo hi f
  wider_from lo m hi f le p = record { all = p.all; rising = Rises-wider m hi lo hi (flat_map from_places f) le (omega arith) p.rising; room = (let k = p.room in omega arith); some = p.some }

  statement_part : (lo hi : ℕ) (v : QueryTree) → In statement 0 lo hi v → Part IsQuery query_places lo hi v
  unfolding statement distinctness list from_items from alias
  statement_part lo hi v w =
      let u = w.0 in
      let s = skip last Good 51 0 0 (both distinctness (both list (both (word_only word.From ⨟> from_items) (both (option (word_only word.Where ⨟> cond false)) (both (option prefer) ordering))))) lo hi u w.1 in
      let x1 = s.2 in
      let x2 = x1.2 in
      let x3 = x2.2 in
      let x4 = x3.2 in
      let x5 = x4.2 in
      let up = distinct_order s.0 x1.0 u.0 x1.1 in
      let select = list_part 0 x1.0 x2.0 u.1.0 x2.1 in
      let t = skip last Good 34 0 0 from_items x2.0 x3.0 u.1.1.0 x3.1 in
      let tables = tables_parts 0 t.0 x3.0 u.1.1.0 t.2 in
      let filter = where_part x3.0 x4.0 u.1.1.1.0 x4.1 in
      let sorted = ordering_part 0 x5.0 hi u.1.1.1.1.1 x5.2 in
      let k = s.1 in
      let j = select.filled in
      moved IsQuery query_places lo hi v (query_tree u) w.2
      (query_by lo x2.0 x3.0 x4.0 x5.0 hi u.0 u.1.0 u.1.1.0 u.1.1.1.0 u.1.1.1.1.0 u.1.1.1.1.1 (omega arith) (wider_select lo x1.0 x2.0 u.1.0 (omega arith) select) (wider_from x2.0 t.0 x3.0 u.1.1.0 (let i = t.1 in omega arith) tables) filter x5.1 sorted)

  -- ---- scripts

  ended_good : (lo hi : ℕ) (v : QueryTree) → In (ended_by statement) 0 lo hi v → IsQuery v
  ended_good lo hi v w = subst IsQuery (sym w.2) (statement_part lo w.1.0 w.0.0 w.1.1).good

  row_good : (lo hi : ℕ) (vs : List QueryTree) → In (many (ended_by statement)) 0 lo hi vs → All IsQuery vs
  row_good lo hi [] w = All-nil IsQuery
  row_good lo hi (v ∷ vs) w = All-cons IsQuery v vs (ended_good lo w.0 v w.1) (row_good w.0 hi vs w.2)

  all_last : (vs : List QueryTree) (v : QueryTree) → All IsQuery vs → IsQuery v → All IsQuery (vs ++ v ∷ [])
  all_last [] v all is = All-cons IsQuery v [] is (All-nil IsQuery)
  all_last (x ∷ vs) v all is = All-cons IsQuery x (vs ++ v ∷ []) (All-head IsQuery x vs all) (all_last vs v (All-tail IsQuery x vs all) is)

  with_last_good : (lo hi : ℕ) (vs : List QueryTree) (o : Option QueryTree) → All IsQuery vs → In (option statement) 0 lo hi o → All IsQuery (with_last (vs, o))
  with_last_good lo hi vs None all w = all
  with_last_good lo hi vs (Some v) all w = all_last vs v all (statement_part lo hi v w).good

  script_good : (lo hi : ℕ) (trees : List QueryTree) → In (script_of statement) 0 lo hi trees → AreWellMade trees
  script_good lo hi trees w = subst (All IsQuery) (sym w.2) (with_last_good w.1.0 hi w.0.0 w.0.1 (row_good lo w.1.0 w.0.0 w.1.1) w.1.2)

  -- ---- from the tokens

  abbrev RunsTo : ℕ → ℕ → List Token → ℕ → Type 0
  RunsTo d lo ts hi = Runs Token Rule class rises falls 64 first_byte behind last Fine d lo ts hi

  runs_of : (d lo : ℕ) (ts : List Token) → All (λ t. IsNameShort t.kind) ts → All (λ t. IsNumberSmall t.kind) ts → StaysWithin Rule 64 d ts → SpansAscend lo last ts → RunsTo d lo ts last
  runs_of d lo [] names numbers nest spans = spans
  runs_of d lo (t ∷ ts) names numbers nest spans = (
    record { deep = nest.0; from = spans.0; filled = spans.1; upto = omega arith; fine = (All-head (λ u. IsNameShort u.kind) t ts names, All-head (λ u. IsNumberSmall u.kind) t ts numbers) },
    runs_of (turn Token Rule class rises falls (class t) d) t.end ts (All-tail (λ u. IsNameShort u.kind) t ts names) (All-tail (λ u. IsNumberSmall u.kind) t ts numbers) nest.1 spans.2,
  )

  abbrev whole : ℕ → (A : Type 0) → Rule A → List Token → A → Type 0
  whole n A p ts v = WholeRule Token Rule class production n A p ts v

  balanced : (n : ℕ) (A : Type 0) (p : Rule A) (d : ℕ) (ts : List Token) (v : A) → whole n A p ts v → level Token Rule class rises falls d ts ≡ d
  balanced n = rule_balanced Token Rule class rises falls production production_keeps n

  rule_good : (n : ℕ) (A : Type 0) (p : Rule A) (d lo : ℕ) (ts : List Token) (hi : ℕ) (v : A) → hi ≤ last → RunsTo d lo ts hi → whole n A p ts v → Good A p d lo hi v
  unfolding WholeRule
  rule_good zero A p d lo ts hi v le run w = absurd w
  rule_good (suc n) A (condition_rule q) d lo ts hi v le run w =
      let none : d ≡ d + 0 = omega arith in
      let at = span_of Token Rule class rises falls 64 first_byte behind last Fine (whole n) (balanced n) Good (rule_good n) (cond q) d 0 d (production_keeps A (condition_rule q)).0 none lo ts hi v le run w in
      λ deep. cond_part last small q d lo hi v deep at
  rule_good (suc n) A preference_rule d lo ts hi v le run w =
      let none : d ≡ d + 0 = omega arith in
      pref_part last small d lo hi v (span_of Token Rule class rises falls 64 first_byte behind last Fine (whole n) (balanced n) Good (rule_good n) pref d 0 d (production_keeps A preference_rule).0 none lo ts hi v le run w)

  whole_good : (n : ℕ) (ts : List Token) (trees : List QueryTree) → RunsTo 0 0 ts last → IsWhole n (script_of statement) ts trees → AreWellMade trees
  whole_good n ts trees run w = script_good 0 last trees (span_of Token Rule class rises falls 64 first_byte behind last Fine (whole n) (balanced n) Good (rule_good n) (script_of statement) 0 0 0 (script_keeps language).0 refl 0 ts last trees (omega arith) run w)

-- The trees of a script whose tokens keep the limits are well made.
pub trees_well_made : (ts : List Token) (end : ℕ) (trees : List QueryTree) → end < 2 ^ 32 → AreTokensOf 64 end ts → IsScript ts trees → AreWellMade trees
trees_well_made ts end trees small tokens w = whole_good end small w.1.0 ts trees (runs_of end small 0 0 ts tokens.names tokens.numbers (NestWithin-stays Rule 64 0 ts tokens.depth) tokens.spans) w.1.1

-- ---- no more trees than tokens

several_few : (P : List Token → QueryTree → Type 0) → ((ts : List Token) (v : QueryTree) → P ts v → 1 ≤ length ts) → (ts : List Token) (vs : List QueryTree) → Several P ts vs → length vs ≤ length ts
several_few P some ts [] w = omega arith
several_few P some ts (v ∷ vs) w =
    let k = several_few P some w.1 vs w.4 in
    let j = some w.0 v w.3 in
    omega (arith, k, j, ap length w.2, length-append w.0 w.1)

statement_some : (n : ℕ) (ts : List Token) (v : QueryTree) → IsWhole n statement ts v → 1 ≤ length ts
unfolding statement
statement_some n ts v w =
    let x = w.1.1 in
    let t = x.3 in
    omega (arith, ap length x.2, length-append x.0 x.1, ap length t.1)

ended_some : (n : ℕ) (ts : List Token) (v : QueryTree) → IsWhole n (ended_by statement) ts v → 1 ≤ length ts
ended_some n ts v w =
    let x = w.1 in
    let k = statement_some n x.0 w.0.0 x.3 in
    omega (arith, k, ap length x.2, length-append x.0 x.1)

last_few : (n : ℕ) (ts : List Token) (vs : List QueryTree) (o : Option QueryTree) → Possibly (λ us v. IsWhole n statement us v) ts o → length (with_last (vs, o)) ≤ length vs + length ts
last_few n ts vs None w = omega arith
last_few n ts vs (Some v) w = let k = statement_some n ts v w in omega (arith, k, length-append vs (v ∷ []))

pub trees_few : (ts : List Token) (trees : List QueryTree) → IsScript ts trees → length trees ≤ length ts
trees_few ts trees w =
    let n = w.1.0 in
    let s = w.1.1 in
    let x = s.1 in
    let a = several_few (λ us v. IsWhole n (ended_by statement) us v) (ended_some n) x.0 s.0.0 x.3 in
    let b = last_few n x.1 s.0.0 s.0.1 x.4 in
    omega (arith, a, b, ap length s.2, ap length x.2, length-append x.0 x.1)
