-- What is written of a well-formed condition means that condition again, and no obligation is false. What is to be shown of each part of a query.
use Rattle.std.proofs.Common.{◌≡◌, ℕ, Bool, true, ◌&&◌, List, [], ◌∷◌, ◌++◌, map, length, refl, sym, ap, ◌∙◌, Some, None}
use Rattle.std.specs.Prelude.{nat_le}
use Rattle.std.specs.List.{list_all, flat_map}
use Rattle.std.proofs.lemmas.Bool.{and_parts, false≢true}
use Rattle.prefsql_tables.specs.Table.{Tables}
use Rattle.prefsql_values.specs.declared.value.Domain.{Domain}
use Rattle.prefsql_values.specs.declared.value.Domain.TheVariants.{Integer, Chars as CharsDomain}
use Rattle.prefsql_values.specs.declared.value.CompareOp.{CompareOp}
use Rattle.sql_tree.specs.Shown.{View, ShownItem, ShownColumn}
use Rattle.sql_read_back.proofs.Judged.{judged_source, judged_cond, judged_scalar, judged_query}
use Rattle.sql_tree.specs.declared.tree.SqlQuery.{SqlQuery}
use Rattle.sql_tree.specs.declared.tree.SqlSource.{SqlSource}
use Rattle.sql_tree.specs.declared.tree.SqlFrom.{SqlFrom}
use Rattle.sql_text.specs.declared.named.NamedQuery.{NamedQuery}
use Rattle.sql_text.specs.declared.named.NamedFrom.{NamedFrom}
use Rattle.sql_tree.specs.WellFormed.{JudgedScalar, agrees, domain_eq}
use Rattle.sql_tree.specs.declared.tree.SqlCond.{SqlCond, roll-SqlCond}
use Rattle.sql_tree.specs.declared.tree.SqlCond as tree
use Rattle.sql_tree.specs.declared.tree.SqlCond.TheOpen.{SqlCond-F}
use Rattle.sql_tree.specs.declared.tree.SqlCond.TheViews as views
use Rattle.sql_tree.specs.declared.tree.SqlScalar.{SqlScalar}
use Rattle.sql_tree.specs.declared.tree.SqlTable.{SqlTable}
use Rattle.sql_text.specs.Text.{Names}
use Rattle.sql_read_back.proofs.Writable.{FineScalar, fine_cond, fine_scalar, fine_query, fine_source}
use Rattle.sql_text.specs.declared.named.NamedCond.{NamedCond}
use Rattle.sql_text.specs.declared.named.NamedCond as named_cond
use Rattle.sql_text.specs.declared.named.NamedScalar.{NamedScalar}
use Rattle.sql_read_back.proofs.FineEquations.{fine-And, fine-Or, fine-Not, fine-Compare, fine-Between, fine-OneOf, fine-IsNull}
use Rattle.sql_read_back.proofs.Placed.{Each}
use Rattle.sql_resolver.specs.Scope.{ScopeColumn, ScopeItem, Scopes, names_in}
use Rattle.sql_resolver.specs.Owed.{Fault, fault_if, differ}
use Rattle.sql_resolver.specs.Reading.{In, CondReading, ScalarReading, unlike, from_reading, query_reading, cond_reading, scalar_reading}
use Rattle.sql_resolver.specs.Statements.{with_order}
use Rattle.sql_read_back.proofs.JudgedEquations.{judged-And, judged-Or, judged-Not, judged-Compare, judged-Between, judged-OneOf, judged-IsNull}
use Rattle.sql_read_back.proofs.Readings.{reading-And, reading-Or, reading-Not, reading-Compare, reading-Between, reading-OneOf, reading-IsNull}

-- ---- scopes as they are seen

abbrev pub scope_column : ShownColumn → ScopeColumn
scope_column column = record { name = column.name; domain = Some column.shape.domain; bound = Some column.shape.bound }

abbrev pub scope_item : ShownItem → ScopeItem
scope_item item = record { name = item.name; columns = map scope_column item.columns }

abbrev pub scopes_of : View → Scopes
scopes_of = map (map scope_item)

-- ---- domains

pub same_domain : (d e : Domain) → domain_eq d e ≡ true → d ≡ e
same_domain Integer Integer is = refl
same_domain Integer CharsDomain is = absurd (false≢true is)
same_domain CharsDomain Integer is = absurd (false≢true is)
same_domain CharsDomain CharsDomain is = refl

pub no_difference : (d : Domain) (at : ℕ) → fault_if (differ (Some d) (Some d)) 305 at ≡ []
no_difference Integer at = refl
no_difference CharsDomain at = refl

-- ---- faults

pub none_both : (xs ys : List Fault) → xs ≡ [] → ys ≡ [] → xs ++ ys ≡ []
none_both xs ys p q = ap (λ z. z ++ ys) p ∙ q

module _ (ok : SqlTable → Bool) (tables : Tables) where
  -- of a scalar: its tree, domain and bound, and no fault
  pub record ScalarBack (s : SqlScalar) (n : NamedScalar) (view : View) : Type 0 where
    pub tree : (scalar_reading tables n (scopes_of view)).tree ≡ s
    pub domain : (scalar_reading tables n (scopes_of view)).domain ≡ Some (judged_scalar s view).shape.domain
    pub bound : (scalar_reading tables n (scopes_of view)).bound ≡ Some (judged_scalar s view).shape.bound
    pub faults : (scalar_reading tables n (scopes_of view)).faults ≡ []

  pub record CondBack (c : SqlCond) (n : NamedCond) (view : View) : Type 0 where
    pub tree : (cond_reading tables n (scopes_of view)).tree ≡ c
    pub faults : (cond_reading tables n (scopes_of view)).faults ≡ []

  -- of what is well formed and can be written, where these are the names in scope
  abbrev pub QS : Names → SqlScalar → NamedScalar → Type 0
  QS names s n = (view : View) → names_in (scopes_of view) ≡ names → (judged_scalar s view).well ≡ true → ((fine_scalar ok) s names).fine ≡ true → ScalarBack s n view

  abbrev pub QC : Names → SqlCond → NamedCond → Type 0
  QC names c n = (view : View) → names_in (scopes_of view) ≡ names → judged_cond c view ≡ true → (fine_cond ok) c names ≡ true → CondBack c n view

  -- of a query: itself without its order, its columns, and no false obligation
  pub record QueryBack (q : SqlQuery) (n : NamedQuery) (view : View) : Type 0 where
    pub tree : (query_reading tables n (scopes_of view)).tree ≡ with_order [] q
    pub columns : (query_reading tables n (scopes_of view)).columns ≡ map scope_column (judged_query q view).columns
    pub first : (query_reading tables n (scopes_of view)).first ≡ None

  -- of a source with the name that is written after it
  pub record SourceBack (name : List ℕ) (s : SqlSource) (n : NamedFrom) : Type 0 where
    pub tree : (from_reading tables n).tree ≡ (let f : SqlFrom = record { name = name; source = s } in f)
    pub item : (from_reading tables n).item ≡ scope_item (record { name = name; columns = (judged_source s).columns })
    pub faults : (from_reading tables n).faults ≡ []

  abbrev pub QQ : Names → SqlQuery → NamedQuery → Type 0
  QQ names q n = (view : View) → names_in (scopes_of view) ≡ names → (judged_query q view).well ≡ true → (fine_query ok q).fine names ≡ true → QueryBack q n view

  abbrev pub QF : List ℕ → SqlSource → NamedFrom → Type 0
  QF name s n = (judged_source s).well ≡ true → (fine_source ok s).fine ≡ true → SourceBack name s n

  -- ---- conditions

  -- the parts of a chain
  pub record PartsBack (parts : List SqlCond) (ns : List NamedCond) (view : View) : Type 0 where
    pub trees : map (λ (part : In CondReading). (part (scopes_of view)).tree) (map (cond_reading tables) ns) ≡ parts
    pub faults : flat_map (λ (part : In CondReading). (part (scopes_of view)).faults) (map (cond_reading tables) ns) ≡ []

  parts_back : (names : Names) (view : View) → names_in (scopes_of view) ≡ names → (parts : List SqlCond) (ns : List NamedCond) → Each (QC names) parts ns →
      list_all (λ (part : View → Bool). part view) (map judged_cond parts) ≡ true → list_all (λ (part : Names → Bool). part names) (map (fine_cond ok) parts) ≡ true → PartsBack parts ns view
  parts_back names view same [] [] each well fine = record { trees = refl; faults = refl }
  parts_back names view same [] (n ∷ ns) each well fine = absurd each
  parts_back names view same (c ∷ parts) [] each well fine = absurd each
  parts_back names view same (c ∷ parts) (n ∷ ns) each well fine =
      let w = and_parts (judged_cond c view) (list_all (λ (part : View → Bool). part view) (map judged_cond parts)) well in
      let f = and_parts ((fine_cond ok) c names) (list_all (λ (part : Names → Bool). part names) (map (fine_cond ok) parts)) fine in
      let one = each.0 view same w.0 f.0 in
      let more = parts_back names view same parts ns each.1 w.1 f.1 in
      let scopes = scopes_of view in
      let trees = map (λ (part : In CondReading). (part scopes).tree) (map (cond_reading tables) ns) in
      let faults = flat_map (λ (part : In CondReading). (part scopes).faults) (map (cond_reading tables) ns) in
      record {
        trees = ap (λ t. t ∷ trees) one.tree ∙ ap (λ ts. c ∷ ts) more.trees;
        faults = ap (λ fs. fs ++ faults) one.faults ∙ more.faults;
      }

  pub conjunction_back : (names : Names) (parts : List SqlCond) (ns : List NamedCond) → Each (QC names) parts ns → QC names (roll-SqlCond (SqlCond-F.And parts)) (named_cond.And ns)
  conjunction_back names parts ns each view same well fine =
      let w = and_parts (nat_le 2 (length (map judged_cond parts))) (list_all (λ (part : View → Bool). part view) (map judged_cond parts)) (sym (judged-And parts view) ∙ well) in
      let f = and_parts (nat_le 2 (length (map (fine_cond ok) parts))) (list_all (λ (part : Names → Bool). part names) (map (fine_cond ok) parts)) (sym (fine-And ok parts names) ∙ fine) in
      let back = parts_back names view same parts ns each w.1 f.1 in
      let is = reading-And tables ns (scopes_of view) in
      record {
        tree = ap (λ (r : CondReading). r.tree) is ∙ (ap tree.And back.trees ∙ sym (views.rolls-And parts));
        faults = ap (λ (r : CondReading). r.faults) is ∙ back.faults;
      }

  pub disjunction_back : (names : Names) (parts : List SqlCond) (ns : List NamedCond) → Each (QC names) parts ns → QC names (roll-SqlCond (SqlCond-F.Or parts)) (named_cond.Or ns)
  disjunction_back names parts ns each view same well fine =
      let w = and_parts (nat_le 2 (length (map judged_cond parts))) (list_all (λ (part : View → Bool). part view) (map judged_cond parts)) (sym (judged-Or parts view) ∙ well) in
      let f = and_parts (nat_le 2 (length (map (fine_cond ok) parts))) (list_all (λ (part : Names → Bool). part names) (map (fine_cond ok) parts)) (sym (fine-Or ok parts names) ∙ fine) in
      let back = parts_back names view same parts ns each w.1 f.1 in
      let is = reading-Or tables ns (scopes_of view) in
      record {
        tree = ap (λ (r : CondReading). r.tree) is ∙ (ap tree.Or back.trees ∙ sym (views.rolls-Or parts));
        faults = ap (λ (r : CondReading). r.faults) is ∙ back.faults;
      }

  pub negation_back : (names : Names) (part : SqlCond) (n : NamedCond) → QC names part n → QC names (roll-SqlCond (SqlCond-F.Not part)) (named_cond.Not n)
  negation_back names part n one view same well fine =
      let back = one view same (sym (judged-Not part view) ∙ well) (sym (fine-Not ok part names) ∙ fine) in
      let is = reading-Not tables n (scopes_of view) in
      record {
        tree = ap (λ (r : CondReading). r.tree) is ∙ (ap tree.Not back.tree ∙ sym (views.rolls-Not part));
        faults = ap (λ (r : CondReading). r.faults) is ∙ back.faults;
      }

  -- two scalars whose domains agree
  unlike_none : (view : View) (a b : SqlScalar) (m n : NamedScalar) → ScalarBack a m view → ScalarBack b n view → domain_eq (judged_scalar a view).shape.domain (judged_scalar b view).shape.domain ≡ true →
      unlike (scalar_reading tables m (scopes_of view)) (scalar_reading tables n (scopes_of view)) ≡ []
  unlike_none view a b m n p q e =
      let at = (scalar_reading tables n (scopes_of view)).at in
      let same = same_domain (judged_scalar a view).shape.domain (judged_scalar b view).shape.domain e in
      ap (λ d. fault_if (differ d (scalar_reading tables n (scopes_of view)).domain) 305 at) p.domain
      ∙ (ap (λ d. fault_if (differ (Some (judged_scalar a view).shape.domain) d) 305 at) (q.domain ∙ ap Some (sym same)) ∙ no_difference (judged_scalar a view).shape.domain at)

  pub comparison_back : (names : Names) (op : CompareOp) (a b : SqlScalar) (m n : NamedScalar) → QS names a m → QS names b n → QC names (roll-SqlCond (SqlCond-F.Compare op a b)) (named_cond.Compare op m n)
  comparison_back names op a b m n p q view same well fine =
      let w = and_parts (judged_scalar a view).well (agrees (judged_scalar a view) (judged_scalar b view)) (sym (judged-Compare op a b view) ∙ well) in
      let v = and_parts (judged_scalar b view).well (domain_eq (judged_scalar a view).shape.domain (judged_scalar b view).shape.domain) w.1 in
      let f = and_parts ((fine_scalar ok) a names).fine ((fine_scalar ok) b names).fine (sym (fine-Compare ok op a b names) ∙ fine) in
      let left = p view same w.0 f.0 in
      let right = q view same v.0 f.1 in
      let is = reading-Compare tables op m n (scopes_of view) in
      let L = scalar_reading tables m (scopes_of view) in
      let R = scalar_reading tables n (scopes_of view) in
      record {
        tree = ap (λ (r : CondReading). r.tree) is ∙ (ap (λ t. tree.Compare op t R.tree) left.tree ∙ (ap (λ t. tree.Compare op a t) right.tree ∙ sym (views.rolls-Compare op a b)));
        faults = ap (λ (r : CondReading). r.faults) is ∙ (ap (λ fs. (fs ++ R.faults) ++ unlike L R) left.faults ∙ (ap (λ fs. ([] ++ fs) ++ unlike L R) right.faults ∙ unlike_none view a b m n left right v.1));
      }

  pub null_back : (names : Names) (negated : Bool) (a : SqlScalar) (m : NamedScalar) → QS names a m → QC names (roll-SqlCond (SqlCond-F.IsNull negated a)) (named_cond.IsNull negated m)
  null_back names negated a m p view same well fine =
      let back = p view same (sym (judged-IsNull negated a view) ∙ well) (sym (fine-IsNull ok negated a names) ∙ fine) in
      let is = reading-IsNull tables negated m (scopes_of view) in
      record {
        tree = ap (λ (r : CondReading). r.tree) is ∙ (ap (tree.IsNull negated) back.tree ∙ sym (views.rolls-IsNull negated a));
        faults = ap (λ (r : CondReading). r.faults) is ∙ back.faults;
      }

  pub range_back : (names : Names) (negated : Bool) (a low high : SqlScalar) (m n o : NamedScalar) → QS names a m → QS names low n → QS names high o → QC names (roll-SqlCond (SqlCond-F.Between negated a low high)) (named_cond.Between negated m n o)
  range_back names negated a low high m n o p q r view same well fine =
      let A = judged_scalar a view in
      let w = and_parts (A.well && agrees A (judged_scalar low view)) (agrees A (judged_scalar high view)) (sym (judged-Between negated a low high view) ∙ well) in
      let v = and_parts A.well (agrees A (judged_scalar low view)) w.0 in
      let wl = and_parts (judged_scalar low view).well (domain_eq A.shape.domain (judged_scalar low view).shape.domain) v.1 in
      let wh = and_parts (judged_scalar high view).well (domain_eq A.shape.domain (judged_scalar high view).shape.domain) w.1 in
      let f = and_parts (fine_scalar ok a names).fine ((fine_scalar ok low names).fine && (fine_scalar ok high names).fine) (sym (fine-Between ok negated a low high names) ∙ fine) in
      let g = and_parts (fine_scalar ok low names).fine (fine_scalar ok high names).fine f.1 in
      let one = p view same v.0 f.0 in
      let two = q view same wl.0 g.0 in
      let three = r view same wh.0 g.1 in
      let is = reading-Between tables negated m n o (scopes_of view) in
      let L = scalar_reading tables m (scopes_of view) in
      let M = scalar_reading tables n (scopes_of view) in
      let H = scalar_reading tables o (scopes_of view) in
      record {
        tree = ap (λ (r : CondReading). r.tree) is ∙ (ap (λ t. tree.Between negated t M.tree H.tree) one.tree ∙ (ap (λ t. tree.Between negated a t H.tree) two.tree ∙ (ap (λ t. tree.Between negated a low t) three.tree ∙ sym (views.rolls-Between negated a low high))));
        faults = ap (λ (r : CondReading). r.faults) is
            ∙ none_both (((L.faults ++ M.faults) ++ H.faults) ++ unlike L M) (unlike L H) (none_both ((L.faults ++ M.faults) ++ H.faults) (unlike L M) (none_both (L.faults ++ M.faults) H.faults (none_both L.faults M.faults one.faults two.faults) three.faults) (unlike_none view a low m n one two wl.1)) (unlike_none view a high m o one three wh.1);
      }

  pub record ListBack (list : List SqlScalar) (ns : List NamedScalar) (first : ScalarReading) (view : View) : Type 0 where
    pub trees : map (λ (b : In ScalarReading). (b (scopes_of view)).tree) (map (scalar_reading tables) ns) ≡ list
    pub faults : flat_map (λ (b : In ScalarReading). (b (scopes_of view)).faults ++ unlike first (b (scopes_of view))) (map (scalar_reading tables) ns) ≡ []

  list_back : (names : Names) (view : View) → names_in (scopes_of view) ≡ names → (a : SqlScalar) (m : NamedScalar) → ScalarBack a m view → (list : List SqlScalar) (ns : List NamedScalar) → Each (QS names) list ns →
      list_all (λ (b : View → JudgedScalar). agrees (judged_scalar a view) (b view)) (map judged_scalar list) ≡ true → list_all (λ (b : Names → FineScalar). (b names).fine) (map (fine_scalar ok) list) ≡ true → ListBack list ns (scalar_reading tables m (scopes_of view)) view
  list_back names view same a m first [] [] each well fine = record { trees = refl; faults = refl }
  list_back names view same a m first [] (n ∷ ns) each well fine = absurd each
  list_back names view same a m first (b ∷ list) [] each well fine = absurd each
  list_back names view same a m first (b ∷ list) (n ∷ ns) each well fine =
      let w = and_parts (agrees (judged_scalar a view) (judged_scalar b view)) (list_all (λ (b : View → JudgedScalar). agrees (judged_scalar a view) (b view)) (map judged_scalar list)) well in
      let v = and_parts (judged_scalar b view).well (domain_eq (judged_scalar a view).shape.domain (judged_scalar b view).shape.domain) w.0 in
      let f = and_parts (fine_scalar ok b names).fine (list_all (λ (b : Names → FineScalar). (b names).fine) (map (fine_scalar ok) list)) fine in
      let one = each.0 view same v.0 f.0 in
      let more = list_back names view same a m first list ns each.1 w.1 f.1 in
      let scopes = scopes_of view in
      let L = scalar_reading tables m scopes in
      let N = scalar_reading tables n scopes in
      let trees = map (λ (b : In ScalarReading). (b scopes).tree) (map (scalar_reading tables) ns) in
      let faults = flat_map (λ (b : In ScalarReading). (b scopes).faults ++ unlike L (b scopes)) (map (scalar_reading tables) ns) in
      record {
        trees = ap (λ t. t ∷ trees) one.tree ∙ ap (λ ts. b ∷ ts) more.trees;
        faults = none_both (N.faults ++ unlike L N) faults (none_both N.faults (unlike L N) one.faults (unlike_none view a b m n first one v.1)) more.faults;
      }

  pub member_back : (names : Names) (negated : Bool) (a : SqlScalar) (list : List SqlScalar) (m : NamedScalar) (ns : List NamedScalar) → QS names a m → Each (QS names) list ns → QC names (roll-SqlCond (SqlCond-F.OneOf negated a list)) (named_cond.OneOf negated m ns)
  member_back names negated a list m ns p each view same well fine =
      let A = judged_scalar a view in
      let all = list_all (λ (b : View → JudgedScalar). agrees A (b view)) (map judged_scalar list) in
      let w = and_parts (A.well && nat_le 1 (length (map judged_scalar list))) all (sym (judged-OneOf negated a list view) ∙ well) in
      let v = and_parts A.well (nat_le 1 (length (map judged_scalar list))) w.0 in
      let each_fine = list_all (λ (b : Names → FineScalar). (b names).fine) (map (fine_scalar ok) list) in
      let some = nat_le 1 (length (map (fine_scalar ok) list)) in
      let f = and_parts (fine_scalar ok a names).fine (some && each_fine) (sym (fine-OneOf ok negated a list names) ∙ fine) in
      let g = and_parts some each_fine f.1 in
      let one = p view same v.0 f.0 in
      let back = list_back names view same a m one list ns each w.1 g.1 in
      let is = reading-OneOf tables negated m ns (scopes_of view) in
      let scopes = scopes_of view in
      let L = scalar_reading tables m scopes in
      let trees = map (λ (b : In ScalarReading). (b scopes).tree) (map (scalar_reading tables) ns) in
      let faults = flat_map (λ (b : In ScalarReading). (b scopes).faults ++ unlike L (b scopes)) (map (scalar_reading tables) ns) in
      record {
        tree = ap (λ (r : CondReading). r.tree) is ∙ (ap (λ t. tree.OneOf negated t trees) one.tree ∙ (ap (λ ts. tree.OneOf negated a ts) back.trees ∙ sym (views.rolls-OneOf negated a list)));
        faults = ap (λ (r : CondReading). r.faults) is ∙ none_both L.faults faults one.faults back.faults;
      }
