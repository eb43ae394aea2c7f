-- The productions as they are written stand for the same as the forms that are read, with the same fronts.
use Rattle.std.proofs.Common.{◌≡◌, Bool, true, false, List, [], ◌∷◌, refl, Option, Some, None}
use Rattle.grammar_forms.specs.Form.{both, either, option, many, map, rows, rule, Wholes, Fronts}
use Rattle.grammar_forms.proofs.Equal.{Equal, Equal-refl, Equal-sym, Equal-trans, Equal-both, Equal-either, Equal-option, Equal-many, Equal-map, Equal-swap, Equal-choices, Equal-factor, Equal-factor_last, Equal-factor_map, Equal-fuse, Equal-plain, Equal-inside, Equal-before, Equal-regroup, Equal-rows}
use Rattle.prefsql_lexer.specs.declared.token.Token.{Token}
use Rattle.prefsql_lexer.specs.declared.token.Keyword.TheVariants as word
use Rattle.prefsql_lexer.specs.declared.token.Symbol.TheVariants as symbol
use Rattle.query_tree.specs.declared.condition.CondTree.{CondTree}
use Rattle.query_tree.specs.declared.condition.CondTree.TheVariants as cond_tree
use Rattle.query_tree.specs.declared.preference.PrefTree.TheVariants as pref_tree
use Rattle.token_forms.specs.Classes.{class}
use Rattle.query_grammar.specs.Rules.{Grammar, Rule, condition_rule, preference_rule}
use Rattle.token_forms.specs.Forms.{◌⨟◌, ◌⨟>◌, ◌<⨟◌, word_only, symbol_only, separated, comma, in_parens, chain}
use Rattle.token_forms.specs.Columns.{column}
use Rattle.query_grammar.specs.Scalars.{scalar, comparison, between, member, null_test, negated_rest, test_tree, negated_tree}
use Rattle.token_forms.specs.Phrases.{negation, from_items}
use Rattle.query_tree.specs.declared.name.NameTree.{NameTree}
use Rattle.query_tree.specs.declared.preference.SetTree.{SetTree}
use Rattle.query_tree.specs.declared.preference.EdgeTree.{EdgeTree}
use Rattle.query_tree.specs.declared.preference.BaseForm.{BaseForm}
use Rattle.query_tree.specs.declared.preference.BaseForm.TheVariants as base_form
use Rattle.query_tree.specs.declared.preference.BaseTree.{BaseTree}
use Rattle.token_forms.specs.Forms.{word_at}
use Rattle.token_forms.specs.Columns.{literal}
use Rattle.query_grammar.specs.Sets.{single, set, sets, edges, mark}
use Rattle.query_grammar.specs.Preferences.{good, bad, layers, layers_tree, Unmarked, extremum, else_good, else_bad, good_tree, bad_tree, around_tree, between_tree, layered_tree, other, explicit_tree, graph, marked, base, prim, par, pref}
use Rattle.query_grammar.specs.ReadPreferences as read
use Rattle.query_grammar.specs.ReadPreferences.{good_set, bad_set, second_good, second_bad, second_form, otherwise, good_form, good_base, between_form, between_base, others, more_layers, with_first, sets_and_others, layers_from_sets, layers_from_others, layers_form, other_form, other_tree, graph_tree, graph_form, column_base, extremum_tree, lowest, highest, any_base, primary, primaries, pareto, cascade, preference}
use Rattle.query_grammar.specs.Items.{list, groups}
use Rattle.token_forms.specs.Phrases.{distinctness, ordering}
use Rattle.query_grammar.specs.Trees.{query_tree}
use Rattle.query_grammar.specs.ReadStatements.{filter, only, prefer_form, statement_form}
use Rattle.query_grammar.specs.Statements.{prefer, statement}
use Rattle.query_grammar.specs.Conditions.{rest, test, neg, conj, cond}
use Rattle.query_grammar.specs.ReadConditions.{negatable, rest_form, plain_test, test_form, negated, conjuncts, conjunction, disjuncts, condition}

module _ (R : (A : Type 0) → Rule A → Wholes Token A) (S : (A : Type 0) → Rule A → Fronts Token) (none : (A : Type 0) (p : Rule A) → S A p []) where
  abbrev pub Same : {A : Type 0} → Grammar A → Grammar A → Type 0
  Same f g = Equal Token Rule class R S f g

  pub same : {A : Type 0} (f : Grammar A) → Same f f
  same f = Equal-refl Token Rule class R S f

  pub flip : {A : Type 0} (f g : Grammar A) → Same f g → Same g f
  flip f g p = Equal-sym Token Rule class R S f g p

  pub then : {A : Type 0} (f g h : Grammar A) → Same f g → Same g h → Same f h
  then f g h p q = Equal-trans Token Rule class R S f g h p q

  pub seq : {A B : Type 0} (f g : Grammar A) (h k : Grammar B) → Same f g → Same h k → Same (both f h) (both g k)
  seq f g h k p q = Equal-both Token Rule class R S f g h k p q

  pub sides : {A : Type 0} (f g h k : Grammar A) → Same f g → Same h k → Same (either f h) (either g k)
  sides f g h k p q = Equal-either Token Rule class R S f g h k p q

  pub under : {A B : Type 0} (h : A → B) (f g : Grammar A) → Same f g → Same (map h f) (map h g)
  under h f g p = Equal-map Token Rule class R S h f g p

  pub swap : {A : Type 0} (f g : Grammar A) → Same (either f g) (either g f)
  swap f g = Equal-swap Token Rule class R S f g

  pub maybe : {A : Type 0} (f g : Grammar A) → Same f g → Same (option f) (option g)
  maybe f g p = Equal-option Token Rule class R S f g p

  -- one after the other, with the value of the second or of the first
  pub seq_second : {A B : Type 0} (f g : Grammar A) (h k : Grammar B) → Same f g → Same h k → Same (f ⨟> h) (g ⨟> k)
  seq_second {A} {B} f g h k p q = under {A = A × B} (λ z. z.1) (both f h) (both g k) (seq f g h k p q)

  pub seq_first : {A B : Type 0} (f g : Grammar A) (h k : Grammar B) → Same f g → Same h k → Same (f <⨟ h) (g <⨟ k)
  seq_first {A} {B} f g h k p q = under {A = A × B} (λ z. z.0) (both f h) (both g k) (seq f g h k p q)

  pub listed : {A : Type 0} (s : Grammar (Unit {0})) (f g : Grammar A) → Same f g → Same (separated s f) (separated s g)
  listed {A} s f g p =
      under {A = A × List A} (λ z. z.0 ∷ z.1) (both f (many (s ⨟> f))) (both g (many (s ⨟> g)))
      (seq f g (many (s ⨟> f)) (many (s ⨟> g)) p (Equal-many Token Rule class R S (s ⨟> f) (s ⨟> g) (seq_second s s f g (same s) p)))

  pub enclosed : {A : Type 0} (f g : Grammar A) → Same f g → Same (in_parens f) (in_parens g)
  enclosed f g p =
      let left = symbol_only symbol.LeftParen in
      let right = symbol_only symbol.RightParen in
      seq_second left left (f <⨟ right) (g <⨟ right) (same left) (seq_first f g right right p (same right))

  -- a first part and a change of values that two sides have in common
  pub factor : {A B C : Type 0} (h : A × B → C) (c : Grammar A) (f g : Grammar B) → Same (either (map h (both c f)) (map h (both c g))) (map h (both c (either f g)))
  factor h c f g =
      then (either (map h (both c f)) (map h (both c g))) (map h (either (both c f) (both c g))) (map h (both c (either f g)))
      (Equal-factor_map Token Rule class R S h (both c f) (both c g))
      (under h (either (both c f) (both c g)) (both c (either f g)) (Equal-factor Token Rule class R S c f g))

  -- ---- conditions

  Same-rest : (q : Bool) → Same (rest q) (rest_form q)
  unfolding rest rest_form negatable
  Same-rest q =
      let c = comparison q in
      let b = map negated_rest (both negation (between q)) in
      let m = map negated_rest (both negation (member q)) in
      let n = null_test in
      let j = map negated_rest (both negation (either (between q) (member q))) in
      then (either c (either b (either m n))) (either c (either j n)) (either n (either j c))
      (sides c c (either b (either m n)) (either j n) (same c)
      (then (either b (either m n)) (either (either b m) n) (either j n) (flip (either (either b m) n) (either b (either m n)) (Equal-choices Token Rule class R S b m n))
      (sides (either b m) j n n (factor negated_rest negation (between q) (member q)) (same n))))
      (then (either c (either j n)) (either (either j n) c) (either n (either j c)) (swap c (either j n))
      (then (either (either j n) c) (either (either n j) c) (either n (either j c)) (sides (either j n) (either n j) c c (swap j n) (same c)) (Equal-choices Token Rule class R S n j c)))

  Same-plain : (q : Bool) → Same (either (in_parens (rule (condition_rule q))) (map test_tree (both (scalar q) (rest q)))) (plain_test q)
  unfolding plain_test
  Same-plain q =
      let p = in_parens (rule (condition_rule q)) in
      sides p p (map test_tree (both (scalar q) (rest q))) (map test_tree (both (scalar q) (rest_form q))) (same p)
      (under test_tree (both (scalar q) (rest q)) (both (scalar q) (rest_form q)) (seq (scalar q) (scalar q) (rest q) (rest_form q) (same (scalar q)) (Same-rest q)))

  Same-test : (q : Bool) → Same (test q) (test_form q)
  unfolding test test_form
  Same-test false = Same-plain false
  Same-test true =
      let p = in_parens (rule (condition_rule true)) in
      let s = map test_tree (both (scalar true) (rest true)) in
      let t = map cond_tree.Top (word_only word.Top ⨟> in_parens column) in
      then (either p (either s t)) (either (either p s) t) (either t (plain_test true)) (flip (either (either p s) t) (either p (either s t)) (Equal-choices Token Rule class R S p s t))
      (then (either (either p s) t) (either t (either p s)) (either t (plain_test true)) (swap (either p s) t)
      (sides t t (either p s) (plain_test true) (same t) (Same-plain true)))

  Same-neg : (q : Bool) → Same (neg q) (negated q)
  unfolding neg negated
  Same-neg q = under negated_tree (both negation (test q)) (both negation (test_form q)) (seq negation negation (test q) (test_form q) (same negation) (Same-test q))

  Same-conj : (q : Bool) → Same (conj q) (conjunction q)
  unfolding conj conjunction conjuncts
  Same-conj q = under (chain cond_tree.And) (separated (word_only word.And) (neg q)) (separated (word_only word.And) (negated q)) (listed (word_only word.And) (neg q) (negated q) (Same-neg q))

  pub Same-cond : (q : Bool) → Same (cond q) (condition q)
  unfolding cond condition disjuncts
  Same-cond q = under (chain cond_tree.Or) (separated (word_only word.Or) (conj q)) (separated (word_only word.Or) (conjunction q)) (listed (word_only word.Or) (conj q) (conjunction q) (Same-conj q))

  -- ---- preferences

  -- what stands behind a word
  push : {A B : Type 0} (h : A → B) (e : Grammar (Unit {0})) (f : Grammar A) → Same (map h (e ⨟> f)) (e ⨟> map h f)
  push {A} {B} h e f =
      let k : Unit {0} × A → B = λ z. h z.1 in
      let second : Unit {0} × B → B = λ z. z.1 in
      then (map h (e ⨟> f)) (map k (both e f)) (e ⨟> map h f) (Equal-fuse Token Rule class R S h (λ z. z.1) k (both e f) (λ a. refl)) (Equal-inside Token Rule class R S k second h e f (λ a b. refl))

  Same-good : Same good (both column good_set)
  unfolding good good_set
  Same-good = Equal-factor Token Rule class R S column (map single (symbol_only symbol.Equal ⨟> literal)) (word_only word.In ⨟> set)

  Same-bad : Same bad (both column bad_set)
  unfolding bad bad_set
  Same-bad = Equal-factor Token Rule class R S column (map single (symbol_only symbol.NotEqual ⨟> literal)) (word_only word.Not ⨟> word_only word.In ⨟> set)

  -- one side after ELSE
  Same-else : (h : NameTree × SetTree → SetTree → BaseForm) (t : SetTree → read.Second) (f : Grammar (NameTree × SetTree)) (g : Grammar SetTree) → Same f (both column g) → ((a : NameTree) (b : SetTree) → h (a, b) ≡ second_form (a, t b)) →
      Same (map h (word_only word.Else ⨟> f)) (word_only word.Else ⨟> map second_form (both column (map t g)))
  Same-else h t f g p e =
      let w = word_only word.Else in
      then (map h (w ⨟> f)) (w ⨟> map h f) (w ⨟> map second_form (both column (map t g))) (push h w f)
      (seq_second w w (map h f) (map second_form (both column (map t g))) (same w)
      (then (map h f) (map h (both column g)) (map second_form (both column (map t g))) (under h f (both column g) p) (Equal-inside Token Rule class R S h second_form t column g e)))

  Same-otherwise : Same (either (map else_good (word_only word.Else ⨟> good)) (map else_bad (word_only word.Else ⨟> bad))) otherwise
  unfolding otherwise
  Same-otherwise =
      let w = word_only word.Else in
      let a = map second_good good_set in
      let b = map second_bad bad_set in
      let x = map second_form (both column a) in
      let y = map second_form (both column b) in
      let z = map second_form (both column (either a b)) in
      let second : Unit {0} × (SetTree → BaseForm) → (SetTree → BaseForm) = λ u. u.1 in
      then (either (map else_good (w ⨟> good)) (map else_bad (w ⨟> bad))) (either (w ⨟> x) (w ⨟> y)) otherwise
      (sides (map else_good (w ⨟> good)) (w ⨟> x) (map else_bad (w ⨟> bad)) (w ⨟> y) (Same-else else_good second_good good good_set Same-good (λ a b. refl)) (Same-else else_bad second_bad bad bad_set Same-bad (λ a b. refl)))
      (then (either (w ⨟> x) (w ⨟> y)) (w ⨟> either x y) otherwise (factor second w x y)
      (then (w ⨟> either x y) (w ⨟> z) otherwise (seq_second w w (either x y) z (same w) (factor second_form column a b))
      (flip otherwise (w ⨟> z) (push second_form w (both column (either a b))))))

  -- a base preference with its mark, as it is written and as it is read
  abbrev Marked : Grammar Unmarked → Grammar BaseTree
  Marked f = map marked (both f mark)

  abbrev OnColumn : Grammar BaseForm → Grammar BaseTree
  OnColumn f = map read.on_column (both column (map other_tree (both f mark)))

  on_columns : {X : Type 0} (m : NameTree × X → Unmarked) (f : X → BaseForm) (x : Grammar X) → ((c : NameTree) (a : X) (d : Bool) → m (c, a) d ≡ read.on_column (c, other_tree (f a, d))) → Same (Marked (map m (both column x))) (OnColumn (map f x))
  on_columns {X} m f x e =
      let k : (NameTree × X) × Bool → BaseTree = λ z. m z.0 z.1 in
      let l : NameTree × (X × Bool) → BaseTree = λ z. m (z.0, z.1.0) z.1.1 in
      let t : X × Bool → NameTree → BaseTree = λ z. other_tree (f z.0, z.1) in
      then (Marked (map m (both column x))) (map k (both (both column x) mark)) (OnColumn (map f x)) (Equal-before Token Rule class R S marked k m (both column x) mark (λ a d. refl))
      (then (map k (both (both column x) mark)) (map l (both column (both x mark))) (OnColumn (map f x)) (Equal-regroup Token Rule class R S k l column x mark (λ a b d. refl))
      (then (map l (both column (both x mark))) (map read.on_column (both column (map t (both x mark)))) (OnColumn (map f x)) (Equal-inside Token Rule class R S l read.on_column t column (both x mark) (λ c z. e c z.0 z.1))
      (under read.on_column (both column (map t (both x mark))) (both column (map other_tree (both (map f x) mark)))
      (seq column column (map t (both x mark)) (map other_tree (both (map f x) mark)) (same column) (flip (map other_tree (both (map f x) mark)) (map t (both x mark)) (Equal-before Token Rule class R S other_tree t f x mark (λ a d. refl)))))))

  marks : {A B C : Type 0} (h : A × B → C) (f g : Grammar A) (m : Grammar B) → Same (either (map h (both f m)) (map h (both g m))) (map h (both (either f g) m))
  marks h f g m =
      then (either (map h (both f m)) (map h (both g m))) (map h (either (both f m) (both g m))) (map h (both (either f g) m))
      (Equal-factor_map Token Rule class R S h (both f m) (both g m)) (under h (either (both f m) (both g m)) (both (either f g) m) (Equal-factor_last Token Rule class R S f g m))

  gathered : (f g : Grammar BaseForm) → Same (either (OnColumn f) (OnColumn g)) (OnColumn (either f g))
  gathered f g =
      let a = map other_tree (both f mark) in
      let b = map other_tree (both g mark) in
      let c = map other_tree (both (either f g) mark) in
      then (either (OnColumn f) (OnColumn g)) (map read.on_column (both column (either a b))) (OnColumn (either f g)) (factor read.on_column column a b)
      (under read.on_column (both column (either a b)) (both column c) (seq column column (either a b) c (same column) (marks other_tree f g mark)))

  -- one more side on a column, where the other sides are on a column or not
  one_more : (s r : Grammar Unmarked) (f g : Grammar BaseForm) (l : Grammar BaseTree) → Same (Marked s) (OnColumn f) → Same (Marked r) (either (OnColumn g) l) → Same (Marked (either s r)) (either (OnColumn (either f g)) l)
  one_more s r f g l p q =
      then (Marked (either s r)) (either (Marked s) (Marked r)) (either (OnColumn (either f g)) l) (flip (either (Marked s) (Marked r)) (Marked (either s r)) (marks marked s r mark))
      (then (either (Marked s) (Marked r)) (either (OnColumn f) (either (OnColumn g) l)) (either (OnColumn (either f g)) l) (sides (Marked s) (OnColumn f) (Marked r) (either (OnColumn g) l) p q)
      (then (either (OnColumn f) (either (OnColumn g) l)) (either (either (OnColumn f) (OnColumn g)) l) (either (OnColumn (either f g)) l) (flip (either (either (OnColumn f) (OnColumn g)) l) (either (OnColumn f) (either (OnColumn g) l)) (Equal-choices Token Rule class R S (OnColumn f) (OnColumn g) l))
      (sides (either (OnColumn f) (OnColumn g)) (OnColumn (either f g)) l l (gathered f g) (same l))))

  good_marked : (c : NameTree) (a : SetTree × Option (SetTree → BaseForm)) (d : Bool) → good_tree ((c, a.0), a.1) d ≡ read.on_column (c, other_tree (good_form a, d))
  good_marked c (s, None) d = refl
  good_marked c (s, Some second) d = refl

  Same-good_side : Same (Marked (map good_tree (both good (option (either (map else_good (word_only word.Else ⨟> good)) (map else_bad (word_only word.Else ⨟> bad))))))) (OnColumn good_base)
  unfolding good_base
  Same-good_side =
      let o = either (map else_good (word_only word.Else ⨟> good)) (map else_bad (word_only word.Else ⨟> bad)) in
      let x = both good_set (option otherwise) in
      let m : NameTree × (SetTree × Option (SetTree → BaseForm)) → Unmarked = λ z. good_tree ((z.0, z.1.0), z.1.1) in
      let before = map good_tree (both good (option o)) in
      let after = map m (both column x) in
      let inner : Same before after =
      then before (map good_tree (both (both column good_set) (option otherwise))) after
      (under good_tree (both good (option o)) (both (both column good_set) (option otherwise)) (seq good (both column good_set) (option o) (option otherwise) Same-good (maybe o otherwise Same-otherwise)))
      (Equal-regroup Token Rule class R S good_tree m column good_set (option otherwise) (λ a b d. refl)) in
      then (Marked before) (Marked after) (OnColumn (map good_form x)) (under marked (both before mark) (both after mark) (seq before after mark mark inner (same mark))) (on_columns m good_form x good_marked)

  Same-bad_side : Same (Marked (map bad_tree bad)) (OnColumn (map base_form.Neg bad_set))
  Same-bad_side =
      let before = map bad_tree bad in
      let after = map bad_tree (both column bad_set) in
      then (Marked before) (Marked after) (OnColumn (map base_form.Neg bad_set)) (under marked (both before mark) (both after mark) (seq before after mark mark (under bad_tree bad (both column bad_set) Same-bad) (same mark)))
      (on_columns bad_tree base_form.Neg bad_set (λ c a d. refl))

  Same-layers : Same layers layers_form
  unfolding layers layers_form sets_and_others more_layers sets others
  Same-layers =
      let m = many (comma ⨟> set) in
      let o = option (comma ⨟> others) in
      let r = rows 5 set others in
      let front : SetTree × List SetTree → List SetTree = λ z. z.0 ∷ z.1 in
      let first = map layers_tree (both (map front (both set m)) o) in
      let last = map layers_from_sets (map with_first (both set r)) in
      let behind = map layers_from_others (word_only word.Others ⨟> comma ⨟> sets) in
      let k : (SetTree × List SetTree) × Option (List SetTree) → BaseForm = λ z. layers_tree (front z.0, z.1) in
      let l : SetTree × (List SetTree × Option (List SetTree)) → BaseForm = λ z. layers_from_sets (with_first z) in
      let inner : Same first last =
      then first (map k (both (both set m) o)) last (Equal-before Token Rule class R S layers_tree k front (both set m) o (λ a d. refl))
      (then (map k (both (both set m) o)) (map l (both set (both m o))) last (Equal-regroup Token Rule class R S k l set m o (λ a b d. refl))
      (then (map l (both set (both m o))) (map l (both set r)) last (under l (both set (both m o)) (both set r) (seq set set (both m o) r (same set) (Equal-rows Token Rule class R S none 5 set others)))
      (flip last (map l (both set r)) (Equal-fuse Token Rule class R S layers_from_sets with_first l (both set r) (λ a. refl))))) in
      then (either first behind) (either behind first) (either behind last) (swap first behind) (sides behind behind first last (same behind) inner)

  Same-layered_side : Same (Marked (map layered_tree (both column (word_only word.Layered ⨟> in_parens layers)))) (OnColumn (word_only word.Layered ⨟> in_parens layers_form))
  Same-layered_side =
      let x = word_only word.Layered ⨟> in_parens layers in
      let y = word_only word.Layered ⨟> in_parens layers_form in
      let self : BaseForm → BaseForm = λ z. z in
      let inner : Same (map self x) y = then (map self x) x y (Equal-plain Token Rule class R S x) (seq_second (word_only word.Layered) (word_only word.Layered) (in_parens layers) (in_parens layers_form) (same (word_only word.Layered)) (enclosed layers layers_form Same-layers)) in
      let a = map other_tree (both (map self x) mark) in
      let b = map other_tree (both y mark) in
      then (Marked (map layered_tree (both column x))) (OnColumn (map self x)) (OnColumn y) (on_columns layered_tree self x (λ c a d. refl))
      (under read.on_column (both column a) (both column b) (seq column column a b (same column) (under other_tree (both (map self x) mark) (both y mark) (seq (map self x) y mark mark inner (same mark)))))

  Same-lowest : Same (Marked (map (extremum base_form.Lowest) (both (word_at word.Lowest) (in_parens column)))) lowest
  unfolding lowest
  Same-lowest = Equal-before Token Rule class R S marked (extremum_tree base_form.Lowest) (extremum base_form.Lowest) (both (word_at word.Lowest) (in_parens column)) mark (λ a d. refl)

  Same-highest : Same (Marked (map (extremum base_form.Highest) (both (word_at word.Highest) (in_parens column)))) highest
  unfolding highest
  Same-highest = Equal-before Token Rule class R S marked (extremum_tree base_form.Highest) (extremum base_form.Highest) (both (word_at word.Highest) (in_parens column)) mark (λ a d. refl)

  Same-other : Same (Marked other) (either (OnColumn other_form) (either lowest highest))
  unfolding other other_form between_base
  Same-other =
      let s1 = map good_tree (both good (option (either (map else_good (word_only word.Else ⨟> good)) (map else_bad (word_only word.Else ⨟> bad))))) in
      let s2 = map bad_tree bad in
      let x3 = word_only word.Around ⨟> literal in
      let s3 = map around_tree (both column x3) in
      let x4 = word_only word.Between ⨟> literal ⨟ word_only word.And ⨟> literal in
      let s4 = map between_tree (both column x4) in
      let s5 = map layered_tree (both column (word_only word.Layered ⨟> in_parens layers)) in
      let s6 = map (extremum base_form.Lowest) (both (word_at word.Lowest) (in_parens column)) in
      let s7 = map (extremum base_form.Highest) (both (word_at word.Highest) (in_parens column)) in
      let g2 = map base_form.Neg bad_set in
      let g3 = map base_form.Around x3 in
      let g4 = map between_form x4 in
      let g5 = word_only word.Layered ⨟> in_parens layers_form in
      let l = either lowest highest in
      let p67 : Same (Marked (either s6 s7)) l = then (Marked (either s6 s7)) (either (Marked s6) (Marked s7)) l (flip (either (Marked s6) (Marked s7)) (Marked (either s6 s7)) (marks marked s6 s7 mark)) (sides (Marked s6) lowest (Marked s7) highest Same-lowest Same-highest) in
      let p5 : Same (Marked (either s5 (either s6 s7))) (either (OnColumn g5) l) =
      then (Marked (either s5 (either s6 s7))) (either (Marked s5) (Marked (either s6 s7))) (either (OnColumn g5) l) (flip (either (Marked s5) (Marked (either s6 s7))) (Marked (either s5 (either s6 s7))) (marks marked s5 (either s6 s7) mark))
      (sides (Marked s5) (OnColumn g5) (Marked (either s6 s7)) l Same-layered_side p67) in
      let p4 = one_more s4 (either s5 (either s6 s7)) g4 g5 l (on_columns between_tree between_form x4 (λ c a d. refl)) p5 in
      let p3 = one_more s3 (either s4 (either s5 (either s6 s7))) g3 (either g4 g5) l (on_columns around_tree base_form.Around x3 (λ c a d. refl)) p4 in
      let p2 = one_more s2 (either s3 (either s4 (either s5 (either s6 s7)))) g2 (either g3 (either g4 g5)) l Same-bad_side p3 in
      one_more s1 (either s2 (either s3 (either s4 (either s5 (either s6 s7))))) good_base (either g2 (either g3 (either g4 g5))) l Same-good_side p2

  Same-graph : Same (graph <⨟ option (word_only word.Trivial)) (map read.on_column (both column (map graph_tree graph_form)))
  unfolding graph graph_form
  Same-graph =
      let e = word_only word.Explicit in
      let p = in_parens edges in
      let o = option (word_only word.Trivial) in
      let x = e ⨟> p in
      let first : BaseTree × Option (Unit {0}) → BaseTree = λ z. z.0 in
      let k1 : (NameTree × List EdgeTree) × Option (Unit {0}) → BaseTree = λ z. explicit_tree z.0 in
      let k2 : NameTree × (List EdgeTree × Option (Unit {0})) → BaseTree = λ z. explicit_tree (z.0, z.1.0) in
      let t : List EdgeTree × Option (Unit {0}) → NameTree → BaseTree = λ z. graph_tree z.0 in
      let k3 : (Unit {0} × List EdgeTree) × Option (Unit {0}) → NameTree → BaseTree = λ z. graph_tree z.0.1 in
      let k4 : Unit {0} × (List EdgeTree × Option (Unit {0})) → NameTree → BaseTree = λ z. graph_tree z.1.0 in
      let k5 : Unit {0} × List EdgeTree → NameTree → BaseTree = λ z. graph_tree z.1 in
      let second : Unit {0} × List EdgeTree → List EdgeTree = λ z. z.1 in
      let fst : List EdgeTree × Option (Unit {0}) → List EdgeTree = λ z. z.0 in
      let end = map graph_tree (e ⨟> (p <⨟ o)) in
      let inner : Same (map t (both x o)) end =
      then (map t (both x o)) (map k3 (both (both e p) o)) end (Equal-before Token Rule class R S t k3 second (both e p) o (λ a d. refl))
      (then (map k3 (both (both e p) o)) (map k4 (both e (both p o))) end (Equal-regroup Token Rule class R S k3 k4 e p o (λ a b d. refl))
      (then (map k4 (both e (both p o))) (map k5 (both e (p <⨟ o))) end (Equal-inside Token Rule class R S k4 k5 fst e (both p o) (λ a b. refl))
      (flip end (map k5 (both e (p <⨟ o))) (Equal-fuse Token Rule class R S graph_tree second k5 (both e (p <⨟ o)) (λ a. refl))))) in
      then (map first (both (map explicit_tree (both column x)) o)) (map k1 (both (both column x) o)) (map read.on_column (both column end)) (Equal-before Token Rule class R S first k1 explicit_tree (both column x) o (λ a d. refl))
      (then (map k1 (both (both column x) o)) (map k2 (both column (both x o))) (map read.on_column (both column end)) (Equal-regroup Token Rule class R S k1 k2 column x o (λ a b d. refl))
      (then (map k2 (both column (both x o))) (map read.on_column (both column (map t (both x o)))) (map read.on_column (both column end)) (Equal-inside Token Rule class R S k2 read.on_column t column (both x o) (λ a b. refl))
      (under read.on_column (both column (map t (both x o))) (both column end) (seq column column (map t (both x o)) end (same column) inner))))

  Same-base : Same base any_base
  unfolding base any_base column_base
  Same-base =
      let g = map read.on_column (both column (map graph_tree graph_form)) in
      let n = OnColumn other_form in
      let l = either lowest highest in
      let written = graph <⨟ option (word_only word.Trivial) in
      then (either written (Marked other)) (either g (either n l)) any_base (sides written g (Marked other) (either n l) Same-graph Same-other)
      (then (either g (either n l)) (either (either g n) l) any_base (flip (either (either g n) l) (either g (either n l)) (Equal-choices Token Rule class R S g n l))
      (then (either (either g n) l) (either column_base l) any_base (sides (either g n) column_base l l (factor read.on_column column (map graph_tree graph_form) (map other_tree (both other_form mark))) (same l))
      (then (either column_base l) (either l column_base) any_base (swap column_base l) (Equal-choices Token Rule class R S lowest highest column_base))))

  Same-prim : Same prim primary
  unfolding prim primary
  Same-prim =
      let p = in_parens (rule preference_rule) in
      let d = map pref_tree.Dual (word_only word.Dual ⨟> p) in
      let b = map pref_tree.Base base in
      let r = map pref_tree.Base any_base in
      sides p p (either d b) (either d r) (same p) (sides d d b r (same d) (under pref_tree.Base base any_base Same-base))

  Same-par : Same par pareto
  unfolding par pareto primaries
  Same-par = under (chain pref_tree.Pareto) (separated (word_only word.And) prim) (separated (word_only word.And) primary) (listed (word_only word.And) prim primary Same-prim)

  pub Same-pref : Same pref preference
  unfolding pref preference cascade
  Same-pref = under (chain pref_tree.Prior) (separated (word_only word.Cascade) par) (separated (word_only word.Cascade) pareto) (listed (word_only word.Cascade) par pareto Same-par)

  -- ---- statements

  abbrev Where : Grammar CondTree → Grammar (Option CondTree)
  Where f = option (word_only word.Where ⨟> f)

  abbrev Only : Grammar CondTree → Grammar (Option CondTree)
  Only f = option (word_only word.But ⨟> word_only word.Only ⨟> f)

  Same-prefer : Same prefer prefer_form
  unfolding prefer prefer_form only
  Same-prefer =
      let w = word_only word.Preferring in
      let b = word_only word.But in
      let o = word_only word.Only in
      let last : Same (Only (cond true)) (Only (condition true)) = maybe (b ⨟> o ⨟> cond true) (b ⨟> o ⨟> condition true) (seq_second b b (o ⨟> cond true) (o ⨟> condition true) (same b) (seq_second o o (cond true) (condition true) (same o) (Same-cond true))) in
      seq_second w w (both pref (both groups (Only (cond true)))) (both preference (both groups (Only (condition true)))) (same w)
      (seq pref preference (both groups (Only (cond true))) (both groups (Only (condition true))) Same-pref (seq groups groups (Only (cond true)) (Only (condition true)) (same groups) last))

  pub Same-statement : Same statement statement_form
  unfolding statement statement_form filter
  Same-statement =
      let w = word_only word.Select in
      let f = word_only word.From ⨟> from_items in
      let h = word_only word.Where in
      let a4 = both (option prefer) ordering in
      let b4 = both (option prefer_form) ordering in
      let a3 = both (Where (cond false)) a4 in
      let b3 = both (Where (condition false)) b4 in
      let p4 : Same a4 b4 = seq (option prefer) (option prefer_form) ordering ordering (maybe prefer prefer_form Same-prefer) (same ordering) in
      let p3 : Same a3 b3 = seq (Where (cond false)) (Where (condition false)) a4 b4 (maybe (h ⨟> cond false) (h ⨟> condition false) (seq_second h h (cond false) (condition false) (same h) (Same-cond false))) p4 in
      let p2 : Same (both f a3) (both f b3) = seq f f a3 b3 (same f) p3 in
      let p1 : Same (both list (both f a3)) (both list (both f b3)) = seq list list (both f a3) (both f b3) (same list) p2 in
      let p0 : Same (both distinctness (both list (both f a3))) (both distinctness (both list (both f b3))) = seq distinctness distinctness (both list (both f a3)) (both list (both f b3)) (same distinctness) p1 in
      under query_tree (w ⨟> both distinctness (both list (both f a3))) (w ⨟> both distinctness (both list (both f b3)))
      (seq_second w w (both distinctness (both list (both f a3))) (both distinctness (both list (both f b3))) (same w) p0)
