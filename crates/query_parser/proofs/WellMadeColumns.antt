-- Columns, literals, scalars, sets and items that are read from tokens within the limits are well made.
use Rattle.std.proofs.Common.{◌≡◌, ◌≤◌, ◌<◌, ◌+◌, ◌^◌, inl, inr, ℕ, zero, suc, ℤ, pos, negsuc, Bool, true, false, List, [], ◌∷◌, length, map, All, refl, sym, ap, subst, ◌∙◌, arith, Option, Some, None}
use Rattle.std.specs.Prelude.{IfSome, nat_abs, neg_ℤ}
use Rattle.std.proofs.lemmas.Int.{ints}
use Rattle.std.proofs.lemmas.List.Elements.{All-nil, All-cons}
use Rattle.std.proofs.lemmas.List.Concat.{flat_map_single}
use Rattle.grammar_forms.specs.Form.{option}
use Rattle.prefsql_lexer.specs.declared.token.Symbol.TheVariants as symbol
use Rattle.query_tree.specs.declared.name.NameTree.{NameTree}
use Rattle.query_tree.specs.declared.name.LiteralTree.{LiteralTree}
use Rattle.query_tree.specs.declared.condition.ScalarTree.{ScalarTree}
use Rattle.query_tree.specs.declared.condition.ScalarTree.TheVariants as scalar_tree
use Rattle.query_tree.specs.declared.preference.SetTree.{SetTree}
use Rattle.query_tree.specs.declared.preference.EdgeTree.{EdgeTree}
use Rattle.query_tree.proofs.Rising.{Rises}
use Rattle.query_tree.specs.Places.{scalar_places, set_places, edge_places}
use Rattle.query_tree.specs.WellMade.{IsColumn, IsLiteral, IsScalar, IsSet, IsEdge, IsFilled}
use Rattle.prefsql_values.specs.Limits.{IsName, IsUnsignedShort}
use Rattle.query_grammar.specs.Rules.{Rule}
use Rattle.token_forms.specs.Forms.{Named, name, text_of, symbol_only, ◌⨟>◌}
use Rattle.token_forms.specs.Columns.{column, column_tree, sign, optional_sign, number_literal, text_literal, number_form, literal, literals}
use Rattle.query_grammar.specs.Scalars.{level, distance, plain_scalar, scalar, scalars}
use Rattle.query_grammar.specs.Sets.{set, sets, set_tree, edge, edges, edge_tree, single}
use Rattle.query_parser.proofs.Parts.{Part, Parts, moved, At, name_part, number_part, stands_filled, skip, separated_parts, parts_filled, enclosed_part}

abbrev pub column_place : NameTree → List ℕ
column_place c = c.at ∷ []

abbrev pub literal_place : LiteralTree → List ℕ
literal_place l = l.at ∷ []

small_size : (n : ℤ) → IsUnsignedShort n → nat_abs n < 10 ^ 18
small_size (pos k) s = let below = s.1 in omega (arith, ints, below)
small_size (negsuc k) s = absurd (let above = s.0 in omega (arith, ints, above))

small_negative : (n : ℤ) → IsUnsignedShort n → nat_abs (neg_ℤ n) < 10 ^ 18
small_negative (pos zero) s = let below = s.1 in omega (arith, ints, below)
small_negative (pos (suc k)) s = let below = s.1 in omega (arith, ints, below)
small_negative (negsuc k) s = absurd (let above = s.0 in omega (arith, ints, above))

module _ (last : ℕ) (Good : (A : Type 0) → Rule A → ℕ → ℕ → ℕ → A → Type 0) where
  abbrev in_second : Option Named → ℕ → ℕ → ℕ → ℕ → Type 0
  in_second o d r lo hi = At last Good (option (symbol_only symbol.Dot ⨟> name)) d r lo hi o

  second_is : (d r lo hi : ℕ) (o : Option Named) → in_second o d r lo hi → (lo ≤ hi) × IfSome (text_of o) IsName
  second_is d r lo hi None w = (w, tt)
  second_is d r lo hi (Some n) w =
      let x = w.1 in
      let p = name_part last Good d r x.0 hi w.0.1 x.2 in
      let s = stands_filled last Good (d + r) lo x.0 x.1.0 x.1.2 in
      (omega (arith, s, p.from, p.upto), subst IsName (sym (ap (λ z. z.0) w.2)) p.good)

  pub column_part : (d r lo hi : ℕ) (v : NameTree) → At last Good column d r lo hi v → Part IsColumn column_place lo hi v
  unfolding column
  column_part d r lo hi v w =
      let u = w.0 in
      let m = w.1.0 in
      let n = name_part last Good d r lo m u.0 w.1.1 in
      let s = second_is d r m hi u.1 w.1.2 in
      moved IsColumn column_place lo hi v (column_tree u) w.2 (record {
        good = record { first = n.good; second = s.1 };
        rising = (n.from, omega (arith, n.upto, s.0));
        filled = omega (arith, n.from, n.upto, s.0);
      })

  sign_place : (d r lo hi : ℕ) (v : Bool × ℕ) → At last Good sign d r lo hi v → (lo ≤ v.1) × (v.1 < hi)
  sign_place d r lo hi v (inl w) =
      let s = w.1.2 in
      let at : v.1 ≡ w.1.0.start = ap (λ z. z.1) w.2 ∙ w.1.3 in
      (omega (arith, s.from, at), omega (arith, s.filled, s.upto, at))
  sign_place d r lo hi v (inr w) =
      let s = w.1.2 in
      let at : v.1 ≡ w.1.0.start = ap (λ z. z.1) w.2 ∙ w.1.3 in
      (omega (arith, s.from, at), omega (arith, s.filled, s.upto, at))

  number_by : (lo m hi : ℕ) (o : Option (Bool × ℕ)) (n : ℤ × ℕ) → lo ≤ m → ((v : Bool × ℕ) → o ≡ Some v → (lo ≤ v.1) × (v.1 < m)) → IsUnsignedShort n.0 → m ≤ n.1 → n.1 < hi → Part IsLiteral literal_place lo hi (number_literal (o, n))
  number_by lo m hi None n le at s from upto = record { good = small_size n.0 s; rising = (omega (arith, le, from), omega (arith, upto)); filled = omega (arith, le, from, upto) }
  number_by lo m hi (Some (false, p)) n le at s from upto = let a = at (false, p) refl in record { good = small_size n.0 s; rising = (a.0, omega (arith, a.1, from, upto)); filled = omega (arith, le, from, upto) }
  number_by lo m hi (Some (true, p)) n le at s from upto = let a = at (true, p) refl in record { good = small_negative n.0 s; rising = (a.0, omega (arith, a.1, from, upto)); filled = omega (arith, le, from, upto) }

  optional_place : (d r lo hi : ℕ) (o : Option (Bool × ℕ)) → At last Good (option sign) d r lo hi o → (lo ≤ hi) × ((v : Bool × ℕ) → o ≡ Some v → (lo ≤ v.1) × (v.1 < hi))
  optional_place d r lo hi None w = (w, λ v e. absurd (let h : None ≡ Some v = e in cc))
  optional_place d r lo hi (Some s) w =
      let p = sign_place d r lo hi s w in
      (omega (arith, p.0, p.1), λ v e. let same : s ≡ v = cc in (subst (λ z. lo ≤ z) (ap (λ z. z.1) same) p.0, subst (λ z. z < hi) (ap (λ z. z.1) same) p.1))

  number_form_part : (d r lo hi : ℕ) (v : LiteralTree) → At last Good number_form d r lo hi v → Part IsLiteral literal_place lo hi v
  unfolding number_form optional_sign
  number_form_part d r lo hi v w =
      let u = w.0 in
      let m = w.1.0 in
      let o = optional_place d r lo m u.0 w.1.1 in
      let n = number_part last Good d r m hi u.1 w.1.2 in
      moved IsLiteral literal_place lo hi v (number_literal u) w.2 (number_by lo m hi u.0 u.1 o.0 o.1 n.good n.from n.upto)

  pub literal_part : (d r lo hi : ℕ) (v : LiteralTree) → At last Good literal d r lo hi v → Part IsLiteral literal_place lo hi v
  unfolding literal
  literal_part d r lo hi v (inl w) =
      let s = w.1.2 in
      let at : w.0.1 ≡ w.1.0.start = ap (λ z. z.1) w.1.3 in
      moved IsLiteral literal_place lo hi v (text_literal w.0) w.2 (record { good = tt; rising = (omega (arith, s.from, at), omega (arith, s.filled, s.upto, at)); filled = omega (arith, s.from, s.filled, s.upto) })
  literal_part d r lo hi v (inr w) = number_form_part d r lo hi v w

  -- ---- scalars

  pub level_part : (P : ScalarTree → Type 0) → ((c : NameTree) (at : ℕ) → IsColumn c → P (scalar_tree.Level c at)) → (d r lo hi : ℕ) (v : ScalarTree) → At last Good level d r lo hi v → Part P scalar_places lo hi v
  unfolding level
  level_part P is d r lo hi v w =
      let u = w.0 in
      let m = w.1.0 in
      let t = w.1.1 in
      let at : u.0 ≡ t.0.start = t.3 in
      let s = t.2 in
      let c = enclosed_part last Good IsColumn column_place d r column (column_part d (r + 1)) m hi u.1 w.1.2 in
      moved P scalar_places lo hi v (scalar_tree.Level u.1 u.0) w.2 (record { good = is u.1 u.0 c.good; rising = (omega (arith, at, s.from), (omega (arith, at, s.filled, s.upto, c.rising.0), c.rising.1)); filled = omega (arith, s.from, s.filled, s.upto, c.filled) })

  pub distance_part : (P : ScalarTree → Type 0) → ((c : NameTree) (at : ℕ) → IsColumn c → P (scalar_tree.Distance c at)) → (d r lo hi : ℕ) (v : ScalarTree) → At last Good distance d r lo hi v → Part P scalar_places lo hi v
  unfolding distance
  distance_part P is d r lo hi v w =
      let u = w.0 in
      let m = w.1.0 in
      let t = w.1.1 in
      let at : u.0 ≡ t.0.start = t.3 in
      let s = t.2 in
      let c = enclosed_part last Good IsColumn column_place d r column (column_part d (r + 1)) m hi u.1 w.1.2 in
      moved P scalar_places lo hi v (scalar_tree.Distance u.1 u.0) w.2 (record { good = is u.1 u.0 c.good; rising = (omega (arith, at, s.from), (omega (arith, at, s.filled, s.upto, c.rising.0), c.rising.1)); filled = omega (arith, s.from, s.filled, s.upto, c.filled) })

  plain_part : (q : Bool) (d r lo hi : ℕ) (v : ScalarTree) → At last Good plain_scalar d r lo hi v → Part (IsScalar q) scalar_places lo hi v
  unfolding plain_scalar
  plain_part q d r lo hi v (inl w) = let c = column_part d r lo hi w.0 w.1 in moved (IsScalar q) scalar_places lo hi v (scalar_tree.Column w.0) w.2 (record { good = c.good; rising = c.rising; filled = c.filled })
  plain_part q d r lo hi v (inr w) = let c = literal_part d r lo hi w.0 w.1 in moved (IsScalar q) scalar_places lo hi v (scalar_tree.Literal w.0) w.2 (record { good = c.good; rising = c.rising; filled = c.filled })

  pub scalar_part : (q : Bool) (d r lo hi : ℕ) (v : ScalarTree) → At last Good (scalar q) d r lo hi v → Part (IsScalar q) scalar_places lo hi v
  unfolding scalar
  scalar_part false d r lo hi v w = plain_part false d r lo hi v w
  scalar_part true d r lo hi v (inl w) = level_part (IsScalar true) (λ c at g. (refl, g)) d r lo hi v w
  scalar_part true d r lo hi v (inr (inl w)) = distance_part (IsScalar true) (λ c at g. (refl, g)) d r lo hi v w
  scalar_part true d r lo hi v (inr (inr w)) = plain_part true d r lo hi v w

  -- ---- lists

  module _ (small : last < 2 ^ 32) where
    pub scalars_parts : (q : Bool) (d r lo hi : ℕ) (vs : List ScalarTree) → At last Good (scalars q) d r lo hi vs → Parts (IsScalar q) scalar_places lo hi vs
    unfolding scalars
    scalars_parts q d r lo hi vs w = separated_parts last Good small (IsScalar q) scalar_places 5 d r (scalar q) (scalar_part q d r) (scalar_part q d _) lo hi vs w

    literals_parts : (d r lo hi : ℕ) (vs : List LiteralTree) → At last Good literals d r lo hi vs → Parts IsLiteral literal_place lo hi vs
    unfolding literals
    literals_parts d r lo hi vs w = separated_parts last Good small IsLiteral literal_place 5 d r literal (literal_part d r) (literal_part d _) lo hi vs w

    -- ---- sets and pairs

    abbrev SetOf : List LiteralTree → Type 0
    SetOf vs = IsFilled (length vs) × All IsLiteral vs

    abbrev at_each : List LiteralTree → List ℕ
    at_each vs = map (λ l. l.at) vs

    literals_part : (d r lo hi : ℕ) (vs : List LiteralTree) → At last Good literals d r lo hi vs → Part SetOf at_each lo hi vs
    literals_part d r lo hi vs w =
        let p = literals_parts d r lo hi vs w in
        record {
          good = (p.some, p.all);
          rising = subst (λ z. Rises lo hi z) (flat_map_single (λ l. l.at) vs) p.rising;
          filled = parts_filled last Good small IsLiteral literal_place lo hi vs p;
        }

    pub set_part : (d r lo hi : ℕ) (v : SetTree) → At last Good set d r lo hi v → Part IsSet set_places lo hi v
    unfolding set
    set_part d r lo hi v w =
        let p = enclosed_part last Good SetOf at_each d r literals (literals_part d (r + 1)) lo hi w.0 w.1 in
        moved IsSet set_places lo hi v (set_tree w.0) w.2 (record { good = p.good; rising = p.rising; filled = p.filled })

    pub sets_parts : (d r lo hi : ℕ) (vs : List SetTree) → At last Good sets d r lo hi vs → Parts IsSet set_places lo hi vs
    unfolding sets
    sets_parts d r lo hi vs w = separated_parts last Good small IsSet set_places 5 d r set (set_part d r) (set_part d _) lo hi vs w

    pub single_part : (lo hi : ℕ) (v : LiteralTree) → Part IsLiteral literal_place lo hi v → Part IsSet set_places lo hi (single v)
    single_part lo hi v p = record { good = ((omega arith, omega arith), All-cons IsLiteral v [] p.good (All-nil IsLiteral)); rising = p.rising; filled = p.filled }

    pub edge_part : (d r lo hi : ℕ) (v : EdgeTree) → At last Good edge d r lo hi v → Part IsEdge edge_places lo hi v
    unfolding edge
    edge_part d r lo hi v w =
        let u = w.0 in
        let m = w.1.0 in
        let a = literal_part d r lo m u.0 w.1.1 in
        let s = skip last Good 12 d _ literal m hi u.1 w.1.2 in
        let b = literal_part d _ s.0 hi u.1 s.2 in
        moved IsEdge edge_places lo hi v (edge_tree u) w.2 (record {
          good = (a.good, b.good);
          rising = (a.rising.0, (let x = a.rising.1 in let y = b.rising.0 in let k = s.1 in omega (arith, x, y, k), b.rising.1));
          filled = (let k = s.1 in omega (arith, a.filled, b.filled, k));
        })

    pub edges_parts : (d r lo hi : ℕ) (vs : List EdgeTree) → At last Good edges d r lo hi vs → Parts IsEdge edge_places lo hi vs
    unfolding edges
    edges_parts d r lo hi vs w = separated_parts last Good small IsEdge edge_places 5 d r edge (edge_part d r) (edge_part d _) lo hi vs w
