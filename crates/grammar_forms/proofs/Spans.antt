-- Whole ones of a form by the spans of their tokens: from which place up to which place each part stands, and in how many
-- open parentheses.
use Rattle.std.proofs.Common.{◌≡◌, ℕ, ◌+◌, ◌<◌, ◌≤◌, ◌⊎◌, inl, inr, Bool, true, List, [], ◌∷◌, ◌++◌, eqb, subst, arith, Option, Some, None}
use Rattle.std.proofs.lemmas.Bool.{and_parts}
use Rattle.grammar_forms.specs.Form.{Form, nothing, token, both, either, option, many, rows, map, rule, Wholes, Several, Possibly, WholeBy}
use Rattle.grammar_forms.proofs.Nesting.{turn, level, after, is_nested, level_is, level_same, flat_rows}

module _ (Token : Type 0) (Rule : Type 0 → Type 1) (class : Token → ℕ) (rises falls : ℕ → Bool) (limit : ℕ) (start stop : Token → ℕ) (last : ℕ) (Fine : Token → Type 0) where
  -- a token from lo up to hi, where this many parentheses are open before it
  pub record Stands (d lo hi : ℕ) (t : Token) : Type 0 where
    pub deep : turn Token Rule class rises falls (class t) d ≤ limit
    pub from : lo ≤ start t
    pub filled : start t < stop t
    pub upto : stop t ≤ hi
    pub fine : Fine t

  -- tokens one after the other from lo up to hi
  abbrev pub Runs : ℕ → ℕ → List Token → ℕ → Type 0
  Runs d lo [] hi = lo ≤ hi
  Runs d lo (t ∷ ts) hi = Stands d lo (stop t) t × Runs (turn Token Rule class rises falls (class t) d) (stop t) ts hi

  pub Runs-le : (d lo : ℕ) (ts : List Token) (hi : ℕ) → Runs d lo ts hi → lo ≤ hi
  Runs-le d lo [] hi r = r
  Runs-le d lo (t ∷ ts) hi r = let more = Runs-le (turn Token Rule class rises falls (class t) d) (stop t) ts hi r.1 in omega (arith, r.0.from, r.0.filled, more)

  Runs-split : (d lo : ℕ) (xs ys : List Token) (hi : ℕ) → Runs d lo (xs ++ ys) hi → (m : ℕ) × Runs d lo xs m × Runs (level Token Rule class rises falls d xs) m ys hi
  Runs-split d lo [] ys hi r = (lo, omega arith, r)
  Runs-split d lo (t ∷ xs) ys hi r = let s = Runs-split (turn Token Rule class rises falls (class t) d) (stop t) xs ys hi r.1 in (s.0, (r.0, s.1), s.2)

  -- one after the other, each from where the one before it ends, and all before the last place
  abbrev pub Chain : {A : Type 0} → (ℕ → ℕ → A → Type 0) → ℕ → ℕ → List A → Type 0
  Chain P lo hi [] = (lo ≤ hi) × (hi ≤ last)
  Chain P lo hi (v ∷ vs) = (m : ℕ) × P lo m v × Chain P m hi vs

  abbrev pub Perhaps : {A : Type 0} → (ℕ → ℕ → A → Type 0) → ℕ → ℕ → Option A → Type 0
  Perhaps P lo hi None = lo ≤ hi
  Perhaps P lo hi (Some v) = P lo hi v

  -- A whole one from lo up to hi, where d parentheses are open before its beginning and r more, and Q says it of the productions.
  -- Lists of two kinds do not stand in it.
  abbrev pub SpanBy : ((A : Type 0) → Rule A → ℕ → ℕ → ℕ → A → Type 0) → ℕ → {A : Type 0} → Form Token Rule A → ℕ → ℕ → ℕ → A → Type 0
  SpanBy Q d (nothing a) r lo hi v = (lo ≤ hi) × (v ≡ a)
  SpanBy Q d (token c value) r lo hi v = (t : Token) × (class t ≡ c) × Stands (d + r) lo hi t × (v ≡ value t)
  SpanBy Q d (both f g) r lo hi v = (m : ℕ) × SpanBy Q d f r lo m v.0 × SpanBy Q d g (after Token Rule class rises falls f r) m hi v.1
  SpanBy Q d (either f g) r lo hi v = SpanBy Q d f r lo hi v ⊎ SpanBy Q d g r lo hi v
  SpanBy Q d (option f) r lo hi v = Perhaps (λ a b u. SpanBy Q d f r a b u) lo hi v
  SpanBy Q d (many f) r lo hi v = Chain (λ a b u. SpanBy Q d f r a b u) lo hi v
  SpanBy Q d (rows c f g) r lo hi v = Unit {0}
  SpanBy Q d (map {A = A} h f) r lo hi v = (u : A) × SpanBy Q d f r lo hi u × (v ≡ h u)
  SpanBy Q d (rule {A = A} p) r lo hi v = Q A p (d + r) lo hi v

  module _ (R : (A : Type 0) → Rule A → Wholes Token A) (balanced : (A : Type 0) (p : Rule A) (d : ℕ) (ts : List Token) (v : A) → R A p ts v → level Token Rule class rises falls d ts ≡ d)
      (Q : (A : Type 0) → Rule A → ℕ → ℕ → ℕ → A → Type 0) (rules : (A : Type 0) (p : Rule A) (d lo : ℕ) (ts : List Token) (hi : ℕ) (v : A) → hi ≤ last → Runs d lo ts hi → R A p ts v → Q A p d lo hi v) where
    abbrev W : {A : Type 0} → Form Token Rule A → Wholes Token A
    W f ts v = WholeBy Token Rule class R f ts v

    chain_of : {A : Type 0} (P : Wholes Token A) (G : ℕ → ℕ → A → Type 0) (k : ℕ) → ((ts : List Token) (v : A) → P ts v → level Token Rule class rises falls k ts ≡ k) → ((lo : ℕ) (ts : List Token) (hi : ℕ) (v : A) → hi ≤ last → Runs k lo ts hi → P ts v → G lo hi v) →
        (lo : ℕ) (ts : List Token) (hi : ℕ) (vs : List A) → hi ≤ last → Runs k lo ts hi → Several P ts vs → Chain G lo hi vs
    chain_of P G k flat to lo ts hi [] le run w = (Runs-le k lo ts hi run, le)
    chain_of P G k flat to lo ts hi (v ∷ vs) le run w =
        let s = Runs-split k lo w.0 w.1 hi (subst (λ z. Runs k lo z hi) w.2 run) in
        let more = Runs-le (level Token Rule class rises falls k w.0) s.0 w.1 hi s.2 in
        (s.0, to lo w.0 s.0 v (omega arith) s.1 w.3, chain_of P G k flat to s.0 w.1 hi vs le (subst (λ z. Runs z s.0 w.1 hi) (flat w.0 v w.3) s.2) w.4)

    perhaps_of : {A : Type 0} (P : Wholes Token A) (G : ℕ → ℕ → A → Type 0) (k lo : ℕ) (ts : List Token) (hi : ℕ) → Runs k lo ts hi → ((v : A) → P ts v → G lo hi v) → (v : Option A) → Possibly P ts v → Perhaps G lo hi v
    perhaps_of P G k lo ts hi run to None w = Runs-le k lo ts hi run
    perhaps_of P G k lo ts hi run to (Some v) w = to v w

    pub span_of : {A : Type 0} (f : Form Token Rule A) (d r k : ℕ) → is_nested Token Rule class rises falls f r ≡ true → k ≡ d + r → (lo : ℕ) (ts : List Token) (hi : ℕ) (v : A) → hi ≤ last → Runs k lo ts hi → W f ts v → SpanBy Q d f r lo hi v
    span_of (nothing a) d r k e n lo ts hi v le run w = (Runs-le k lo ts hi run, w.1)
    span_of (token c value) d r k e n lo ts hi v le run w =
        let one = subst (λ z. Runs k lo z hi) w.1 run in
        let s = subst (λ z. Stands z lo (stop w.0) w.0) n one.0 in
        (w.0, w.2, record { deep = s.deep; from = s.from; filled = s.filled; upto = one.1; fine = s.fine }, w.3)
    span_of (both f g) d r k e n lo ts hi v le run w =
        let p = and_parts (is_nested Token Rule class rises falls f r) (is_nested Token Rule class rises falls g (after Token Rule class rises falls f r)) e in
        let s = Runs-split k lo w.0 w.1 hi (subst (λ z. Runs k lo z hi) w.2 run) in
        let more = Runs-le (level Token Rule class rises falls k w.0) s.0 w.1 hi s.2 in (
          s.0,
          span_of f d r k p.0 n lo w.0 s.0 v.0 (omega arith) s.1 w.3,
          span_of g d (after Token Rule class rises falls f r) (level Token Rule class rises falls k w.0) p.1 (level_is Token Rule class rises falls R balanced f d r k p.0 n w.0 v.0 w.3) s.0 w.1 hi v.1 le s.2 w.4,
        )
    span_of (either f g) d r k e n lo ts hi v le run w =
        let p = flat_rows Token Rule class rises falls R balanced (is_nested Token Rule class rises falls f r) (is_nested Token Rule class rises falls g r) (eqb (after Token Rule class rises falls g r) (after Token Rule class rises falls f r)) e in
        elim w [ inl i ↦ inl (span_of f d r k p.0 n lo ts hi v le run i) | inr i ↦ inr (span_of g d r k p.1 n lo ts hi v le run i) ]
    span_of (option f) d r k e n lo ts hi v le run w =
        let p = and_parts (is_nested Token Rule class rises falls f r) (eqb (after Token Rule class rises falls f r) r) e in
        perhaps_of (W f) (λ a b u. SpanBy Q d f r a b u) k lo ts hi run (λ u i. span_of f d r k p.0 n lo ts hi u le run i) v w
    span_of (many f) d r k e n lo ts hi v le run w =
        let p = and_parts (is_nested Token Rule class rises falls f r) (eqb (after Token Rule class rises falls f r) r) e in
        chain_of (W f) (λ a b u. SpanBy Q d f r a b u) k (level_same Token Rule class rises falls R balanced f d r k e n (λ q. level_is Token Rule class rises falls R balanced f d r k q n)) (λ a us b u l x i. span_of f d r k p.0 n a us b u l x i) lo ts hi v le run w
    span_of (rows c f g) d r k e n lo ts hi v le run w = tt
    span_of (map h f) d r k e n lo ts hi v le run w = (w.0, span_of f d r k e n lo ts hi w.0 le run w.1, w.2)
    span_of (rule {A = A} p) d r k e n lo ts hi v le run w =
        rules A p (d + r) lo ts hi v le (subst (λ z. Runs z lo ts hi) n run) w
