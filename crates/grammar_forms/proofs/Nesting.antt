-- Productions that stand in parentheses nest no deeper than the parentheses do.
use Rattle.std.proofs.Common.{◌≡◌, ℕ, zero, suc, ◌+◌, ◌-◌, ◌≤◌, inl, inr, ◌&&◌, ◌||◌, not, Bool, true, false, cond, List, [], ◌∷◌, ◌++◌, eqb, refl, sym, ap, subst, ◌∙◌, arith, Option, Some, None}
use Rattle.std.specs.Prelude.{nat_le}
use Rattle.std.proofs.lemmas.Bool.{eqb-true, and_parts, false≢true}
use Rattle.grammar_forms.specs.Form.{Form, nothing, token, both, either, option, many, rows, map, rule, Wholes, Fronts, Several, Possibly, Behind, FrontBehind, WholeBy, FrontBy, WholeRule, FrontRule, IsWhole, IsFront}
use Rattle.grammar_forms.proofs.Fronts.{rule_none_at}

module _ (Token : Type 0) (Rule : Type 0 → Type 1) (class : Token → ℕ) (rises falls : ℕ → Bool) where
  -- the depth after a token of this class
  abbrev pub turn : ℕ → ℕ → ℕ
  turn c d = cond (rises c) (d + 1) (cond (falls c) (d - 1) d)

  -- the depth after tokens
  abbrev pub level : ℕ → List Token → ℕ
  level d [] = d
  level d (t ∷ ts) = level (turn (class t) d) ts

  -- the depth stays within a limit
  abbrev pub Stays : ℕ → ℕ → List Token → Type 0
  Stays limit d [] = Unit {0}
  Stays limit d (t ∷ ts) = (turn (class t) d ≤ limit) × Stays limit (turn (class t) d) ts

  -- how many parentheses are open after a form that begins in r of them
  abbrev pub after : {A : Type 0} → Form Token Rule A → ℕ → ℕ
  after (nothing a) r = r
  after (token c value) r = turn c r
  after (both f g) r = after g (after f r)
  after (either f g) r = after f r
  after (option f) r = r
  after (many f) r = r
  after (rows c f g) r = r
  after (map h f) r = after f r
  after (rule p) r = r

  abbrev keeps : ℕ → ℕ → Bool
  keeps c r = rises c || (not (falls c) || nat_le 1 r)

  -- Each parenthesis that is opened is closed, and productions stand in one.
  abbrev pub is_nested : {A : Type 0} → Form Token Rule A → ℕ → Bool
  is_nested (nothing a) r = true
  is_nested (token c value) r = keeps c r
  is_nested (both f g) r = is_nested f r && is_nested g (after f r)
  is_nested (either f g) r = (is_nested f r && is_nested g r) && eqb (after g r) (after f r)
  is_nested (option f) r = is_nested f r && eqb (after f r) r
  is_nested (many f) r = is_nested f r && eqb (after f r) r
  is_nested (rows c f g) r = ((is_nested f r && eqb (after f r) r) && (is_nested g r && eqb (after g r) r)) && (not (rises c) && not (falls c))
  is_nested (map h f) r = is_nested f r
  is_nested (rule p) r = nat_le 1 r

  at_least_one : (r : ℕ) → nat_le 1 r ≡ true → 1 ≤ r
  at_least_one zero e = absurd (false≢true e)
  at_least_one (suc r) e = omega arith

  level-append : (d : ℕ) (xs ys : List Token) → level d (xs ++ ys) ≡ level (level d xs) ys
  level-append d [] ys = refl
  level-append d (t ∷ xs) ys = level-append (turn (class t) d) xs ys

  pub stays_first : (limit d : ℕ) (xs ys : List Token) → Stays limit d (xs ++ ys) → Stays limit d xs
  stays_first limit d [] ys s = tt
  stays_first limit d (t ∷ xs) ys s = (s.0, stays_first limit (turn (class t) d) xs ys s.1)

  pub stays_rest : (limit d : ℕ) (xs ys : List Token) → Stays limit d (xs ++ ys) → Stays limit (level d xs) ys
  stays_rest limit d [] ys s = s
  stays_rest limit d (t ∷ xs) ys s = stays_rest limit (turn (class t) d) xs ys s.1

  stays_level : (limit d : ℕ) (xs : List Token) → d ≤ limit → Stays limit d xs → level d xs ≤ limit
  stays_level limit d [] le s = le
  stays_level limit d (t ∷ xs) le s = stays_level limit (turn (class t) d) xs s.0 s.1

  -- a token turns the depth as it turns the number of open parentheses
  turn_by : (a b : Bool) (d r k : ℕ) → (a || (not b || nat_le 1 r)) ≡ true → k ≡ d + r → cond a (k + 1) (cond b (k - 1) k) ≡ d + cond a (r + 1) (cond b (r - 1) r)
  turn_by true b d r k e n = omega (arith, n)
  turn_by false false d r k e n = n
  turn_by false true d zero k e n = absurd (false≢true e)
  turn_by false true d (suc r) k e n = omega (arith, n)

  flat_by : (a b : Bool) (k : ℕ) → (not a && not b) ≡ true → cond a (k + 1) (cond b (k - 1) k) ≡ k
  flat_by true b k e = absurd (false≢true e)
  flat_by false true k e = absurd (false≢true e)
  flat_by false false k e = refl

  -- ---- after a whole one

  module _ (R : (A : Type 0) → Rule A → Wholes Token A) (balanced : (A : Type 0) (p : Rule A) (d : ℕ) (ts : List Token) (v : A) → R A p ts v → level d ts ≡ d) where
    abbrev W : {A : Type 0} → Form Token Rule A → Wholes Token A
    W f ts v = WholeBy Token Rule class R f ts v

    several_level : {A : Type 0} (P : Wholes Token A) (d : ℕ) → ((ts : List Token) (v : A) → P ts v → level d ts ≡ d) → (ts : List Token) (vs : List A) → Several P ts vs → level d ts ≡ d
    several_level P d flat ts [] w = ap (λ z. level d z) w
    several_level P d flat ts (v ∷ vs) w = ap (λ z. level d z) w.2 ∙ level-append d w.0 w.1 ∙ ap (λ z. level z w.1) (flat w.0 v w.3) ∙ several_level P d flat w.1 vs w.4

    behind_level : {A : Type 0} (P : Wholes Token A) (c d : ℕ) → turn c d ≡ d → ((ts : List Token) (v : A) → P ts v → level d ts ≡ d) → (ts : List Token) (v : A) → Behind class c P ts v → level d ts ≡ d
    behind_level P c d same flat ts v w = ap (λ z. level d z) w.2 ∙ ap (λ z. level (turn z d) w.1) w.3 ∙ ap (λ z. level z w.1) same ∙ flat w.1 v w.4

    possibly_level : {A : Type 0} (P : Wholes Token A) (d : ℕ) → ((ts : List Token) (v : A) → P ts v → level d ts ≡ d) → (ts : List Token) (v : Option A) → Possibly P ts v → level d ts ≡ d
    possibly_level P d flat ts None w = ap (λ z. level d z) w
    possibly_level P d flat ts (Some v) w = flat ts v w

    pub flat_rows : (x y b : Bool) → ((x && y) && b) ≡ true → (x ≡ true) × (y ≡ true) × (b ≡ true)
    flat_rows true true true e = (refl, refl, refl)
    flat_rows true true false e = absurd (false≢true e)
    flat_rows true false b e = absurd (false≢true e)
    flat_rows false y b e = absurd (false≢true e)

    -- where as many are open after it as before it
    pub level_same : {A : Type 0} (f : Form Token Rule A) (d r k : ℕ) → (is_nested f r && eqb (after f r) r) ≡ true → k ≡ d + r → (is_nested f r ≡ true → (ts : List Token) (v : A) → W f ts v → level k ts ≡ d + after f r) → (ts : List Token) (v : A) → W f ts v → level k ts ≡ k
    level_same f d r k e n is ts v w =
        let p = and_parts (is_nested f r) (eqb (after f r) r) e in
        is p.0 ts v w ∙ ap (λ z. d + z) (eqb-true (after f r) r p.1) ∙ sym n

    pub level_is : {A : Type 0} (f : Form Token Rule A) (d r k : ℕ) → is_nested f r ≡ true → k ≡ d + r → (ts : List Token) (v : A) → W f ts v → level k ts ≡ d + after f r
    level_is (nothing a) d r k e n ts v w = ap (λ z. level k z) w.0 ∙ n
    level_is (token c value) d r k e n ts v w = ap (λ z. level k z) w.1 ∙ ap (λ z. turn z k) w.2 ∙ turn_by (rises c) (falls c) d r k e n
    level_is (both f g) d r k e n ts v w =
        let p = and_parts (is_nested f r) (is_nested g (after f r)) e in
        ap (λ z. level k z) w.2 ∙ level-append k w.0 w.1 ∙ level_is g d (after f r) (level k w.0) p.1 (level_is f d r k p.0 n w.0 v.0 w.3) w.1 v.1 w.4
    level_is (either f g) d r k e n ts v w =
        let p = flat_rows (is_nested f r) (is_nested g r) (eqb (after g r) (after f r)) e in
        elim w [ inl i ↦ level_is f d r k p.0 n ts v i | inr i ↦ level_is g d r k p.1 n ts v i ∙ ap (λ z. d + z) (eqb-true (after g r) (after f r) p.2) ]
    level_is (option f) d r k e n ts v w = possibly_level (W f) k (level_same f d r k e n (λ q. level_is f d r k q n)) ts v w ∙ n
    level_is (many f) d r k e n ts v w = several_level (W f) k (level_same f d r k e n (λ q. level_is f d r k q n)) ts v w ∙ n
    level_is (rows c f g) d r k e n ts v w =
        let p = flat_rows (is_nested f r && eqb (after f r) r) (is_nested g r && eqb (after g r) r) (not (rises c) && not (falls c)) e in
        let same : turn c k ≡ k = flat_by (rises c) (falls c) k p.2 in
        ap (λ z. level k z) w.2 ∙ level-append k w.0 w.1 ∙ ap (λ z. level z w.1) (several_level (Behind class c (W f)) k (behind_level (W f) c k same (level_same f d r k p.0 n (λ q. level_is f d r k q n))) w.0 v.0 w.3)
        ∙ possibly_level (Behind class c (W g)) k (behind_level (W g) c k same (level_same g d r k p.1 n (λ q. level_is g d r k q n))) w.1 v.1 w.4 ∙ n
    level_is (map h f) d r k e n ts v w = level_is f d r k e n ts w.0 w.1
    level_is (rule {A = A} p) d r k e n ts v w = balanced A p k ts v w ∙ n

    -- ---- from deep nesting to what the limit allows

    module _ (S : (A : Type 0) → Rule A → Fronts Token) (R' : (A : Type 0) → Rule A → Wholes Token A) (S' : (A : Type 0) → Rule A → Fronts Token) (limit d : ℕ)
        (rules : (e : ℕ) → d ≤ e → suc e ≤ limit → (A : Type 0) (p : Rule A) (ts : List Token) → Stays limit (suc e) ts → ((v : A) → R A p ts v → R' A p ts v) × (S A p ts → S' A p ts)) where
      abbrev W' : {A : Type 0} → Form Token Rule A → Wholes Token A
      W' f ts v = WholeBy Token Rule class R' f ts v

      abbrev F : {A : Type 0} → Form Token Rule A → Fronts Token
      F f ts = FrontBy Token Rule class R S f ts

      abbrev F' : {A : Type 0} → Form Token Rule A → Fronts Token
      F' f ts = FrontBy Token Rule class R' S' f ts

      several_within : {A : Type 0} (P Q : Wholes Token A) (k : ℕ) → ((ts : List Token) (v : A) → P ts v → level k ts ≡ k) → ((ts : List Token) (v : A) → Stays limit k ts → P ts v → Q ts v) → (ts : List Token) (vs : List A) → Stays limit k ts → Several P ts vs → Several Q ts vs
      several_within P Q k flat to ts [] s w = w
      several_within P Q k flat to ts (v ∷ vs) s w =
          let t = subst (λ z. Stays limit k z) w.2 s in
          (w.0, w.1, w.2, to w.0 v (stays_first limit k w.0 w.1 t) w.3, several_within P Q k flat to w.1 vs (subst (λ z. Stays limit z w.1) (flat w.0 v w.3) (stays_rest limit k w.0 w.1 t)) w.4)

      behind_within : {A : Type 0} (P Q : Wholes Token A) (c k : ℕ) → turn c k ≡ k → ((ts : List Token) (v : A) → Stays limit k ts → P ts v → Q ts v) → (ts : List Token) (v : A) → Stays limit k ts → Behind class c P ts v → Behind class c Q ts v
      behind_within P Q c k same to ts v s w =
          let t = subst (λ z. Stays limit k z) w.2 s in
          (w.0, w.1, w.2, w.3, to w.1 v (subst (λ z. Stays limit z w.1) (ap (λ z. turn z k) w.3 ∙ same) t.1) w.4)

      front_behind_within : (P Q : Fronts Token) (c k : ℕ) → turn c k ≡ k → ((ts : List Token) → Stays limit k ts → P ts → Q ts) → (ts : List Token) → Stays limit k ts → FrontBehind class c P ts → FrontBehind class c Q ts
      front_behind_within P Q c k same to ts s (inl i) = inl i
      front_behind_within P Q c k same to ts s (inr w) =
          let t = subst (λ z. Stays limit k z) w.2 s in
          inr (w.0, w.1, w.2, w.3, to w.1 (subst (λ z. Stays limit z w.1) (ap (λ z. turn z k) w.3 ∙ same) t.1) w.4)

      possibly_within : {A : Type 0} (P Q : Wholes Token A) (ts : List Token) → ((v : A) → P ts v → Q ts v) → (v : Option A) → Possibly P ts v → Possibly Q ts v
      possibly_within P Q ts to None w = w
      possibly_within P Q ts to (Some v) w = to v w

      pub whole_limited : {A : Type 0} (f : Form Token Rule A) (r k : ℕ) → is_nested f r ≡ true → k ≡ d + r → k ≤ limit → (ts : List Token) (v : A) → Stays limit k ts → W f ts v → W' f ts v
      whole_limited (nothing a) r k e n le ts v s w = w
      whole_limited (token c value) r k e n le ts v s w = w
      whole_limited (both f g) r k e n le ts v s w =
          let p = and_parts (is_nested f r) (is_nested g (after f r)) e in
          let t = subst (λ z. Stays limit k z) w.2 s in
          let first = stays_first limit k w.0 w.1 t in
          (w.0, w.1, w.2, whole_limited f r k p.0 n le w.0 v.0 first w.3, whole_limited g (after f r) (level k w.0) p.1 (level_is f d r k p.0 n w.0 v.0 w.3) (stays_level limit k w.0 le first) w.1 v.1 (stays_rest limit k w.0 w.1 t) w.4)
      whole_limited (either f g) r k e n le ts v s w =
          let p = flat_rows (is_nested f r) (is_nested g r) (eqb (after g r) (after f r)) e in
          elim w [ inl i ↦ inl (whole_limited f r k p.0 n le ts v s i) | inr i ↦ inr (whole_limited g r k p.1 n le ts v s i) ]
      whole_limited (option f) r k e n le ts v s w = possibly_within (W f) (W' f) ts (λ u i. whole_limited f r k (and_parts (is_nested f r) (eqb (after f r) r) e).0 n le ts u s i) v w
      whole_limited (many f) r k e n le ts v s w =
          several_within (W f) (W' f) k (level_same f d r k e n (λ q. level_is f d r k q n)) (λ us u t i. whole_limited f r k (and_parts (is_nested f r) (eqb (after f r) r) e).0 n le us u t i) ts v s w
      whole_limited (rows c f g) r k e n le ts v s w =
          let p = flat_rows (is_nested f r && eqb (after f r) r) (is_nested g r && eqb (after g r) r) (not (rises c) && not (falls c)) e in
          let same : turn c k ≡ k = flat_by (rises c) (falls c) k p.2 in
          let t = subst (λ z. Stays limit k z) w.2 s in
          let flat = behind_level (W f) c k same (level_same f d r k p.0 n (λ q. level_is f d r k q n)) in
          let rest = subst (λ z. Stays limit z w.1) (several_level (Behind class c (W f)) k flat w.0 v.0 w.3) (stays_rest limit k w.0 w.1 t) in (
            w.0,
            w.1,
            w.2,
            several_within (Behind class c (W f)) (Behind class c (W' f)) k flat (behind_within (W f) (W' f) c k same (λ us u t i. whole_limited f r k (and_parts (is_nested f r) (eqb (after f r) r) p.0).0 n le us u t i)) w.0 v.0 (stays_first limit k w.0 w.1 t) w.3,
            possibly_within (Behind class c (W g)) (Behind class c (W' g)) w.1 (λ u i. behind_within (W g) (W' g) c k same (λ us u t i. whole_limited g r k (and_parts (is_nested g r) (eqb (after g r) r) p.1).0 n le us u t i) w.1 u rest i) v.1 w.4,
          )
      whole_limited (map h f) r k e n le ts v s w = (w.0, whole_limited f r k e n le ts w.0 s w.1, w.2)
      whole_limited (rule {A = A} p) r k e n le ts v s w =
          let some : 1 ≤ r = at_least_one r e in
          let one : k ≡ suc (k - 1) = omega (arith, n, some) in
          (rules (k - 1) (omega (arith, n, some)) (omega (arith, one, le)) A p ts (subst (λ z. Stays limit z ts) one s)).0 v w

      pub front_limited : {A : Type 0} (f : Form Token Rule A) (r k : ℕ) → is_nested f r ≡ true → k ≡ d + r → k ≤ limit → (ts : List Token) → Stays limit k ts → F f ts → F' f ts
      front_limited (nothing a) r k e n le ts s w = w
      front_limited (token c value) r k e n le ts s w = w
      front_limited (both f g) r k e n le ts s w =
          let p = and_parts (is_nested f r) (is_nested g (after f r)) e in
          elim w [
            | inl i ↦ inl (front_limited f r k p.0 n le ts s i)
            | inr i ↦ (
                let t = subst (λ z. Stays limit k z) i.3 s in
                let first = stays_first limit k i.0 i.1 t in
                inr (i.0, i.1, i.2, i.3, whole_limited f r k p.0 n le i.0 i.2 first i.4, front_limited g (after f r) (level k i.0) p.1 (level_is f d r k p.0 n i.0 i.2 i.4) (stays_level limit k i.0 le first) i.1 (stays_rest limit k i.0 i.1 t) i.5))
          ]
      front_limited (either f g) r k e n le ts s w =
          let p = flat_rows (is_nested f r) (is_nested g r) (eqb (after g r) (after f r)) e in
          elim w [ inl i ↦ inl (front_limited f r k p.0 n le ts s i) | inr i ↦ inr (front_limited g r k p.1 n le ts s i) ]
      front_limited (option f) r k e n le ts s w = elim w [ inl i ↦ inl i | inr i ↦ inr (front_limited f r k (and_parts (is_nested f r) (eqb (after f r) r) e).0 n le ts s i) ]
      front_limited (many f) r k e n le ts s w =
          let t = subst (λ z. Stays limit k z) w.3 s in
          let flat = level_same f d r k e n (λ q. level_is f d r k q n) in
          let q = (and_parts (is_nested f r) (eqb (after f r) r) e).0 in
          let rest = subst (λ z. Stays limit z w.1) (several_level (W f) k flat w.0 w.2 w.4) (stays_rest limit k w.0 w.1 t) in
          (w.0, w.1, w.2, w.3, several_within (W f) (W' f) k flat (λ us u t i. whole_limited f r k q n le us u t i) w.0 w.2 (stays_first limit k w.0 w.1 t) w.4, front_limited f r k q n le w.1 rest w.5)
      front_limited (rows c f g) r k e n le ts s w =
          let p = flat_rows (is_nested f r && eqb (after f r) r) (is_nested g r && eqb (after g r) r) (not (rises c) && not (falls c)) e in
          let same : turn c k ≡ k = flat_by (rises c) (falls c) k p.2 in
          let t = subst (λ z. Stays limit k z) w.3 s in
          let flat = behind_level (W f) c k same (level_same f d r k p.0 n (λ q. level_is f d r k q n)) in
          let a = (and_parts (is_nested f r) (eqb (after f r) r) p.0).0 in
          let b = (and_parts (is_nested g r) (eqb (after g r) r) p.1).0 in
          let rest = subst (λ z. Stays limit z w.1) (several_level (Behind class c (W f)) k flat w.0 w.2 w.4) (stays_rest limit k w.0 w.1 t) in (
            w.0,
            w.1,
            w.2,
            w.3,
            several_within (Behind class c (W f)) (Behind class c (W' f)) k flat (behind_within (W f) (W' f) c k same (λ us u t i. whole_limited f r k a n le us u t i)) w.0 w.2 (stays_first limit k w.0 w.1 t) w.4,
            elim w.5 [ inl i ↦ inl (front_behind_within (F f) (F' f) c k same (λ us t i. front_limited f r k a n le us t i) w.1 rest i) | inr i ↦ inr (front_behind_within (F g) (F' g) c k same (λ us t i. front_limited g r k b n le us t i) w.1 rest i) ],
          )
      front_limited (map h f) r k e n le ts s w = front_limited f r k e n le ts s w
      front_limited (rule {A = A} p) r k e n le ts s w =
          let some : 1 ≤ r = at_least_one r e in
          let one : k ≡ suc (k - 1) = omega (arith, n, some) in
          (rules (k - 1) (omega (arith, n, some)) (omega (arith, one, le)) A p ts (subst (λ z. Stays limit z ts) one s)).1 w

  -- ---- a grammar

  module _ (right_side : (A : Type 0) → Rule A → Form Token Rule A) (nested : (A : Type 0) (p : Rule A) → (is_nested (right_side A p) 0 ≡ true) × (after (right_side A p) 0 ≡ 0)) where
    abbrev whole : ℕ → (A : Type 0) → Rule A → Wholes Token A
    whole m A p ts v = WholeRule Token Rule class right_side m A p ts v

    abbrev front : ℕ → (A : Type 0) → Rule A → Fronts Token
    front m A p ts = FrontRule Token Rule class right_side m A p ts

    pub rule_balanced : (m : ℕ) (A : Type 0) (p : Rule A) (d : ℕ) (ts : List Token) (v : A) → whole m A p ts v → level d ts ≡ d
    unfolding WholeRule
    rule_balanced zero A p d ts v w = absurd w
    rule_balanced (suc m) A p d ts v w =
        let q = nested A p in
        let none : d ≡ d + 0 = omega arith in
        level_is (whole m) (rule_balanced m) (right_side A p) d 0 d q.0 none ts v w ∙ ap (λ z. d + z) q.1 ∙ sym none

    rules_limited : (m limit d e : ℕ) → d ≤ e → suc e ≤ limit → (A : Type 0) (p : Rule A) (ts : List Token) → Stays limit (suc e) ts →
        ((v : A) → whole m A p ts v → whole (limit - d) A p ts v) × (front m A p ts → front (limit - d) A p ts)
    unfolding WholeRule FrontRule
    rules_limited zero limit d e above le A p ts s = ((λ v w. absurd w), (λ w. subst (λ z. front (limit - d) A p z) (sym w) (rule_none_at Token Rule class right_side (limit - d) A p)))
    rules_limited (suc m) limit d e above le A p ts s =
        let q = nested A p in
        let none : suc e ≡ suc e + 0 = omega arith in
        let below : suc (limit - suc d) ≡ limit - d = omega (arith, above, le) in
        let wholes : (v : A) → whole (suc m) A p ts v → whole (suc (limit - suc d)) A p ts v = λ v w.
        whole_limited (whole m) (rule_balanced m) (front m) (whole (limit - suc d)) (front (limit - suc d)) limit (suc e) (λ f more. rules_limited m limit (suc d) f (omega (arith, above, more))) (right_side A p) 0 (suc e) q.0 none le ts v s w in
        let fronts : front (suc m) A p ts → front (suc (limit - suc d)) A p ts = λ w.
        front_limited (whole m) (rule_balanced m) (front m) (whole (limit - suc d)) (front (limit - suc d)) limit (suc e) (λ f more. rules_limited m limit (suc d) f (omega (arith, above, more))) (right_side A p) 0 (suc e) q.0 none le ts s w in
        ((λ v w. subst (λ z. whole z A p ts v) below (wholes v w)), (λ w. subst (λ z. front z A p ts) below (fronts w)))

    -- Where the depth stays within the limit, productions nest no deeper than the limit.
    pub IsWhole-limited : (m limit : ℕ) {A : Type 0} (f : Form Token Rule A) → is_nested f 0 ≡ true → (ts : List Token) (v : A) → Stays limit 0 ts → IsWhole Token Rule class right_side m f ts v → IsWhole Token Rule class right_side limit f ts v
    IsWhole-limited m limit f e ts v s w =
        let all : limit - 0 ≡ limit = omega arith in
        subst (λ z. IsWhole Token Rule class right_side z f ts v) all (whole_limited (whole m) (rule_balanced m) (front m) (whole (limit - 0)) (front (limit - 0)) limit 0 (rules_limited m limit 0) f 0 0 e refl (omega arith) ts v s w)

    pub IsFront-limited : (m limit : ℕ) {A : Type 0} (f : Form Token Rule A) → is_nested f 0 ≡ true → (ts : List Token) → Stays limit 0 ts → IsFront Token Rule class right_side m f ts → IsFront Token Rule class right_side limit f ts
    IsFront-limited m limit f e ts s w =
        let all : limit - 0 ≡ limit = omega arith in
        subst (λ z. IsFront Token Rule class right_side z f ts) all (front_limited (whole m) (rule_balanced m) (front m) (whole (limit - 0)) (front (limit - 0)) limit 0 (rules_limited m limit 0) f 0 0 e refl (omega arith) ts s w)

    pub IsWhole-level : (m d : ℕ) {A : Type 0} (f : Form Token Rule A) → is_nested f 0 ≡ true → after f 0 ≡ 0 → (ts : List Token) (v : A) → IsWhole Token Rule class right_side m f ts v → level d ts ≡ d
    IsWhole-level m d f e a ts v w = let none : d ≡ d + 0 = omega arith in level_is (whole m) (rule_balanced m) f d 0 d e none ts v w ∙ ap (λ z. d + z) a ∙ sym none
