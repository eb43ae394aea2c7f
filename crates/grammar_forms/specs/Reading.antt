-- How a form is read that needs one token of look-ahead: the sets of classes that decide it are
-- computed from the form. This is the classical predictive reading of LL(1) grammars, with the
-- place of the first fault.
use Rattle.std.specs.Prelude.{ℕ, zero, suc, Bool, true, false, ◌||◌, ◌&&◌, not, ◌==◌, if◌then◌else◌}
use Rattle.std.specs.Prelude.{List, [], ◌∷◌, ◌++◌, length, Option, Some, None, Result, Ok, Err}
use Rattle.grammar_forms.specs.Form.{Form, nothing, token, both, either, option, many, rows, map}
use Rattle.grammar_forms.specs.Form.{rule}

-- sets of classes, as lists
abbrev pub contains : ℕ → List ℕ → Bool
contains c [] = false
contains c (d ∷ ds) = (c == d) || contains c ds

abbrev pub disjoint : List ℕ → List ℕ → Bool
disjoint [] ds = true
disjoint (c ∷ cs) ds = not (contains c ds) && disjoint cs ds

abbrev pub within : List ℕ → List ℕ → Bool
within [] ds = true
within (c ∷ cs) ds = contains c ds && within cs ds

-- The value and the tokens after it, or the tokens from the first on that fits nowhere.
abbrev pub Outcome : Type 0 → Type 0 → Type 0
Outcome Token A = Result (A × List Token) (List Token)

-- goes on after what was read
abbrev pub and_then : {Token A B : Type 0} → Outcome Token A → (A → List Token → Outcome Token B)
    → Outcome Token B
and_then (Ok p) k = k p.0 p.1
and_then (Err rest) k = Err rest

abbrev pub with_value : {Token A B : Type 0} → (A → B) → Outcome Token A → Outcome Token B
with_value h (Ok p) = Ok (h p.0, p.1)
with_value h (Err rest) = Err rest

-- the next token is of one of these classes
abbrev pub begins : {Token : Type 0} → (Token → ℕ) → List ℕ → List Token → Bool
begins class cs [] = false
begins class cs (t ∷ ts) = contains (class t) cs

-- a token of this class
abbrev pub read_token : {Token A : Type 0} → (Token → ℕ) → ℕ → (Token → A) → List Token
    → Outcome Token A
read_token class c value [] = Err []
read_token class c value (t ∷ ts) = if class t == c then Ok (value t, ts) else Err (t ∷ ts)

-- One after the other while the next token begins one. The number bounds the turns.
abbrev pub read_many : {Token A : Type 0} → (List Token → Bool) → (List Token → Outcome Token A) → ℕ
    → List Token → Outcome Token (List A)
read_many goes_on read zero ts = Ok ([], ts)
read_many goes_on read (suc n) ts =
    if goes_on ts
    then and_then (read ts) (λ v rest. with_value (λ vs. v ∷ vs) (read_many goes_on read n rest))
    else Ok ([], ts)

-- {c f} [c g], where the token after c says whether f or g stands there
abbrev pub read_rows : {Token A B : Type 0} → (Token → ℕ) → ℕ → List ℕ
    → (List Token → Outcome Token A) → (List Token → Outcome Token B) → ℕ → List Token
    → Outcome Token (List A × Option B)
read_rows class c gs f g zero ts = Ok (([], None), ts)
read_rows class c gs f g (suc n) [] = Ok (([], None), [])
read_rows class c gs f g (suc n) (t ∷ ts) =
    if class t == c
    then (if begins class gs ts then with_value (λ b. ([], Some b)) (g ts)
    else and_then (f ts)
    (λ a rest. with_value (λ p. (a ∷ p.0, p.1)) (read_rows class c gs f g n rest)))
    else Ok (([], None), t ∷ ts)

module _ (Token : Type 0) (Rule : Type 0 → Type 1) (class : Token → ℕ)
    (rule_starts : (A : Type 0) → Rule A → List ℕ) (rule_continues : (A : Type 0) → Rule A
    → List ℕ) where
  -- whether no token may be a whole one
  abbrev pub is_optional : {A : Type 0} → Form Token Rule A → Bool
  is_optional (nothing a) = true
  is_optional (token c value) = false
  is_optional (both f g) = is_optional f && is_optional g
  is_optional (either f g) = is_optional f || is_optional g
  is_optional (option f) = true
  is_optional (many f) = true
  is_optional (rows c f g) = true
  is_optional (map h f) = is_optional f
  is_optional (rule p) = false

  -- the classes with which a front begins
  abbrev pub starts : {A : Type 0} → Form Token Rule A → List ℕ
  starts (nothing a) = []
  starts (token c value) = c ∷ []
  starts (both f g) = if is_optional f then starts f ++ starts g else starts f
  starts (either f g) = starts f ++ starts g
  starts (option f) = starts f
  starts (many f) = starts f
  starts (rows c f g) = c ∷ []
  starts (map h f) = starts f
  starts (rule {A = A} p) = rule_starts A p

  -- the classes with which a whole one goes on to a longer front
  abbrev pub continues : {A : Type 0} → Form Token Rule A → List ℕ
  continues (nothing a) = []
  continues (token c value) = []
  continues (both f g) = if is_optional g then continues g ++ continues f else continues g
  continues (either f g) = continues f ++ continues g
  continues (option f) = starts f ++ continues f
  continues (many f) = starts f ++ continues f
  continues (rows c f g) = c ∷ (continues f ++ continues g)
  continues (map h f) = continues f
  continues (rule {A = A} p) = rule_continues A p

  -- whether no production stands at its head
  abbrev pub is_guarded : {A : Type 0} → Form Token Rule A → Bool
  is_guarded (nothing a) = true
  is_guarded (token c value) = true
  is_guarded (both f g) = is_guarded f && (not (is_optional f) || is_guarded g)
  is_guarded (either f g) = is_guarded f && is_guarded g
  is_guarded (option f) = is_guarded f
  is_guarded (many f) = is_guarded f
  is_guarded (rows c f g) = true
  is_guarded (map h f) = is_guarded f
  is_guarded (rule p) = false

  -- one token of look-ahead decides
  abbrev pub is_predictive : {A : Type 0} → Form Token Rule A → Bool
  is_predictive (nothing a) = true
  is_predictive (token c value) = true
  is_predictive (both f g) = (is_predictive f && is_predictive g)
      && disjoint (continues f) (starts g)
  is_predictive (either f g) =
      ((is_predictive f && is_predictive g) && disjoint (starts f) (starts g))
      && (not (is_optional f) && not (is_optional g))
  is_predictive (option f) = (is_predictive f && not (is_optional f)) && is_guarded f
  is_predictive (many f) = ((is_predictive f && not (is_optional f)) && is_guarded f)
      && disjoint (continues f) (starts f)
  is_predictive (rows c f g) =
      ((is_predictive f && is_predictive g) && (not (is_optional f) && not (is_optional g)))
      && (disjoint (starts f) (starts g) && not (contains c (continues f)))
  is_predictive (map h f) = is_predictive f
  is_predictive (rule p) = true

  -- a form, where R reads the productions
  abbrev pub read_by : ((A : Type 0) → Rule A → List Token → Outcome Token A) → {A : Type 0}
      → Form Token Rule A → List Token → Outcome Token A
  read_by R (nothing a) ts = Ok (a, ts)
  read_by R (token c value) ts = read_token class c value ts
  read_by R (both f g) ts =
      and_then (read_by R f ts) (λ a rest. with_value (λ b. (a, b)) (read_by R g rest))
  read_by R (either f g) ts = if begins class (starts f) ts then read_by R f ts else read_by R g ts
  read_by R (option f) ts = if begins class (starts f) ts then with_value Some (read_by R f ts)
      else Ok (None, ts)
  read_by R (many f) ts = read_many (begins class (starts f)) (read_by R f) (length ts) ts
  read_by R (rows c f g) ts =
      read_rows class c (starts g) (read_by R f) (read_by R g) (length ts) ts
  read_by R (map h f) ts = with_value h (read_by R f ts)
  read_by R (rule {A = A} p) ts = R A p ts

  module _ (right_side : (A : Type 0) → Rule A → Form Token Rule A) where
    -- a production, with others inside one another at most n deep
    unfoldable pub read_rule : ℕ → (A : Type 0) → Rule A → List Token → Outcome Token A
    read_rule zero A p ts = Err ts
    read_rule (suc n) A p ts = read_by (read_rule n) (right_side A p) ts

    -- a form, with productions inside one another at most n deep
    abbrev pub read : ℕ → {A : Type 0} → Form Token Rule A → List Token → Outcome Token A
    read n f ts = read_by (read_rule n) f ts
