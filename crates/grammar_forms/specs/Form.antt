-- Grammars as data, this project's own. A form stands for lists of tokens, each with the value that
-- it has there. A list that a form stands for is a whole one of it, and what a form begins with is
-- a front of it:
--   a front of a token is the empty list or that token;
--   a front of a sequence is a front of its first part, or a whole first part and then a front of
-- the rest;
--   a front of a choice is a front of one of its sides;
--   a front of an optional form is the empty list or a front of the form;
--   a front of a repeated form is any number of whole ones and then a front of one;
--   a front of a production is a front of its right side.
use Rattle.std.specs.Prelude.{◌≡◌, ℕ, zero, suc, ◌≤◌, ◌⊎◌, List, [], ◌∷◌, ◌++◌, length, take}
use Rattle.std.specs.Prelude.{Option, Some, None}

-- What may stand on the right side of a production, with the type of its value. Tokens are told
-- apart by their class, and Rule has a name for each production that nests.
pub data Form (Token : Type 0) (Rule : Type 0 → Type 1) : Type 0 → Type 1 where
  -- nothing
  nothing : {A : Type 0} → A → Form Token Rule A
  -- one token of this class
  token : {A : Type 0} → ℕ → (Token → A) → Form Token Rule A
  -- one after the other
  both : {A B : Type 0} → Form Token Rule A → Form Token Rule B → Form Token Rule (A × B)
  -- a choice
  either : {A : Type 0} → Form Token Rule A → Form Token Rule A → Form Token Rule A
  -- [f], an optional form
  option : {A : Type 0} → Form Token Rule A → Form Token Rule (Option A)
  -- {f}, a repeated form
  many : {A : Type 0} → Form Token Rule A → Form Token Rule (List A)
  -- {c f} [c g], after a token of the class c either the next f or a last g
  rows : {A B : Type 0} → ℕ → Form Token Rule A → Form Token Rule B
      → Form Token Rule (List A × Option B)
  -- the same tokens with another value
  map : {A B : Type 0} → (A → B) → Form Token Rule A → Form Token Rule B
  -- a production
  rule : {A : Type 0} → Rule A → Form Token Rule A

-- which tokens are a whole one, with its value
abbrev pub Wholes : Type 0 → Type 0 → Type 1
Wholes Token A = List Token → A → Type 0

-- which tokens are a front
abbrev pub Fronts : Type 0 → Type 1
Fronts Token = List Token → Type 0

-- any number of whole ones, one after the other, with their values in that order
abbrev pub Several : {Token A : Type 0} → Wholes Token A → List Token → List A → Type 0
Several P ts [] = ts ≡ []
Several {Token = Token} P ts (v ∷ vs) = (xs ys : List Token) × (ts ≡ xs ++ ys) × P xs v
    × Several P ys vs

-- a whole one or nothing
abbrev pub Possibly : {Token A : Type 0} → Wholes Token A → Wholes Token (Option A)
Possibly P ts None = ts ≡ []
Possibly P ts (Some v) = P ts v

-- behind a token of this class
abbrev pub Behind : {Token A : Type 0} → (Token → ℕ) → ℕ → Wholes Token A → Wholes Token A
Behind {Token = Token} class c P ts v = (t : Token) × (rest : List Token) × (ts ≡ t ∷ rest)
    × (class t ≡ c) × P rest v

-- a front of what stands behind a token of this class
abbrev pub FrontBehind : {Token : Type 0} → (Token → ℕ) → ℕ → Fronts Token → Fronts Token
FrontBehind {Token = Token} class c F ts =
    (ts ≡ []) ⊎ ((t : Token) × (rest : List Token) × (ts ≡ t ∷ rest) × (class t ≡ c) × F rest)

-- {c f} [c g]
abbrev pub RowsWhole : {Token A B : Type 0} → (Token → ℕ) → ℕ → Wholes Token A → Wholes Token B
    → Wholes Token (List A × Option B)
RowsWhole {Token = Token} class c P Q ts v = (xs ys : List Token) × (ts ≡ xs ++ ys)
    × Several (Behind class c P) xs v.0 × Possibly (Behind class c Q) ys v.1

-- a front of that: whole items, and then a front of an item of one of the two kinds
abbrev pub RowsFront : {Token A : Type 0} → (Token → ℕ) → ℕ → Wholes Token A → Fronts Token
    → Fronts Token → Fronts Token
RowsFront {Token = Token} {A = A} class c P F G ts = (xs ys : List Token) × (vs : List A)
    × (ts ≡ xs ++ ys) × Several (Behind class c P) xs vs
    × (FrontBehind class c F ys ⊎ FrontBehind class c G ys)

module _ (Token : Type 0) (Rule : Type 0 → Type 1) (class : Token → ℕ) where
  -- which tokens are a whole one of a form, where R says it of the productions
  abbrev pub WholeBy : ((A : Type 0) → Rule A → Wholes Token A) → {A : Type 0} → Form Token Rule A
      → Wholes Token A
  WholeBy R (nothing a) ts v = (ts ≡ []) × (v ≡ a)
  WholeBy R (token c value) ts v = (t : Token) × (ts ≡ t ∷ []) × (class t ≡ c) × (v ≡ value t)
  WholeBy R (both f g) ts v = (xs ys : List Token) × (ts ≡ xs ++ ys) × WholeBy R f xs v.0
      × WholeBy R g ys v.1
  WholeBy R (either f g) ts v = WholeBy R f ts v ⊎ WholeBy R g ts v
  WholeBy R (option f) ts v = Possibly (WholeBy R f) ts v
  WholeBy R (many f) ts vs = Several (WholeBy R f) ts vs
  WholeBy R (rows c f g) ts v = RowsWhole class c (WholeBy R f) (WholeBy R g) ts v
  WholeBy R (map {A = A} h f) ts v = (u : A) × WholeBy R f ts u × (v ≡ h u)
  WholeBy R (rule {A = A} p) ts v = R A p ts v

  -- which tokens are a front of a form, where S says it of the productions
  abbrev pub FrontBy : ((A : Type 0) → Rule A → Wholes Token A)
      → ((A : Type 0) → Rule A → Fronts Token) → {A : Type 0} → Form Token Rule A → Fronts Token
  FrontBy R S (nothing a) ts = ts ≡ []
  FrontBy R S (token c value) ts = (ts ≡ []) ⊎ ((t : Token) × (ts ≡ t ∷ []) × (class t ≡ c))
  FrontBy R S (both {A = A} f g) ts = FrontBy R S f ts
      ⊎ ((xs ys : List Token) × (v : A) × (ts ≡ xs ++ ys) × WholeBy R f xs v × FrontBy R S g ys)
  FrontBy R S (either f g) ts = FrontBy R S f ts ⊎ FrontBy R S g ts
  FrontBy R S (option f) ts = (ts ≡ []) ⊎ FrontBy R S f ts
  FrontBy R S (many {A = A} f) ts = (xs ys : List Token) × (vs : List A) × (ts ≡ xs ++ ys)
      × Several (WholeBy R f) xs vs × FrontBy R S f ys
  FrontBy R S (rows c f g) ts = RowsFront class c (WholeBy R f) (FrontBy R S f) (FrontBy R S g) ts
  FrontBy R S (map h f) ts = FrontBy R S f ts
  FrontBy R S (rule {A = A} p) ts = S A p ts

  module _ (right_side : (A : Type 0) → Rule A → Form Token Rule A) where
    -- a whole production, with others inside one another at most n deep
    unfoldable pub WholeRule : ℕ → (A : Type 0) → Rule A → Wholes Token A
    WholeRule zero A p ts v = ⊥
    WholeRule (suc n) A p ts v = WholeBy (WholeRule n) (right_side A p) ts v

    -- a front of a production, with others inside one another at most n deep: before the first one
    -- only no token is
    unfoldable pub FrontRule : ℕ → (A : Type 0) → Rule A → Fronts Token
    FrontRule zero A p ts = ts ≡ []
    FrontRule (suc n) A p ts = FrontBy (WholeRule n) (FrontRule n) (right_side A p) ts

    -- which tokens are a whole one of a form, with productions inside one another at most n deep
    abbrev pub IsWhole : ℕ → {A : Type 0} → Form Token Rule A → Wholes Token A
    IsWhole n f ts v = WholeBy (WholeRule n) f ts v

    -- which tokens are a front of a form, with productions inside one another at most n deep
    abbrev pub IsFront : ℕ → {A : Type 0} → Form Token Rule A → Fronts Token
    IsFront n f ts = FrontBy (WholeRule n) (FrontRule n) f ts

-- The longest front with which these tokens begin has n of them.
pub record IsLongest {Token : Type 0} (F : Fronts Token) (ts : List Token) (n : ℕ) : Type 0 where
  pub within : n ≤ length ts
  pub front : F (take n ts)
  pub longest : (m : ℕ) → m ≤ length ts → F (take m ts) → m ≤ n
