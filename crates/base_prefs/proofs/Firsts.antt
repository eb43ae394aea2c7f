-- Each value once, at its first place.
use Rattle.std.proofs.Common.{◌≡◌, ◌≢◌, ◌<◌, ◌≤◌, Bool, true, false, cond, not, List, [], ◌∷◌, ◌++◌, length, filter, All, AllPairs, refl, sym, ap, ◌∙◌, inl, inr, subst, arith, append-nil, append_assoc}
use Rattle.std.proofs.lemmas.Bool.{cases_Bool, both_ways, not-true}
use Rattle.std.proofs.lemmas.List.Elements.{All-cons, All-head, All-tail, All-filter, All-weaker, filter-append, filter_passes}
use Rattle.std.proofs.lemmas.List.Filters.{length-filter_both}
use Rattle.std.proofs.lemmas.List.Kept.{AllPairs-cons, AllPairs-filter}
use Rattle.prefsql_values.specs.declared.value.Value.{Value}
use Rattle.prefsql_values.specs.Value.{value_eq}
use Rattle.prefsql_values.proofs.ValueEq.{value_eq-Decides}
use Rattle.order_laws.proofs.Members.{Among, any_from, any_found, among_filter, among_kept, none_from}
use Rattle.base_prefs.specs.Table.{add_once}
use Rattle.base_prefs.specs.Values.{is_in, firsts}

added : (vs : List Value) (v : Value) → is_in vs v ≡ true → add_once vs v ≡ vs
added vs v h = rw h refl

fresh : (vs : List Value) (v : Value) → is_in vs v ≡ false → add_once vs v ≡ vs ++ v ∷ []
fresh vs v h = rw h refl

abbrev others : Value → Value → Bool
others w u = not (value_eq w u)

firsts_here : (w : Value) (ws : List Value) (v : Value) → is_in (firsts ws) v ≡ true → is_in (w ∷ filter (others w) (firsts ws)) v ≡ true
firsts_here w ws v h =
    elim (cases_Bool (value_eq w v)) [
      | inl same ↦ rw same refl
      | inr other ↦
          let found = any_found (λ u. value_eq u v) (firsts ws) h in
          let is : found.0 ≡ v = (value_eq-Decides found.0 v).0 found.2 in
          let kept : Among (filter (others w) (firsts ws)) v =
          among_filter (others w) (firsts ws) v (subst (λ x. Among (firsts ws) x) is found.1) (rw other refl)
          in
          rw other (any_from (λ u. value_eq u v) (filter (others w) (firsts ws)) v kept ((value_eq-Decides v v).1 refl))
    ]

firsts_gone : (w : Value) (ws : List Value) (v : Value) → is_in (firsts ws) v ≡ false → is_in (filter (others w) (firsts ws)) v ≡ false
firsts_gone w ws v h =
    none_from (λ u. value_eq u v) (filter (others w) (firsts ws)) (λ u a same.
    both_ways (is_in (firsts ws) v) h (any_from (λ x. value_eq x v) (firsts ws) u ((among_kept (others w) (firsts ws) u a).0) same))

-- one value more
pub firsts_push : (vs : List Value) (v : Value) → firsts (vs ++ v ∷ []) ≡ add_once (firsts vs) v
firsts_push [] v = refl
firsts_push (w ∷ ws) v =
    ap (λ us. w ∷ filter (others w) us) (firsts_push ws v)
    ∙ (elim (cases_Bool (is_in (firsts ws) v)) [
      | inl here ↦
          ap (λ us. w ∷ filter (others w) us) (added (firsts ws) v here) ∙ sym (added (w ∷ filter (others w) (firsts ws)) v (firsts_here w ws v here))
      | inr gone ↦
          ap (λ us. w ∷ filter (others w) us) (fresh (firsts ws) v gone) ∙ ap (λ us. w ∷ us) (filter-append (others w) (firsts ws) (v ∷ []))
          ∙ (elim (cases_Bool (value_eq w v)) [
            | inl same ↦
                ap (λ (b : Bool). w ∷ (filter (others w) (firsts ws) ++ cond (not b) (v ∷ []) [])) same
                ∙ ap (λ us. w ∷ us) (append-nil (filter (others w) (firsts ws)))
                ∙ sym (added (w ∷ filter (others w) (firsts ws)) v (rw same refl))
            | inr other ↦
                ap (λ (b : Bool). w ∷ (filter (others w) (firsts ws) ++ cond (not b) (v ∷ []) [])) other
                ∙ sym (fresh (w ∷ filter (others w) (firsts ws)) v (rw other (firsts_gone w ws v gone)))
          ])
    ])

-- the values with others added one after the other
abbrev pub adding : List Value → List Value → List Value
adding kept [] = kept
adding kept (v ∷ vs) = adding (add_once kept v) vs

adding-firsts : (us vs : List Value) → adding (firsts us) vs ≡ firsts (us ++ vs)
adding-firsts us [] = ap firsts (sym (append-nil us))
adding-firsts us (v ∷ vs) =
    ap (λ kept. adding kept vs) (sym (firsts_push us v)) ∙ adding-firsts (us ++ v ∷ []) vs ∙ ap firsts (append_assoc us (v ∷ []) vs)

-- added to none, they are there once each
pub adding_all : (vs : List Value) → adding [] vs ≡ firsts vs
adding_all vs = adding-firsts [] vs

pub among_from_firsts : (vs : List Value) (v : Value) → Among (firsts vs) v → Among vs v
among_from_firsts [] v a = absurd a
among_from_firsts (w ∷ ws) v (inl e) = inl e
among_from_firsts (w ∷ ws) v (inr a) = inr (among_from_firsts ws v ((among_kept (others w) (firsts ws) v a).0))

filter_shorter : (p : Value → Bool) (vs : List Value) → length (filter p vs) ≤ length vs
filter_shorter p vs = omega (arith, length-filter_both p (λ v. not (p v)) (λ v. refl) vs)

pub firsts_shorter : (vs : List Value) → length (firsts vs) ≤ length vs
firsts_shorter [] = omega arith
firsts_shorter (v ∷ vs) = omega (arith, filter_shorter (others v) (firsts vs), firsts_shorter vs)

pub firsts_some : (vs : List Value) → 0 < length vs → 0 < length (firsts vs)
firsts_some [] h = absurd (omega arith)
firsts_some (v ∷ vs) h = omega arith

pub All-firsts : (P : Value → Type 0) (vs : List Value) → All P vs → All P (firsts vs)
All-firsts P [] h = h
All-firsts P (v ∷ vs) h =
    All-cons P v (filter (others v) (firsts vs)) (All-head P v vs h) (All-filter (others v) P (firsts vs) (All-firsts P vs (All-tail P v vs h)))

different : (v w : Value) → others v w ≡ true → v ≢ w
different v w h e = both_ways (value_eq v w) (not-true (value_eq v w) h) ((value_eq-Decides v w).1 e)

-- any two of them differ
pub AllPairs-firsts : (vs : List Value) → AllPairs ◌≢◌ (firsts vs)
AllPairs-firsts [] i j d below within = absurd (omega arith)
AllPairs-firsts (v ∷ vs) i j d below within =
    AllPairs-cons ◌≢◌ v (filter (others v) (firsts vs))
    (All-weaker (λ w. others v w ≡ true) (λ w. v ≢ w) (different v) (filter (others v) (firsts vs)) (filter_passes (others v) (firsts vs)))
    (AllPairs-filter ◌≢◌ (others v) (firsts vs) (AllPairs-firsts vs)) i j d below within

-- more values may only add to the first ones
pub firsts_longer : (xs ys : List Value) → (zs : List Value) × (firsts (xs ++ ys) ≡ firsts xs ++ zs)
firsts_longer [] ys = (firsts ys, refl)
firsts_longer (v ∷ xs) ys =
    let more = firsts_longer xs ys in (
      filter (others v) more.0,
      ap (λ us. v ∷ filter (others v) us) more.1 ∙ ap (λ us. v ∷ us) (filter-append (others v) (firsts xs) more.0),
    )
