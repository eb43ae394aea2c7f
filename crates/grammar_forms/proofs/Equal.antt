-- Forms that stand for the same lists with the same values, and have the same fronts.
use Rattle.std.proofs.Common.{◌≡◌, ℕ, inl, inr, [], subst, ◌++◌, refl, sym, ap, ◌∙◌, append_assoc}
use Rattle.grammar_forms.specs.Form.{Form, token, both, either, option, many, rows, map, Wholes, Fronts, WholeBy, FrontBy}
use Rattle.grammar_forms.proofs.Same.{In, In-refl, In-trans, In-both, In-either, In-option, In-many, In-map, In-swap, In-choices, In-choices_back, In-rows, In-rows_back}

module _ (Token : Type 0) (Rule : Type 0 → Type 1) (class : Token → ℕ) (R : (A : Type 0) → Rule A → Wholes Token A) (S : (A : Type 0) → Rule A → Fronts Token) where
  abbrev W : {A : Type 0} → Form Token Rule A → Wholes Token A
  W f ts v = WholeBy Token Rule class R f ts v

  abbrev F : {A : Type 0} → Form Token Rule A → Fronts Token
  F f ts = FrontBy Token Rule class R S f ts

  pub record Equal {A : Type 0} (f g : Form Token Rule A) : Type 0 where
    pub there : In Token Rule class R S f g
    pub back : In Token Rule class R S g f

  pub Equal-refl : {A : Type 0} (f : Form Token Rule A) → Equal f f
  Equal-refl f = record { there = In-refl Token Rule class R S f; back = In-refl Token Rule class R S f }

  pub Equal-sym : {A : Type 0} (f g : Form Token Rule A) → Equal f g → Equal g f
  Equal-sym f g p = record { there = p.back; back = p.there }

  pub Equal-trans : {A : Type 0} (f g h : Form Token Rule A) → Equal f g → Equal g h → Equal f h
  Equal-trans f g h p q = record { there = In-trans Token Rule class R S f g h p.there q.there; back = In-trans Token Rule class R S h g f q.back p.back }

  pub Equal-both : {A B : Type 0} (f g : Form Token Rule A) (h k : Form Token Rule B) → Equal f g → Equal h k → Equal (both f h) (both g k)
  Equal-both f g h k p q = record { there = In-both Token Rule class R S f g h k p.there q.there; back = In-both Token Rule class R S g f k h p.back q.back }

  pub Equal-either : {A : Type 0} (f g h k : Form Token Rule A) → Equal f g → Equal h k → Equal (either f h) (either g k)
  Equal-either f g h k p q = record { there = In-either Token Rule class R S f g h k p.there q.there; back = In-either Token Rule class R S g f k h p.back q.back }

  pub Equal-option : {A : Type 0} (f g : Form Token Rule A) → Equal f g → Equal (option f) (option g)
  Equal-option f g p = record { there = In-option Token Rule class R S f g p.there; back = In-option Token Rule class R S g f p.back }

  pub Equal-many : {A : Type 0} (f g : Form Token Rule A) → Equal f g → Equal (many f) (many g)
  Equal-many f g p = record { there = In-many Token Rule class R S f g p.there; back = In-many Token Rule class R S g f p.back }

  pub Equal-map : {A B : Type 0} (h : A → B) (f g : Form Token Rule A) → Equal f g → Equal (map h f) (map h g)
  Equal-map h f g p = record { there = In-map Token Rule class R S h f g p.there; back = In-map Token Rule class R S h g f p.back }

  pub Equal-swap : {A : Type 0} (f g : Form Token Rule A) → Equal (either f g) (either g f)
  Equal-swap f g = record { there = In-swap Token Rule class R S f g; back = In-swap Token Rule class R S g f }

  pub Equal-choices : {A : Type 0} (f g h : Form Token Rule A) → Equal (either (either f g) h) (either f (either g h))
  Equal-choices f g h = record { there = In-choices Token Rule class R S f g h; back = In-choices_back Token Rule class R S f g h }

  -- ---- a first part that two sides have in common, and a last one

  pub Equal-factor : {A B : Type 0} (c : Form Token Rule A) (f g : Form Token Rule B) → Equal (either (both c f) (both c g)) (both c (either f g))
  Equal-factor c f g = record {
    there = record {
      whole = (λ ts v w. elim w [ inl i ↦ (i.0, i.1, i.2, i.3, inl i.4) | inr i ↦ (i.0, i.1, i.2, i.3, inr i.4) ]);
      front = (λ ts w. elim w [
        | inl i ↦ (elim i [ inl j ↦ inl j | inr j ↦ inr (j.0, j.1, j.2, j.3, j.4, inl j.5) ])
        | inr i ↦ (elim i [ inl j ↦ inl j | inr j ↦ inr (j.0, j.1, j.2, j.3, j.4, inr j.5) ])
      ]);
    };
    back = record {
      whole = (λ ts v w. elim w.4 [ inl i ↦ inl (w.0, w.1, w.2, w.3, i) | inr i ↦ inr (w.0, w.1, w.2, w.3, i) ]);
      front = (λ ts w. elim w [
        | inl i ↦ inl (inl i)
        | inr j ↦ (elim j.5 [ inl k ↦ inl (inr (j.0, j.1, j.2, j.3, j.4, k)) | inr k ↦ inr (inr (j.0, j.1, j.2, j.3, j.4, k)) ])
      ]);
    };
  }

  pub Equal-factor_last : {A B : Type 0} (f g : Form Token Rule A) (m : Form Token Rule B) → Equal (either (both f m) (both g m)) (both (either f g) m)
  Equal-factor_last f g m = record {
    there = record {
      whole = (λ ts v w. elim w [ inl i ↦ (i.0, i.1, i.2, inl i.3, i.4) | inr i ↦ (i.0, i.1, i.2, inr i.3, i.4) ]);
      front = (λ ts w. elim w [
        | inl i ↦ (elim i [ inl j ↦ inl (inl j) | inr j ↦ inr (j.0, j.1, j.2, j.3, inl j.4, j.5) ])
        | inr i ↦ (elim i [ inl j ↦ inl (inr j) | inr j ↦ inr (j.0, j.1, j.2, j.3, inr j.4, j.5) ])
      ]);
    };
    back = record {
      whole = (λ ts v w. elim w.3 [ inl i ↦ inl (w.0, w.1, w.2, i, w.4) | inr i ↦ inr (w.0, w.1, w.2, i, w.4) ]);
      front = (λ ts w. elim w [
        | inl i ↦ (elim i [ inl j ↦ inl (inl j) | inr j ↦ inr (inl j) ])
        | inr i ↦ (elim i.4 [ inl j ↦ inl (inr (i.0, i.1, i.2, i.3, j, i.5)) | inr j ↦ inr (inr (i.0, i.1, i.2, i.3, j, i.5)) ])
      ]);
    };
  }

  pub Equal-factor_map : {A B : Type 0} (h : A → B) (f g : Form Token Rule A) → Equal (either (map h f) (map h g)) (map h (either f g))
  Equal-factor_map h f g = record {
    there = record {
      whole = (λ ts v w. elim w [ inl i ↦ (i.0, inl i.1, i.2) | inr i ↦ (i.0, inr i.1, i.2) ]);
      front = (λ ts w. w);
    };
    back = record {
      whole = (λ ts v w. elim w.1 [ inl i ↦ inl (w.0, i, w.2) | inr i ↦ inr (w.0, i, w.2) ]);
      front = (λ ts w. w);
    };
  }

  -- ---- values that are changed one after the other

  pub Equal-fuse : {A B C : Type 0} (h : B → C) (g : A → B) (k : A → C) (f : Form Token Rule A) → ((a : A) → h (g a) ≡ k a) → Equal (map h (map g f)) (map k f)
  Equal-fuse h g k f same = record {
    there = record { whole = (λ ts v w. (w.1.0, w.1.1, w.2 ∙ ap h w.1.2 ∙ same w.1.0)); front = (λ ts w. w) };
    back = record { whole = (λ ts v w. (g w.0, (w.0, w.1, refl), w.2 ∙ sym (same w.0))); front = (λ ts w. w) };
  }

  pub Equal-plain : {A : Type 0} (f : Form Token Rule A) → Equal (map (λ a. a) f) f
  Equal-plain {A} f = record {
    there = record { whole = (λ ts v w. let P : A → Type 0 = λ z. W f ts z in subst P (sym w.2) w.1); front = (λ ts w. w) };
    back = record { whole = (λ ts v w. (v, w, refl)); front = (λ ts w. w) };
  }

  -- in the second part of a sequence
  pub Equal-inside : {A B C D : Type 0} (h : A × B → D) (k : A × C → D) (t : B → C) (c : Form Token Rule A) (f : Form Token Rule B) → ((a : A) (b : B) → h (a, b) ≡ k (a, t b)) → Equal (map h (both c f)) (map k (both c (map t f)))
  Equal-inside h k t c f same = record {
    there = record { whole = (λ ts v w. let p = w.1 in ((w.0.0, t w.0.1), (p.0, p.1, p.2, p.3, (w.0.1, p.4, refl)), w.2 ∙ same w.0.0 w.0.1)); front = (λ ts w. w) };
    back = record { whole = (λ ts v w. let p = w.1 in let q = p.4 in ((w.0.0, q.0), (p.0, p.1, p.2, p.3, q.1), w.2 ∙ ap (λ z. k (w.0.0, z)) q.2 ∙ sym (same w.0.0 q.0))); front = (λ ts w. w) };
  }

  -- in the first part
  pub Equal-before : {A B C D : Type 0} (h : B × C → D) (k : A × C → D) (t : A → B) (f : Form Token Rule A) (m : Form Token Rule C) → ((a : A) (d : C) → h (t a, d) ≡ k (a, d)) → Equal (map h (both (map t f) m)) (map k (both f m))
  Equal-before h k t f m same = record {
    there = record {
      whole = (λ ts v w. let p = w.1 in let q = p.3 in ((q.0, w.0.1), (p.0, p.1, p.2, q.1, p.4), w.2 ∙ ap (λ z. h (z, w.0.1)) q.2 ∙ same q.0 w.0.1));
      front = (λ ts w. elim w [ inl i ↦ inl i | inr j ↦ (let q = j.4 in inr (j.0, j.1, q.0, j.3, q.1, j.5)) ]);
    };
    back = record {
      whole = (λ ts v w. let p = w.1 in ((t w.0.0, w.0.1), (p.0, p.1, p.2, (w.0.0, p.3, refl), p.4), w.2 ∙ sym (same w.0.0 w.0.1)));
      front = (λ ts w. elim w [ inl i ↦ inl i | inr j ↦ inr (j.0, j.1, t j.2, j.3, (j.2, j.4, refl), j.5) ]);
    };
  }

  -- three in sequence
  pub Equal-regroup : {A B C D : Type 0} (h : (A × B) × C → D) (k : A × (B × C) → D) (c : Form Token Rule A) (f : Form Token Rule B) (m : Form Token Rule C) → ((a : A) (b : B) (d : C) → h ((a, b), d) ≡ k (a, (b, d))) → Equal (map h (both (both c f) m)) (map k (both c (both f m)))
  Equal-regroup h k c f m same = record {
    there = record {
      whole = (λ ts v w.
          let p = w.1 in
          let q = p.3 in
          ((w.0.0.0, (w.0.0.1, w.0.1)), (q.0, q.1 ++ p.1, p.2 ∙ ap (λ z. z ++ p.1) q.2 ∙ append_assoc q.0 q.1 p.1, q.3, (q.1, p.1, refl, q.4, p.4)), w.2 ∙ same w.0.0.0 w.0.0.1 w.0.1));
      front = (λ ts w. elim w [
        | inl i ↦ (elim i [ inl j ↦ inl j | inr j ↦ inr (j.0, j.1, j.2, j.3, j.4, inl j.5) ])
        | inr i ↦ (let p = i.4 in inr (p.0, p.1 ++ i.1, i.2.0, i.3 ∙ ap (λ z. z ++ i.1) p.2 ∙ append_assoc p.0 p.1 i.1, p.3, inr (p.1, i.1, i.2.1, refl, p.4, i.5)))
      ]);
    };
    back = record {
      whole = (λ ts v w.
          let p = w.1 in
          let q = p.4 in
          (((w.0.0, w.0.1.0), w.0.1.1), (p.0 ++ q.0, q.1, p.2 ∙ ap (λ z. p.0 ++ z) q.2 ∙ sym (append_assoc p.0 q.0 q.1), (p.0, q.0, refl, p.3, q.3), q.4), w.2 ∙ sym (same w.0.0 w.0.1.0 w.0.1.1)));
      front = (λ ts w. elim w [
        | inl i ↦ inl (inl i)
        | inr p ↦ (elim p.5 [
          | inl j ↦ inl (inr (p.0, p.1, p.2, p.3, p.4, j))
          | inr q ↦ inr (p.0 ++ q.0, q.1, (p.2, q.2), p.3 ∙ ap (λ z. p.0 ++ z) q.3 ∙ sym (append_assoc p.0 q.0 q.1), (p.0, q.0, refl, p.4, q.4), q.5)
        ])
      ]);
    };
  }

  -- a list with a last item of another kind
  pub Equal-rows : ((A : Type 0) (p : Rule A) → S A p []) → {A B : Type 0} (c : ℕ) (f : Form Token Rule A) (g : Form Token Rule B) →
      Equal (both (many (map {A = Unit {0} × A} (λ p. p.1) (both (token c (λ t. tt {0})) f))) (option (map {A = Unit {0} × B} (λ p. p.1) (both (token c (λ t. tt {0})) g)))) (rows c f g)
  Equal-rows none c f g = record { there = In-rows_back Token Rule class R S none c f g; back = In-rows Token Rule class R S c f g }
