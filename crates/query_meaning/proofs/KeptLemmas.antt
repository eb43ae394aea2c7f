-- What passes a test of the items of a list, one item after the other.
use Rattle.std.proofs.Common.{◌≡◌, Bool, true, false, cond, List, [], ◌∷◌, ◌++◌, length, filter, All, sym, ap, ◌∙◌, append_assoc, append-nil, subst}
use Rattle.std.proofs.lemmas.List.{nil_from_length}
use Rattle.std.proofs.lemmas.List.Elements.{All-head, All-tail}

module _ {X : Type 0} (P : X → Type 0) (test : X → Bool) where
  -- some items are done, of which these were kept, and the rest is left
  pub record IsKeeping (all kept left : List X) : Type 0 where
    pub kept_of_all : filter test all ≡ kept ++ filter test left
    pub items : All P left

  module _ (all kept left rest : List X) (x : X) (keeping : IsKeeping all kept left) (is : left ≡ x ∷ rest) where
    pub next_item : P x
    next_item = All-head P x rest (subst (All P) is keeping.items)

    pub item_kept : test x ≡ true → IsKeeping all (kept ++ x ∷ []) rest
    item_kept passes = record {
      kept_of_all = keeping.kept_of_all ∙ ap (λ more. kept ++ filter test more) is
          ∙ ap (λ b. kept ++ cond b (x ∷ filter test rest) (filter test rest)) passes
          ∙ sym (append_assoc kept (x ∷ []) (filter test rest));
      items = All-tail P x rest (subst (All P) is keeping.items);
    }

    pub item_passed : test x ≡ false → IsKeeping all kept rest
    item_passed fails = record {
      kept_of_all = keeping.kept_of_all ∙ ap (λ more. kept ++ filter test more) is ∙ ap (λ b. kept ++ cond b (x ∷ filter test rest) (filter test rest)) fails;
      items = All-tail P x rest (subst (All P) is keeping.items);
    }

  pub all_kept : (all kept left : List X) → IsKeeping all kept left → length left ≡ 0 → kept ≡ filter test all
  all_kept all kept left keeping end =
      let none : left ≡ [] = nil_from_length left end in
      sym (keeping.kept_of_all ∙ ap (λ more. kept ++ filter test more) none ∙ append-nil kept)
