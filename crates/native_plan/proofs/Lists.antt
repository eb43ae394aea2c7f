-- Lists of combinations that pass a test, one more at a time.
use Rattle.std.proofs.Common.{◌≡◌, ℕ, ◌+◌, Bool, List, [], ◌∷◌, ◌++◌, filter, subst, All, sym, ap, ◌∙◌, append_assoc, arith}
use Rattle.std.proofs.lemmas.List.Elements.{All-tail, filter-append}
use Rattle.std.proofs.lemmas.List.FromFn.{map-range_with_len_more}
use Rattle.prefsql_tables.specs.declared.place.Combo.{Combo}
use Rattle.plan_algebra.specs.Meaning.{single_rows}
use Rattle.query_meaning.proofs.KeptLemmas.{IsKeeping}
use Rattle.native_plan.specs.Combos.{single}

module _ (test : Combo → Bool) where
  -- one row of the table more
  pub singles_more : (n : ℕ) (old new : List Combo) → old ≡ filter test (single_rows n) → new ≡ old ++ filter test (single n ∷ []) → new ≡ filter test (single_rows (n + 1))
  singles_more n old new before added =
      let one : single_rows (n + 1) ≡ single_rows n ++ single n ∷ [] = map-range_with_len_more single 0 n n (omega arith) in
      added ∙ ap (λ combos. combos ++ filter test (single n ∷ [])) before ∙ sym (filter-append test (single_rows n) (single n ∷ [])) ∙ ap (filter test) (sym one)

  -- one of the combinations more
  pub combo_added : (P : Combo → Type 0) (all kept left rest new : List Combo) (combo : Combo) → IsKeeping P test all kept left → left ≡ combo ∷ rest → new ≡ kept ++ filter test (combo ∷ []) → IsKeeping P test all new rest
  combo_added P all kept left rest new combo keeping is added =
      subst (λ (more : List Combo). IsKeeping P test all more rest) (sym added)
      (record {
        kept_of_all = keeping.kept_of_all ∙ ap (λ more. kept ++ filter test more) is
            ∙ ap (λ more. kept ++ more) (filter-append test (combo ∷ []) rest)
            ∙ sym (append_assoc kept (filter test (combo ∷ [])) (filter test rest));
        items = All-tail P combo rest (subst (All P) is keeping.items);
      })
