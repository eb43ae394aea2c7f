use Rattle.std.proofs.Common.{◌≡◌, ◌++◌, ◌∷◌, [], ℕ, List, Vec, ap, ◌∙◌, sym}
use Rattle.std.specs.declared.alloc.Global.{Global}
use Rattle.prefsql_values.specs.Value.{value_of}
use Rattle.value_index.specs.Places.{bucket_at, listed}
use Rattle.value_index.proofs.Adding.{one_added}
use Rattle.value_index.proofs.index.add.Goals.{in-Some, in-None}
use Rattle.value_index.proofs.index.add.Goals as goal

pub returns : goal.returns
returns c =
    let had : c.match-swap_remove.bucket.items ≡ bucket_at c.args.buckets.now (value_of c.args.cell) =
    elim c.match-swap_remove.branch [
      | in-Some w ↦ ap (λ (b : Vec ℕ Global). b.items) w.bucket-is ∙ ap listed (sym w.in-Some.is ∙ c.swap_remove.ensures.value)
      | in-None w ↦ ap (λ (b : Vec ℕ Global). b.items) w.bucket-is ∙ w.new-bucket.ensures.items ∙ ap listed (sym w.in-None.is ∙ c.swap_remove.ensures.value)
    ]
    in
    one_added c.args.buckets.now c.swap_remove.new.self c.insert.new.self (value_of c.args.cell) c.push.new.self c.args.place
    c.if-is_null.ensures c.swap_remove.ensures.updates c.in_ok-insert.ensures.updates
    (c.in_ok-push.ensures.items ∙ ap (λ (xs : List ℕ). xs ++ c.args.place ∷ []) had)
