-- Texts, written one after the other.
use Rattle.std.proofs.Common.{◌≡◌, ◌+◌, ◌<◌, ◌≤◌, ◌∙◌, ℕ, suc, List, [], ◌∷◌, ◌++◌, length, take, drop, get_or, Option, inr, refl, sym, ap, subst, arith, length-append, append-nil}
use Rattle.std.proofs.KnownBytes.{Appends-kept, Appends-nil, Appends-trans}
use Rattle.std.proofs.Math.Seq.{drop-cons, take-append-add}
use Rattle.std.proofs.lemmas.Grind.{flat_map-append}
use Rattle.std.proofs.lemmas.List.{take_more, take-append-drop, take-append-le}
use Rattle.std.proofs.lemmas.List.Elements.{All-head, All-nil, All-push}
use Rattle.std.specs.Io.KnownBytes.{Appends, Keeps}
use Rattle.std.specs.List.{flat_map}
use Rattle.std.specs.Prelude.{IsUtf8}
use Rattle.prefsql_io.specs.Streams.{AppendsLess}
use Rattle.query_meaning.specs.declared.block.Block.{Block}
use Rattle.rewritten_query.specs.Rewriting.{rewritten}
use Rattle.sql_text.specs.Text.{text_of}
use Rattle.prefsql_session.specs.Written.{AreUtf8}
use Rattle.prefsql_session.specs.declared.command.Shown.{Shown}
use Rattle.prefsql_session.specs.declared.command.Shown.TheVariants.{Plan, Query, Executed}
use Rattle.prefsql_session.specs.Run.{GetsFront}

module _ {X : Type 0} (f : X → List ℕ) (xs : List X) (i : ℕ) (x : X) (item : get_or xs i x ≡ x) (lt : i < length xs) where
  -- the texts so far, the next one and the rest
  parts : flat_map f xs ≡ flat_map f (take i xs) ++ (f x ++ flat_map f (drop (suc i) xs))
  parts =
      ap (flat_map f) (sym (take-append-drop i xs) ∙ ap (λ more. take i xs ++ more) (drop-cons xs i x lt))
      ∙ ap (λ y. flat_map f (take i xs ++ y ∷ drop (suc i) xs)) item ∙ flat_map-append f (take i xs) (x ∷ drop (suc i) xs)

  -- less than the next text was written
  pub less_of_all : (a b c : Option (List ℕ)) → Appends a b (flat_map f (take i xs)) → AppendsLess b c (f x) → AppendsLess a c (flat_map f xs)
  less_of_all a b c front less =
      let so_far = flat_map f (take i xs) in
      let text = f x in
      let rest = flat_map f (drop (suc i) xs) in
      let n = less.0 in
      let long : length (flat_map f xs) ≡ length so_far + (length text + length rest) =
      ap length parts ∙ length-append so_far (text ++ rest) ∙ ap (λ k. length so_far + k) (length-append text rest) in
      let within : n ≤ length text = omega (arith, less.1) in
      let taken : take (length so_far + n) (flat_map f xs) ≡ so_far ++ take n text =
      ap (take (length so_far + n)) parts ∙ take-append-add so_far (text ++ rest) n ∙ ap (λ more. so_far ++ more) (take-append-le n text rest within) in (
        length so_far + n,
        omega (arith, long, less.1),
        subst (Appends a c) (sym taken) (Appends-trans a b c so_far (take n text) front less.2),
      )

  -- nothing of the next text was written
  pub front_of_all : (a b c : Option (List ℕ)) → Appends a b (flat_map f (take i xs)) → Keeps b c → GetsFront (λ text. text ≡ flat_map f xs) a c
  front_of_all a b c front keeps =
      let so_far = flat_map f (take i xs) in
      let text = f x in
      let rest = flat_map f (drop (suc i) xs) in
      let taken : take (length so_far + 0) (flat_map f xs) ≡ so_far =
      ap (take (length so_far + 0)) parts ∙ take-append-add so_far (text ++ rest) 0 ∙ append-nil so_far in
      inr (flat_map f xs, refl, (length so_far + 0, subst (Appends a c) (sym taken) (Appends-kept a b c so_far front keeps)))

-- the texts of the first `at` items were written, and the count of faults is as it was
pub record HasWritten {X : Type 0} (f : X → List ℕ) (xs : List X) (at : ℕ) (before now : ℕ) (old new : Option (List ℕ)) : Type 0 where
  pub appended : Appends old new (flat_map f (take at xs))
  pub kept : now ≡ before

-- and their texts are UTF-8 where they are to be
pub record HasShown (Written Utf8 : Type 0) : Type 0 where
  pub written : Written
  pub utf8 : Utf8

none-utf8 : (shown : Shown) → AreUtf8 shown []
none-utf8 Plan = tt
none-utf8 Query = All-nil (λ block. IsUtf8 (text_of (rewritten block)))
none-utf8 Executed = tt

push-utf8 : (shown : Shown) (blocks : List Block) (block : Block) → AreUtf8 shown blocks → AreUtf8 shown (block ∷ []) → AreUtf8 shown (blocks ++ block ∷ [])
push-utf8 Plan blocks block are is = tt
push-utf8 Query blocks block are is =
    let P = λ (b : Block). IsUtf8 (text_of (rewritten b)) in All-push P blocks block are (All-head P block [] is)
push-utf8 Executed blocks block are is = tt

-- nothing was written yet
pub none_shown : (f : Block → List ℕ) (shown : Shown) (blocks : List Block) (faults : ℕ) (out : Option (List ℕ))
    → HasShown (HasWritten f blocks 0 faults faults out out) (AreUtf8 shown (take 0 blocks))
none_shown f shown blocks faults out = record {
  written = record { appended = Appends-nil out; kept = refl };
  utf8 = none-utf8 shown;
}

-- the text of one statement more
pub one_shown : (f : Block → List ℕ) (shown : Shown) (blocks : List Block) (at : ℕ) (block : Block) → get_or blocks at block ≡ block → at < length blocks
    → (before now later : ℕ) (old new out : Option (List ℕ)) → HasShown (HasWritten f blocks at before now old new) (AreUtf8 shown (take at blocks))
    → Appends new out (f block) → later ≡ now → AreUtf8 shown (block ∷ [])
    → HasShown (HasWritten f blocks (at + 1) before later old out) (AreUtf8 shown (take (at + 1) blocks))
one_shown f shown blocks at block item lt before now later old new out so_far appends same utf8 =
    let more : take (at + 1) blocks ≡ take at blocks ++ block ∷ [] = take_more blocks at block lt ∙ ap (λ b. take at blocks ++ b ∷ []) item in
    record {
      written = record {
        appended = subst (Appends old out)
            (sym (ap (flat_map f) more ∙ flat_map-append f (take at blocks) (block ∷ []) ∙ ap (λ xs. flat_map f (take at blocks) ++ xs) (append-nil (f block))))
            (Appends-trans old new out (flat_map f (take at blocks)) (f block) so_far.written.appended appends);
        kept = same ∙ so_far.written.kept;
      };
      utf8 = subst (AreUtf8 shown) (sym more) (push-utf8 shown (take at blocks) block so_far.utf8 utf8);
    }
