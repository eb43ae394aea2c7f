use Rattle.std.proofs.Common.{◌≡◌, ◌-◌, ◌==◌, ◌&&◌, ◌∷◌, Some, None, IfOk, if◌then◌else◌, refl, sym, ◌∙◌, subst, map, length, take, drop, get_or}
use Rattle.std.proofs.lemmas.List.{length-map}
use Rattle.std.specs.Str.{str_to_ascii_uppercase}
use Rattle.table_csv.specs.Header as spec
use Rattle.table_csv.proofs.WordsLemmas.{short_words, stated, two_words}
use Rattle.table_csv.proofs.header.column_in.Goals as goal

pub returns-in_default : goal.returns-in_default
returns-in_default c = rw (short_words c.in_ok-words.words.items (spec.words_in c.args.field.now) c.in_ok-words.ensures (rw c.as_slice.ensures.value at c.in_default.len_below)) refl

pub returns : goal.returns
returns c =
    let words = c.as_slice.result.now in
    let name = get_or words 0 _ in
    let kind = get_or words 1 _ in
    let ending = take (length words - 2) (drop 2 words) in
    let stands : IfOk c.column_of.result (λ column. column ≡ (if spec.is_name name.now && spec.is_type kind.now
    then Some (record { name = str_to_ascii_uppercase name.now; domain = spec.domain_of kind.now; nullable = c.is_empty.result }) else None)) = c.column_of.ensures in
    let these : map (λ word. word.now) words ≡ spec.words_in c.args.field.now = rw c.as_slice.ensures.value c.in_ok-words.ensures in
    let parts : spec.words_in c.args.field.now ≡ name.now ∷ kind.now ∷ map (λ word. word.now) ending = sym these ∙ two_words words _ c.in-len2-up.len_at_least in
    let flag : c.is_empty.result ≡ (length (map (λ word. word.now) ending) == 0) = rw length-map c.is_empty.ensures in
    let same = stated (spec.words_in c.args.field.now) name.now kind.now (map (λ word. word.now) ending) c.is_empty.result parts (sym c.is_ending.ensures ∙ c.if-not-is_ending.false) flag in
    subst (λ x. IfOk c.column_of.result (λ column. column ≡ x)) same stands
