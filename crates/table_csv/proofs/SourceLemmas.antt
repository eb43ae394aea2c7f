-- One read of a record.
use Rattle.std.proofs.Common.{◌≡◌, ℕ, ◌+◌, subst, List, [], ◌∷◌, length, Bool, true, false, Some, None, refl, sym, ◌∙◌, ap, arith, add-one, inl, inr, Bor}
use Rattle.csv.proofs.ReadFacts.{rows-end, rows-more}
use Rattle.csv.specs.Machine.{Read, next_record, ends_at_end}
use Rattle.csv.specs.Reading.{Reached, ReadRecord, default_config, is_flexible, reader_config, reader_headers, reader_state, reader_trim, names_headers, records_from, strip_bom, took_first}
use Rattle.csv.specs.declared.parser.State.{State}
use Rattle.csv.specs.declared.parser.State.TheVariants as st
use Rattle.csv.specs.declared.reader.Reader.{Reader}
use Rattle.csv.specs.declared.reader.Trim.TheVariants as trim
use Rattle.table_csv.specs.FileTable.{file_records}
use Rattle.table_csv.specs.Source.{IsBetween, ReadsNext, bytes_left, records_after, records_left}
use Rattle.table_csv.proofs.RecordLemmas.{records_from-turns, takes_byte}

records_after-some : (s : State) (xs : List ℕ) (p : Read) → ends_at_end s ≡ false → next_record default_config s [] [] xs ≡ Some p → records_after s xs ≡ p.0 ∷ records_after p.1 p.2
unfolding records_from
records_after-some s xs p between is =
    let less = takes_byte s xs p between is in
    let turns = records_from-turns (length xs) (length p.2 + 1) p.1 p.2 less.between less.rest (omega arith) in
    rw (add-one (length xs), is) (ap (λ rows. p.0 ∷ rows) turns)

records_after-none : (s : State) (xs : List ℕ) → next_record default_config s [] [] xs ≡ None → records_after s xs ≡ []
unfolding records_from
records_after-none s xs is = rw (add-one (length xs), is) refl

left_is : (reader : Reader (Bor (List ℕ))) (s : State) (xs : List ℕ) → reader_state reader ≡ s → bytes_left reader ≡ Some xs → records_left reader ≡ records_after s xs
left_is reader s xs state source = rw (state, source) refl

-- what one read of csv does, in the words of the records that are left
pub read_next : (old new : Reader (Bor (List ℕ))) (found : Bool) (fields : List (List ℕ)) → IsBetween old → took_first new ≡ true
    → is_flexible new ≡ is_flexible old → ReadRecord (λ (bytes : Bor (List ℕ)). Some bytes.now) old new found fields → ReadsNext old new found fields
unfolding Reached
read_next old new true fields at first flexible read =
    let more = rows-more (λ (bytes : Bor (List ℕ)). Some bytes.now) old new fields default_config (reader_state old) at.bytes at.bytes [] at.config at.source (refl, refl) read in
    let p = more.2.0 in
    let less = takes_byte (reader_state old) at.bytes p at.state more.2.1 in
    let state : p.1 ≡ reader_state new = more.2.3.0 in
    let rest : p.2 ≡ more.0 = more.2.3.1 in
    let same : fields ≡ p.0 = more.2.2 in
    let P : State → Type 0 = λ s. ends_at_end s ≡ false in
    let after = left_is new p.1 p.2 (sym state) (more.1 ∙ ap (λ xs. Some xs) (sym rest)) in (
      record {
        trim = read.3 ∙ at.trim;
        ready = inl first;
        flexible = flexible ∙ at.flexible;
        config = read.2 ∙ at.config;
        state = subst P state less.between;
        bytes = more.0;
        source = more.1;
      },
      left_is old (reader_state old) at.bytes refl at.source ∙ records_after-some (reader_state old) at.bytes p at.state more.2.1
          ∙ ap (λ f. f ∷ records_after p.1 p.2) (sym same) ∙ ap (λ rows. fields ∷ rows) (sym after),
      omega (arith, ap length same, less.some),
    )
read_next old new false fields at first flexible read =
    let end = rows-end (λ (bytes : Bor (List ℕ)). Some bytes.now) old new fields default_config at.bytes at.config at.source read in
    rw at.source (records_after-none (reader_state old) at.bytes end)

-- a reader over a whole file
pub started : (reader : Reader (Bor (List ℕ))) (bytes : List ℕ) → reader_config reader ≡ default_config → names_headers reader ≡ false → reader_trim reader ≡ trim.None → reader_headers reader ≡ None → is_flexible reader ≡ true
    → reader_state reader ≡ st.StartRecord → bytes_left reader ≡ Some (strip_bom bytes) → IsBetween reader × (records_left reader ≡ file_records bytes)
started reader bytes config names trimmed headers flexible state source = (
  record {
    trim = trimmed;
    ready = inr (inr (names, headers));
    flexible = flexible;
    config = config;
    state = rw state refl;
    bytes = strip_bom bytes;
    source = source;
  },
  rw (state, source) refl,
)
