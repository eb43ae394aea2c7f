-- What was read after a value that is kept.
use Rattle.std.proofs.Common.{◌≡◌, List, [], ◌∷◌, ◌++◌, subst, Result, Ok, Err}
use Rattle.grammar_forms.specs.Reading.{Outcome}
use Rattle.prefsql_lexer.specs.declared.token.Token.{Token}
use Rattle.token_forms.specs.Reads.{Reads, IsPushed}
use Rattle.token_forms.specs.declared.cursor.Stop.{Stop}
use Rattle.token_forms.specs.declared.cursor.Stop.TheVariants.{Fault, Memory}

pub read_ok : {A : Type 0} (o : Outcome Token A) (r : Result A Stop) (rest : List Token) (v : A) → r ≡ Ok v → Reads o r rest → o ≡ Ok (v, rest)
read_ok o r rest v e reads = subst (λ z. Reads o z rest) e reads

pub read_err : {A : Type 0} (o : Outcome Token A) (r : Result A Stop) (rest : List Token) (stop : Stop) → r ≡ Err stop → Reads o r rest → Reads o (Err stop) rest
read_err o r rest stop e reads = subst (λ z. Reads o z rest) e reads

-- the item that a list was given
pub pushed_read : {A : Type 0} (o : Outcome Token A) (item : Result A Stop) (rest : List Token) (found list : List A) → IsPushed found item (Ok list) → Reads o item rest → (v : A) × (o ≡ Ok (v, rest)) × (list ≡ found ++ v ∷ [])
pushed_read o item rest found list p reads = (p.0, read_ok o item rest p.0 p.1 reads, p.2)

pub pushed_err : {A : Type 0} (o : Outcome Token A) (item : Result A Stop) (rest : List Token) (found : List A) (stop : Stop) → IsPushed found item (Err stop) → Reads o item rest → Reads o (Err stop) rest
pushed_err o item rest found Fault p reads = read_err o item rest Fault p reads
pushed_err o item rest found Memory p reads = tt
