-- The bytes of pieces, one list of them after another.
use Rattle.std.proofs.Common.{◌≡◌, List, [], ◌∷◌, ◌++◌, refl, sym, ap, ◌∙◌, append_assoc}
use Rattle.sql_text.specs.Pieces.{Piece, piece_bytes, bytes_of}

pub bytes_append : (ps qs : List Piece) → bytes_of (ps ++ qs) ≡ bytes_of ps ++ bytes_of qs
bytes_append [] qs = refl
bytes_append (p ∷ ps) qs = ap (λ bs. piece_bytes p ++ bs) (bytes_append ps qs) ∙ sym (append_assoc (piece_bytes p) (bytes_of ps) (bytes_of qs))
