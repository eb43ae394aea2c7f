-- A piece that is moved from the front of some bytes to the front of others.
use Rattle.std.proofs.Common.{◌≡◌, ℕ, ◌+◌, List, ◌++◌, length, take, drop, sym}
use Rattle.std.proofs.lemmas.List.{take-append-drop, take_at, drop-drop}

pub moved_front : (bytes into moved : List ℕ) (at n : ℕ) → moved ≡ take n (drop at bytes) → length moved ≡ n
    → drop at bytes ≡ take n (moved ++ drop n into) ++ drop (at + n) bytes
moved_front bytes into moved at n is len =
    rw (take_at moved (drop n into) n len, is, ← drop-drop n at bytes) (sym (take-append-drop n (drop at bytes)))
