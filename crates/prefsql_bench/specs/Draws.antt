-- The numbers that are drawn for the bench: a linear congruential generator with the multiplier and
-- the increment of Knuth's MMIX. That it starts with 42 and draws the upper 31 bits of a state is
-- this project's own.
use Rattle.std.specs.Prelude.{ℕ, zero, suc, ◌+◌, ◌*◌, ◌/◌, ◌%◌, ◌^◌}

abbrev pub first_state : ℕ
first_state = 42

abbrev pub next_state : ℕ → ℕ
next_state state = (state * 6364136223846793005 + 1442695040888963407) % 2 ^ 64

-- the state after so many draws
unfoldable pub state_after : ℕ → ℕ
state_after zero = first_state
state_after (suc draws) = next_state (state_after draws)

-- the number of a draw, where the first draw is draw 1
abbrev pub drawn : ℕ → ℕ
drawn draw = state_after draw / 2 ^ 33
