-- One draw after the other.
use Rattle.std.proofs.Common.{◌≡◌, ℕ, suc, ◌+◌, ◌*◌, add-one, ap, refl, ◌∙◌, arith}
use Rattle.prefsql_bench.specs.Draws.{first_state, next_state, state_after}

pub state_after_none : state_after 0 ≡ first_state
unfolding state_after
state_after_none = refl

state_after-suc : (draws : ℕ) → state_after (suc draws) ≡ next_state (state_after draws)
unfolding state_after
state_after-suc draws = refl

-- one draw more
pub state_after_more : (draws more : ℕ) → more ≡ draws + 1 → state_after more ≡ next_state (state_after draws)
state_after_more draws more is = ap state_after (is ∙ add-one draws) ∙ state_after-suc draws

-- the four draws of a row
pub state_after_row : (place : ℕ) → state_after (4 * (place + 1)) ≡ next_state (next_state (next_state (next_state (state_after (4 * place)))))
state_after_row place =
    state_after_more (4 * place + 3) (4 * (place + 1)) (omega arith)
    ∙ ap next_state (state_after_more (4 * place + 2) (4 * place + 3) (omega arith)
    ∙ ap next_state (state_after_more (4 * place + 1) (4 * place + 2) (omega arith)
    ∙ ap next_state (state_after_more (4 * place) (4 * place + 1) (omega arith))))
