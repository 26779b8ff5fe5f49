-- One level of a type.
use Rattle.std.proofs.Common.{◌≡◌, ℕ, zero, suc, ◌-◌, ◌<◌, None, List, refl, arith}
use Rattle.ir_lex.specs.Tok.{Tok}
use Rattle.ir_part.specs.Types.{type_within, type_step}

pub within_none : (ts : List Tok) → type_within 0 ts ≡ None
unfolding type_within
within_none ts = refl

pub within_step : (d : ℕ) (ts : List Tok) → 0 < d → type_within d ts ≡ type_step (type_within (d - 1)) ts
unfolding type_within
within_step zero ts h = absurd (omega (arith, h))
within_step (suc d) ts h = let e : suc d - 1 ≡ d = omega arith in rw e refl

pub ruleset type_steps = (within_none, within_step)
