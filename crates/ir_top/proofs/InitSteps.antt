-- One level of an initialiser, and its parts.
use Rattle.std.proofs.Common.{◌≡◌, ℕ, zero, suc, ◌-◌, ◌<◌, None, List, [], ◌∷◌, refl, ap, arith}
use Rattle.ir_ast.specs.Plain.{init_and}
use Rattle.ir_ast.specs.View.{view_type, view_init, view_inits}
use Rattle.ir_ast.specs.declared.types.IrType.{IrType}
use Rattle.ir_ast.specs.declared.global.Init.{Init}
use Rattle.ir_lex.specs.Tok.{Tok}
use Rattle.ir_top.specs.Inits.{init_within, init_step, inits_from, view_pairs}

pub within_none : (ts : List Tok) → init_within 0 ts ≡ None
unfolding init_within
within_none ts = refl

pub within_step : (d : ℕ) (ts : List Tok) → 0 < d → init_within d ts ≡ init_step (init_within (d - 1)) ts
unfolding init_within
within_step zero ts h = absurd (omega (arith, h))
within_step (suc d) ts h = let e : suc d - 1 ≡ d = omega arith in rw e refl

pub ruleset init_steps = (within_none, within_step)

-- the parts of the code as a list of pairs
pub inits_seen : (is : List (IrType × Init)) → view_inits is ≡ inits_from (view_pairs is)
inits_seen [] = refl
inits_seen (i ∷ is) = ap (λ others. init_and (view_type i.0) (view_init i.1) others) (inits_seen is)
