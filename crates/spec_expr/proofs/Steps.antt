-- The steps of readers: what stands behind a word, one level of brackets, one level of operators.
use Rattle.std.proofs.Common.{◌≡◌, ℕ, zero, suc, ◌+◌, ◌-◌, ◌<◌, Bool, true, false, Option, Some, None, List, [], ◌∷◌, length, refl, ap, ◌∙◌, arith}
use Rattle.std.specs.Prelude.{if◌then◌else◌, bytes_eq}
use Rattle.spec_ast.specs.Raw.{Tree}
use Rattle.spec_expr.specs.Words.{Text}
use Rattle.spec_expr.specs.Grown.{Grown}
use Rattle.spec_expr.specs.Reading.{Reader, after, past, level_at, chain_at, unary_at, whole_at, expr_at}
use Rattle.spec_expr.specs.Fronts.{behind, gone_on}

past_by : {B : Type 0} (ts : List Text) (on : List Text → Option B) (b : Bool) → (if b then on ts else None) ≡ gone_on (if b then Some ts else None) on
past_by ts on true = refl
past_by ts on false = refl

pub past_step : {B : Type 0} (word : Text) (ts : List Text) (on : List Text → Option B) → past word ts on ≡ gone_on (behind word ts) on
past_step word [] on = refl
past_step word (t ∷ ts) on = past_by ts on (bytes_eq t word)

pub ruleset front_steps = (past_step)

pub expr_none : (most : ℕ) (ts : List Text) → expr_at most 0 ts ≡ None
unfolding expr_at
expr_none most ts = refl

pub expr_step : (most n : ℕ) (ts : List Text) → 0 < n → expr_at most n ts ≡ whole_at most (expr_at most (n - 1)) ts
unfolding expr_at
expr_step most zero ts h = absurd (omega (arith, h))
expr_step most (suc n) ts h = let e : suc n - 1 ≡ n = omega arith in rw e refl

pub level_none : (most : ℕ) (inner : Reader (Grown Tree)) (ts : List Text) → level_at most inner 0 ts ≡ unary_at most inner ts
unfolding level_at
level_none most inner ts = refl

pub level_step : (most : ℕ) (inner : Reader (Grown Tree)) (loose : ℕ) (ts : List Text) → 0 < loose →
    level_at most inner loose ts ≡ after (level_at most inner (loose - 1) ts) (λ a rest. chain_at most (level_at most inner (loose - 1)) (loose - 1 + 1) (length rest) a rest)
unfolding level_at
level_step most inner zero ts h = absurd (omega (arith, h))
level_step most inner (suc loose) ts h = let e : suc loose - 1 ≡ loose = omega arith in let f : loose + 1 ≡ suc loose = omega arith in rw (e, f) refl

pub ruleset expr_steps = (past_step, expr_none, expr_step, level_none, level_step)
