use Rattle.std.proofs.Common.{◌≡◌, ℕ, nat_lt}
use Rattle.hk_term.specs.Meaning.{Reading}
use Rattle.hk_range.specs.Ranges.{Knows}
use Rattle.hk_range.specs.Linear.{InEnds, left_of, right_of, numbers}
use Rattle.hk_range.specs.Answers.{order_true}
use Rattle.hk_range.specs.declared.answers.Order.{Order}
use Rattle.hk_range.proofs.AnswerLaws.{if_some_weaker}
use Rattle.hk_range.proofs.order.settled.Goals as goal

pub returns-clause-order : goal.returns-clause-order
returns-clause-order c =
    let t = c.args.t.now in
    let s = c.args.s.now in
    let P : Order → Type 0 = λ a. (f : ℕ → ℕ) (l r : ℕ) → InEnds c.in_ok-ends.ends l r → order_true f a ≡ nat_lt l r in
    let Q : Order → Type 0 = λ a. (v : Reading) → Knows t c.args.known.now v → order_true (numbers t v) a ≡ nat_lt (left_of (numbers t v) s) (right_of (numbers t v) s) in
    if_some_weaker c.told.result P Q (λ a h v k. h (numbers t v) (left_of (numbers t v) s) (right_of (numbers t v) s) (c.in_ok-ends.ensures v k)) c.told.ensures.order
