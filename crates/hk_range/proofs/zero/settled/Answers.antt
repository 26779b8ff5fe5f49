use Rattle.std.proofs.Common.{ℕ, List}
use Rattle.hk_term.specs.Meaning.{Reading}
use Rattle.hk_range.specs.Ranges.{Knows}
use Rattle.hk_range.specs.Linear.{InEnds, left_of, right_of, numbers}
use Rattle.hk_range.specs.Answers.{IsFound}
use Rattle.hk_range.specs.declared.answers.Equation.{Equation}
use Rattle.hk_range.specs.declared.answers.Found.{Found}
use Rattle.hk_range.proofs.AnswerLaws.{if_some_weaker}
use Rattle.hk_range.proofs.zero.settled.Goals as goal

pub returns : goal.returns
returns c =
    let t = c.args.t.now in
    let s = c.args.s.now in
    let P : Found → Type 0 = λ a. (f : ℕ → ℕ) (out : List Equation) (l r : ℕ) → InEnds c.in_ok-ends.ends l r → IsFound f out out l r a in
    let Q : Found → Type 0 = λ a. (v : Reading) (out : List Equation) → Knows t c.args.known.now v → IsFound (numbers t v) out out (left_of (numbers t v) s) (right_of (numbers t v) s) a in
    if_some_weaker c.told.result P Q (λ a h v out k. h (numbers t v) out (left_of (numbers t v) s) (right_of (numbers t v) s) (c.in_ok-ends.ensures v k)) c.told.ensures
