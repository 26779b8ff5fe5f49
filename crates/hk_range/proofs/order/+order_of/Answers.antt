use Rattle.std.proofs.Common.{◌≡◌, nat_lt, Option, IfSome, subst, ◌∙◌}
use Rattle.hk_term.specs.Meaning.{Reading}
use Rattle.hk_range.specs.Ranges.{Knows}
use Rattle.hk_range.specs.Linear.{left_of, right_of, numbers}
use Rattle.hk_range.specs.Answers.{order_true}
use Rattle.hk_range.specs.Splits.{IsOver}
use Rattle.hk_range.specs.declared.answers.Order.{Order}
use Rattle.hk_range.specs.declared.sums.Sums.{Sums}
use Rattle.hk_range.proofs.AnswerLaws.{if_some_weaker, if_ok_weaker}
use Rattle.hk_range.proofs.order.+order_of.Goals as goal

pub returns-in-Some-2-clause-order : goal.returns-in-Some-2-clause-order
returns-in-Some-2-clause-order t c =
    let nodes = c.args.t.now in
    let s = c.args.s.now in
    let over : (v : Reading) → Knows nodes c.args.known.now v → IsOver (numbers nodes v) s c.in-Some-2.upper =
    subst (λ o. IfSome o (λ (u : Sums). (v : Reading) → Knows nodes c.args.known.now v → IsOver (numbers nodes v) s u)) c.in-Some-2.is c.in_ok-upper.ensures.order in
    let P : Order → Type 0 = λ a.
    (v : Reading) → Knows nodes c.args.known.now v → order_true (numbers nodes v) a ≡ nat_lt (left_of (numbers nodes v) c.in-Some-2.upper) (right_of (numbers nodes v) c.in-Some-2.upper) in
    let Q : Order → Type 0 = λ a. (v : Reading) → Knows nodes c.args.known.now v → order_true (numbers nodes v) a ≡ nat_lt (left_of (numbers nodes v) s) (right_of (numbers nodes v) s) in
    if_ok_weaker c.order_of.result (λ (o : Option Order). IfSome o P) (λ (o : Option Order). IfSome o Q) (λ o h. if_some_weaker o P Q (λ a g v k. g v k ∙ over v k) h) c.order_of.ensures.order
