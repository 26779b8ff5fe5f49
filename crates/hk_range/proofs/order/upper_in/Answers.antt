use Rattle.std.proofs.Common.{◌≡◌, ℕ, ◌+◌, nat_lt, arith, ap, ◌∙◌}
use Rattle.hk_range.specs.Linear.{right_items, left_of, right_of, numbers}
use Rattle.hk_range.proofs.SplitLaws.{split_less}
use Rattle.hk_range.proofs.order.upper_in.Goals as goal

pub returns-clause-order : goal.returns-clause-order
returns-clause-order c = λ v k.
    let f : ℕ → ℕ = numbers c.args.t.now v in
    let h = c.args.halves in
    let more = c.in_ok-more.more in
    let law : nat_lt (left_of f h.upper) (right_of f h.upper + more) ≡ nat_lt (left_of f c.args.s.now) (right_of f c.args.s.now) =
    split_less h.factor (left_of f h.upper) (left_of f h.lower) (right_of f h.upper) (right_of f h.lower) (left_of f c.args.s.now) (right_of f c.args.s.now) more (c.requires.split f)
    (c.in_ok-more.ensures (left_of f h.lower) (right_of f h.lower) (c.in_ok-ends.ensures v k)) in
    let right : c.in_ok-right.right + right_items f h.upper.items.items ≡ right_of f h.upper + more = omega (arith, c.in_ok-right.ensures.1) in
    ap (λ r. nat_lt (left_of f h.upper) r) right ∙ law
