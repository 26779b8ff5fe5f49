use Rattle.std.proofs.Common.{ℕ}
use Rattle.std.proofs.lemmas.Result.{on_ok_weaker}
use Rattle.hk_term.specs.Meaning.{Reading, value}
use Rattle.hk_range.specs.Linear.{left_of, right_of, numbers}
use Rattle.hk_range.proofs.SumLaws.{times_law, linear_law, minus_law}
use Rattle.hk_range.proofs.sums.+gather.Goals as goal

pub returns-in-Some-clause-sums : goal.returns-in-Some-clause-sums
returns-in-Some-clause-sums t c =
    on_ok_weaker c.gather.result
    (λ h v k.
    let f : ℕ → ℕ = numbers c.args.t.now v in
    times_law (left_of f c.args.s.now) (right_of f c.args.s.now) (left_of f c.gather.new.s) (right_of f c.gather.new.s) c.in-Some.times.left c.in-Some.times.right c.args.l c.args.r c.in-Times.n
    (value c.args.t.now c.in-Times.x v) (value c.args.t.now c.args.a v) (h v k) c.in-Some.ensures.0 c.in-Some.ensures.1 (c.in-Times.ensures.1 v k))
    c.gather.ensures.sums

pub returns-in_ok-gather-in-Some-times_each-clause-sums : goal.returns-in_ok-gather-in-Some-times_each-clause-sums
returns-in_ok-gather-in-Some-times_each-clause-sums t c =
    on_ok_weaker c.gather-in-Some-times_each-2.result
    (λ h v k.
    let f : ℕ → ℕ = numbers c.args.t.now v in
    linear_law (left_of f c.args.s.now) (right_of f c.args.s.now) (left_of f c.gather-in-Some-times_each.new.s) (right_of f c.gather-in-Some-times_each.new.s) (left_of f c.gather-in-Some-times_each-2.new.s)
    (right_of f c.gather-in-Some-times_each-2.new.s) c.in-Some-times_each.times.left c.in-Some-times_each.times.right c.args.l c.args.r c.in-Linear.n (value c.args.t.now c.in-Linear.x v)
    (value c.args.t.now c.in-Linear.y v) (value c.args.t.now c.args.a v) (c.in_ok-gather-in-Some-times_each.ensures.sums v k) (h v k) c.in-Some-times_each.ensures.0 c.in-Some-times_each.ensures.1
    (c.in-Linear.ensures.2 v k))
    c.gather-in-Some-times_each-2.ensures.sums

pub returns-in_ok-gather-in-Minus-clause-sums : goal.returns-in_ok-gather-in-Minus-clause-sums
returns-in_ok-gather-in-Minus-clause-sums t c =
    on_ok_weaker c.gather-in-Minus-2.result
    (λ h v k.
    let f : ℕ → ℕ = numbers c.args.t.now v in
    minus_law (left_of f c.args.s.now) (right_of f c.args.s.now) (left_of f c.gather-in-Minus.new.s) (right_of f c.gather-in-Minus.new.s) (left_of f c.gather-in-Minus-2.new.s)
    (right_of f c.gather-in-Minus-2.new.s) c.args.l c.args.r (value c.args.t.now c.in-Minus.x v) (value c.args.t.now c.in-Minus.y v) (value c.args.t.now c.args.a v)
    (c.in_ok-gather-in-Minus.ensures.sums v k) (h v k) (c.in-Minus.ensures.2 v k))
    c.gather-in-Minus-2.ensures.sums
