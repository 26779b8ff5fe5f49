use Rattle.std.proofs.Common.{ℕ}
use Rattle.hk_term.specs.Meaning.{value}
use Rattle.hk_range.specs.Linear.{left_of, right_of, numbers}
use Rattle.hk_range.proofs.AnswerLaws.{found_along}
use Rattle.hk_range.proofs.SplitLaws.{balance_equal}
use Rattle.hk_range.proofs.decide.equal.Goals as goal

pub returns-clause-found : goal.returns-clause-found
returns-clause-found c = λ v k.
    let f : ℕ → ℕ = numbers c.args.t.now v in
    let s = c.in_ok-s.s in
    found_along f c.args.out.now.items c.solve.new.out.items (left_of f s) (right_of f s) (value c.args.t.now c.args.a v) (value c.args.t.now c.args.b v) c.in_ok-found.found
    (balance_equal (left_of f s) (right_of f s) (value c.args.t.now c.args.a v) (value c.args.t.now c.args.b v) (c.in_ok-s.ensures.sums v k)) (c.in_ok-found.ensures.found v k)
