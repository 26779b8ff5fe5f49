use Rattle.hk_range.specs.Linear.{left_of, right_of, numbers}
use Rattle.hk_range.proofs.near.are_near.Goals as goal

pub returns-in-Some : goal.returns-in-Some
returns-in-Some c = λ yes v k.
    c.is_near.ensures yes (left_of (numbers c.args.t.now v) c.args.halves.now.lower) (right_of (numbers c.args.t.now v) c.args.halves.now.lower) (c.in-Some.ensures v k)
