use Rattle.std.proofs.Common.{◌≤◌, ◌^◌, nat_lt, ap, sym, subst, ◌∙◌}
use Rattle.hk_term.specs.Shape.{width}
use Rattle.hk_term.specs.Meaning.{value}
use Rattle.hk_simplify.proofs.LimitLaws.{constant_limit, upper_limit, limit_room, upper_room}
use Rattle.hk_simplify.proofs.limits.limit_joined.Goals as goal

pub returns-in-Some-default-clause-limit : goal.returns-in-Some-default-clause-limit
returns-in-Some-default-clause-limit c = λ v.
    let p = c.parts_of-parts in
    constant_limit c.sized-u.result (width c.args.t.now c.args.y) (value c.args.t.now c.args.x v) (value c.args.t.now c.args.y v) (value c.args.t.now c.args.a v) c.args.n
    p.result.high p.result.low c.sized-u.ensures.width p.ensures.whole (c.requires.known v) c.in-Some-default.c c.limit_behind.result
    (c.in-Some-default.ensures.known v) (c.limit_behind.ensures.limit (value c.args.t.now c.args.y v) (c.sized-u.ensures.below v))

pub returns-in-None-Some-clause-number : goal.returns-in-None-Some-clause-number
returns-in-None-Some-clause-number c =
    let p = c.parts_of-parts in
    let below = upper_room (width c.args.t.now c.args.x) c.sized-u.result (width c.args.t.now c.args.y) (width c.args.t.now c.args.a) p.result.high p.result.low c.args.n c.sized-u.ensures.width c.requires.width p.ensures.whole c.requires.number in
    subst (λ m. m ≤ 2 ^ width c.args.t.now c.args.x) (sym c.limit_before.ensures) (limit_room c.in-None-Some.less p.result.high (2 ^ width c.args.t.now c.args.x) below)

pub returns-in-None-Some-clause-limit : goal.returns-in-None-Some-clause-limit
returns-in-None-Some-clause-limit c = λ v.
    let p = c.parts_of-parts in
    ap (λ m. nat_lt (value c.args.t.now c.args.x v) m) c.limit_before.ensures
    ∙ upper_limit c.sized-u.result (width c.args.t.now c.args.y) (value c.args.t.now c.args.x v) (value c.args.t.now c.args.y v) (value c.args.t.now c.args.a v) c.args.n
    p.result.high p.result.low c.sized-u.ensures.width p.ensures.whole (c.requires.known v) c.in-None-Some.less p.ensures.low (c.sized-u.ensures.below v) (c.in-None-Some.ensures' v)
