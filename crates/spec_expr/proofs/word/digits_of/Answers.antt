use Rattle.std.proofs.Common.{◌+◌, ◌*◌, ◌<◌, ◌≤◌, ◌^◌, sym, subst, ◌∙◌}
use Rattle.spec_expr.proofs.Digits.{no_room, number_too_large}
use Rattle.spec_expr.proofs.word.digits_of.Goals as goal

pub returns-in-None : goal.returns-in-None
returns-in-None c =
    let large : 2 ^ 64 ≤ c.loop-byte.value * c.args.base + c.digit-digit.result = no_room (c.loop-byte.value * c.args.base + c.digit-digit.result) c.in-None.ensures in
    let small = subst (λ k. k < c.args.base) c.digit-digit.ensures.value c.if-digit-base.false in
    let over = subst (λ k. 2 ^ 64 ≤ c.loop-byte.value * c.args.base + k) c.digit-digit.ensures.value large in
    sym (number_too_large c.args.base c.loop-byte.value c.args.digits.now c.loop-byte.byte-index 0 c.requires c.loop-byte-test.true small over) ∙ c.loop-byte.invariant.value
