use Rattle.std.proofs.Common.{◌≡◌, ◌*◌, ◌%◌, ◌^◌, ap, ◌∙◌, sym}
use Rattle.std.proofs.Math.Nat.{mul_comm}
use Rattle.hk_term.specs.Shape.{width}
use Rattle.hk_term.specs.Meaning.{value}
use Rattle.hk_range.proofs.FormLaws.{one_shifted}
use Rattle.hk_range.proofs.parts.shift_parts.Goals as goal

pub returns-in-Some : goal.returns-in-Some
returns-in-Some c = λ a h.
    let x = value c.args.t.now c.args.x in
    let n = c.in-Some.n in
    c.multiple.ensures a
    (λ v.
    h v
    ∙ ap (λ k. (x v * 2 ^ k) % 2 ^ width c.args.t.now c.args.x) (c.in-Some.ensures.known v)
    ∙ ap (λ k. k % 2 ^ width c.args.t.now c.args.x) (mul_comm (x v) (2 ^ n))
    ∙ ap (λ m. (m * x v) % 2 ^ width c.args.t.now c.args.x) (sym (one_shifted n c.if-n-lt64.true))
    ∙ ap (λ w. (((1 * 2 ^ n) % 2 ^ 64) * x v) % 2 ^ w) (sym c.sized.ensures.width))
