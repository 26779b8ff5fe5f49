use Rattle.std.proofs.Common.{◌*◌, ◌%◌, ◌^◌, ap, ◌∙◌, sym}
use Rattle.std.proofs.Math.Nat.{mul_comm}
use Rattle.hk_term.specs.Shape.{width}
use Rattle.hk_term.specs.Meaning.{value}
use Rattle.hk_range.proofs.parts.product_parts.Goals as goal

pub returns-in_default-Some : goal.returns-in_default-Some
returns-in_default-Some c = λ a h.
    c.multiple.ensures a
    (λ v.
    h v
    ∙ ap (λ n. (value c.args.t.now c.args.x v * n) % 2 ^ width c.args.t.now c.args.x) (c.in_default-Some.ensures.known v)
    ∙ ap (λ n. n % 2 ^ width c.args.t.now c.args.x) (mul_comm (value c.args.t.now c.args.x v) c.in_default-Some.n)
    ∙ ap (λ w. (c.in_default-Some.n * value c.args.t.now c.args.x v) % 2 ^ w) (sym c.sized.ensures.width))

pub returns-in-Some-None : goal.returns-in-Some-None
returns-in-Some-None c = λ a h.
    c.multiple-in-Some-None.ensures a
    (λ v.
    h v
    ∙ ap (λ n. (n * value c.args.t.now c.args.y v) % 2 ^ width c.args.t.now c.args.x) (c.in-Some-None.ensures'.known v)
    ∙ ap (λ w. (c.in-Some-None.n * value c.args.t.now c.args.y v) % 2 ^ w) (sym c.sized-in-Some-None.ensures.width))
