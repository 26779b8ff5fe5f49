use Rattle.std.proofs.Common.{◌%◌, ◌^◌, ap, subst, sym, ◌∙◌}
use Rattle.hk_term.specs.Facts.{Holds}
use Rattle.hk_term.specs.Operations.{binary_value}
use Rattle.hk_term.specs.Shape.{width}
use Rattle.hk_term.specs.Meaning.{value}
use Rattle.hk_symmem.proofs.Wholes.{first_multiple, second_multiple}
use Rattle.hk_symmem.proofs.multiples.+is_multiple.Goals as goal

pub is_multiple-returns-in-Binary : goal.is_multiple-returns-in-Binary
is_multiple-returns-in-Binary t c = λ true v.
    let h = subst (Holds c.args.t.now c.args.a) c.in-Binary.is c.node.ensures.holds in
    ap (λ n. n % c.args.s) (h.value_is v) ∙ c.is_multiple_of.ensures true v

pub is_multiple_of-returns-then-is_constant_multiple : goal.is_multiple_of-returns-then-is_constant_multiple
is_multiple_of-returns-then-is_constant_multiple t c = λ true v.
    ap (λ k. binary_value k (width c.args.t.now c.args.x) (width c.args.t.now c.args.y) (value c.args.t.now c.args.x v) (value c.args.t.now c.args.y v) % c.args.s) c.in-Mul.is
    ∙ first_multiple (width c.args.t.now c.args.x) (value c.args.t.now c.args.x v) (value c.args.t.now c.args.y v) c.args.s c.requires.s
    (sym c.width.ensures.width ∙ c.if-width-ne64.false) (c.is_constant_multiple.ensures true v)

pub is_multiple_of-returns-else-is_constant_multiple : goal.is_multiple_of-returns-else-is_constant_multiple
is_multiple_of-returns-else-is_constant_multiple t c = λ true v.
    ap (λ k. binary_value k (width c.args.t.now c.args.x) (width c.args.t.now c.args.y) (value c.args.t.now c.args.x v) (value c.args.t.now c.args.y v) % c.args.s) c.in-Mul.is
    ∙ second_multiple (width c.args.t.now c.args.x) (value c.args.t.now c.args.x v) (value c.args.t.now c.args.y v) c.args.s c.requires.s
    (sym c.width.ensures.width ∙ c.if-width-ne64.false) (c.is_constant_multiple-else-is_constant_multiple.ensures true v)

pub is_multiple_of-returns-in-Shl : goal.is_multiple_of-returns-in-Shl
is_multiple_of-returns-in-Shl t c = λ true v.
    ap (λ k. binary_value k (width c.args.t.now c.args.x) (width c.args.t.now c.args.y) (value c.args.t.now c.args.x v) (value c.args.t.now c.args.y v) % c.args.s) c.in-Shl.is
    ∙ second_multiple (width c.args.t.now c.args.x) (value c.args.t.now c.args.x v) (2 ^ value c.args.t.now c.args.y v) c.args.s c.requires.s
    (sym c.width.ensures.width ∙ c.if-width-ne64.false) (c.is_shift_to_multiples.ensures true v)
