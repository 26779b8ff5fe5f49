use Rattle.std.proofs.Common.{◌≡◌, ◌%◌, ◌^◌, ap, subst, ◌∙◌}
use Rattle.hk_term.specs.Operations.{binary_value, binary_width}
use Rattle.hk_term.specs.Shape.{width}
use Rattle.hk_term.specs.Meaning.{value}
use Rattle.hk_symmem.proofs.Wholes.{first_multiple, second_multiple}
use Rattle.hk_cells.proofs.multiples.+is_multiple.Goals as goal

pub is_operation-returns-then-is_constant-clause-multiple :
    goal.is_operation-returns-then-is_constant-clause-multiple
is_operation-returns-then-is_constant-clause-multiple t c = λ true v.
    ap (λ k. binary_value k (width c.args.t.now c.args.x) (width c.args.t.now c.args.y) (value c.args.t.now c.args.x v) (value c.args.t.now c.args.y v) % c.args.s) c.in-Mul.is
    ∙ first_multiple (width c.args.t.now c.args.x) (value c.args.t.now c.args.x v) (value c.args.t.now c.args.y v) c.args.s c.requires.s
    (subst (λ k. binary_width k (width c.args.t.now c.args.x) (width c.args.t.now c.args.y) ≡ 64) c.in-Mul.is c.requires.address) (c.is_constant.ensures.multiple true v)

pub is_operation-returns-else-is_constant-clause-multiple :
    goal.is_operation-returns-else-is_constant-clause-multiple
is_operation-returns-else-is_constant-clause-multiple t c = λ true v.
    ap (λ k. binary_value k (width c.args.t.now c.args.x) (width c.args.t.now c.args.y) (value c.args.t.now c.args.x v) (value c.args.t.now c.args.y v) % c.args.s) c.in-Mul.is
    ∙ second_multiple (width c.args.t.now c.args.x) (value c.args.t.now c.args.x v) (value c.args.t.now c.args.y v) c.args.s c.requires.s
    (subst (λ k. binary_width k (width c.args.t.now c.args.x) (width c.args.t.now c.args.y) ≡ 64) c.in-Mul.is c.requires.address) (c.is_constant-else-is_constant.ensures.multiple true v)

pub is_operation-returns-in-Shl-clause-multiple : goal.is_operation-returns-in-Shl-clause-multiple
is_operation-returns-in-Shl-clause-multiple t c = λ true v.
    ap (λ k. binary_value k (width c.args.t.now c.args.x) (width c.args.t.now c.args.y) (value c.args.t.now c.args.x v) (value c.args.t.now c.args.y v) % c.args.s) c.in-Shl.is
    ∙ second_multiple (width c.args.t.now c.args.x) (value c.args.t.now c.args.x v) (2 ^ value c.args.t.now c.args.y v) c.args.s c.requires.s
    (subst (λ k. binary_width k (width c.args.t.now c.args.x) (width c.args.t.now c.args.y) ≡ 64) c.in-Shl.is c.requires.address) (c.is_shift.ensures.multiple true v)
