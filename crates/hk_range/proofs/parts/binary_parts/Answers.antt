use Rattle.hk_range.proofs.parts.binary_parts.Goals as goal

pub returns-in-Add : goal.returns-in-Add
returns-in-Add c = rw c.in-Add.is (λ a h. c.sum_parts.ensures a h)

pub returns-in-Sub : goal.returns-in-Sub
returns-in-Sub c = rw c.in-Sub.is (λ a h. c.difference_parts.ensures a h)

pub returns-in-Mul : goal.returns-in-Mul
returns-in-Mul c = rw c.in-Mul.is (λ a h. c.product_parts.ensures a h)

pub returns-in-Shl : goal.returns-in-Shl
returns-in-Shl c = rw c.in-Shl.is (λ a h. c.shift_parts.ensures a h)

pub returns-in-Concat : goal.returns-in-Concat
returns-in-Concat c = rw c.in-Concat.is (λ a h. c.joined_parts.ensures c.args.known.now a h)
