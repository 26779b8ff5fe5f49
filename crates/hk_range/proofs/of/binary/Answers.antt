use Rattle.hk_range.proofs.of.binary.Goals as goal

pub returns-in-Concat : goal.returns-in-Concat
returns-in-Concat c = rw c.in-Concat.is (λ a b below p q any. c.concatenation.ensures a b p q any)
