use Rattle.std.proofs.Common.{true, false, cond}
use Rattle.hk_range.specs.Ranges.{InRange}
use Rattle.hk_range.proofs.range.choice.Goals as goal

pub returns : goal.returns
returns c = λ b m n p q any.
    c.meet.ensures (cond b m n) any
    (elim b as (λ t. InRange c.hull-both.result (cond t m n)) [ true ↦ c.hull-both.ensures.first m p | false ↦ c.hull-both.ensures.second n q ])
