use Rattle.std.proofs.Common.{◌∙◌}
use Rattle.hk_copy.specs.Copies.IsRead.{whole, cut}
use Rattle.hk_copy.proofs.variable.read_at.Goals as goal

pub returns-in_ok-read-clause-read : goal.returns-in_ok-read-clause-read
returns-in_ok-read-clause-read c = whole c.if-from-width.true c.in_ok-read.ensures.at

pub returns-in_ok-read-2-clause-read : goal.returns-in_ok-read-2-clause-read
returns-in_ok-read-2-clause-read c =
    cut c.cut-kind.result c.in_ok-whole.whole
    (c.in_ok-read-2.ensures.keeps_nodes c.in_ok-whole.whole c.in_ok-whole.ensures.within ∙ c.in_ok-whole.ensures.at)
    c.in_ok-read-2.ensures.at c.cut-kind.ensures.cut
