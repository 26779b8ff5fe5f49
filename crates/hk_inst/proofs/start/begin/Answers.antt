use Rattle.std.proofs.Common.{subst}
use Rattle.hk_cnf.specs.Circuit.{Circuit}
use Rattle.hk_blast.specs.Blasted.{Words}
use Rattle.hk_inst.specs.Growing.{IsMade}
use Rattle.hk_inst.proofs.Beginning.{begun, started}
use Rattle.hk_inst.proofs.start.begin.Goals as goal

pub returns-clause-growing : goal.returns-clause-growing
returns-clause-growing c =
    started c.args.terms c.args.goal c.require.new.gates c.make.new.bits c.in_ok-first.first c.new.result.items c.new-2.result.items c.new-3.result.items c.new-4.result c.new-5.result.items
    c.new.ensures.items c.new-2.ensures.items c.new-3.ensures.items c.new-4.ensures c.new-5.ensures.items
    (begun c.args.terms c.args.goal c.make.new.gates c.require.new.gates c.make.new.bits c.in_ok-first.first c.len.ensures.fit c.len.ensures.distinct c.requires.goal c.in_ok-first.ensures
    (subst (λ (z : Circuit × Words). IsMade c.args.terms z.0 c.make.new.gates z.1 c.make.new.bits c.args.goal) (λ i. (c.new-gates.ensures i, c.new-bits.ensures i)) c.in_ok-make.ensures.made)
    c.in_ok-require.ensures.requiring)
