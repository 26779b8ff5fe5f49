use Rattle.std.proofs.Common.{sym, subst, take}
use Rattle.hk_symvalue.specs.Meaning.{IsSym}
use Rattle.hk_symexec.specs.declared.phis.Phi.{Phi}
use Rattle.hk_symexec.proofs.PhiLaws.{Setting, setting_on, take_next}
use Rattle.hk_symexec.proofs.phis.set_all.Goals as goal

pub loop-phi-preserved : goal.loop-phi-preserved
loop-phi-preserved c =
    let within : IsSym c.args.t.now c.phi-item.result.value = subst (λ (p : Phi). IsSym c.args.t.now p.value) (sym c.phi-item.is) (c.requires.phis c.loop-phi.phi-index c.phi-item.result c.loop-phi-test.true) in
    subst (Setting c.args.t.now c.set.new.t c.args.condition c.args.file.now c.set.new.file) (sym (take_next c.args.phis.now c.loop-phi.phi-index c.phi-item.result c.loop-phi-test.true c.phi-item.is))
    (setting_on c.args.t.now c.loop-phi.t c.set.new.t c.args.condition c.args.file.now c.loop-phi.file c.set.new.file (take c.loop-phi.phi-index c.args.phis.now) c.phi-item.result
    c.loop-phi.invariant c.requires.condition within c.set.ensures.frame c.in_ok-set.ensures.within c.in_ok-set.ensures.here c.in_ok-set.ensures.away)
