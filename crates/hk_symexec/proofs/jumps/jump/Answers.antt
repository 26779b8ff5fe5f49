use Rattle.std.proofs.Common.{◌≡◌, Some, [], sym, ap, ◌∙◌, subst}
use Rattle.ir_machine.specs.Step.{staged}
use Rattle.hk_symmem.specs.Guarded.{memory_at}
use Rattle.hk_symexec.specs.Phis.{staged_meaning, phis_meaning}
use Rattle.hk_symexec.proofs.Leading.{jump_none, jump_follows}
use Rattle.hk_symexec.proofs.Carrying.{memory_carried}
use Rattle.hk_symexec.specs.Seen.{seen}
use Rattle.hk_symexec.proofs.Kept.{over_kept}
use Rattle.hk_symexec.proofs.jumps.jump.Goals as goal

pub returns-in-None-clause-tracks : goal.returns-in-None-clause-tracks
returns-in-None-clause-tracks g c = λ v go e h.
    jump_none c.args.setting.now.program.now c.args.setting.now.function c.args.edge.from c.args.edge.to c.args.t.now c.staged.new.t c.staged.new.t c.staged.ensures.frame c.args.memory.now c.requires.over v c.args.x c.args.x c.requires.state
    c.args.condition c.requires.condition go e
    (λ rs ps w q. subst (λ r. staged_meaning c.staged.new.t v r ≡ Some ps) c.in-None.is
    (c.in_ok-read.ensures.covered v rs ps w (subst (λ l. staged (memory_at c.args.t.now c.args.memory.now v) rs c.args.edge.from l [] ≡ Some ps) (sym c.steps_of-steps.ensures) q))) h

pub returns-in_ok-made-in-Some-clause-tracks : goal.returns-in_ok-made-in-Some-clause-tracks
returns-in_ok-made-in-Some-clause-tracks g c = λ v go e h.
    memory_carried c.staged.new.t c.leave.new.t c.in_ok-made-in-Some.ensures.frame c.args.setting.now.program.now c.args.setting.now.function c.args.memory.now (over_kept c.args.t.now c.staged.new.t c.staged.ensures.frame c.args.memory.now c.requires.over)
    v go e (seen c.leave.new.t v c.in_ok-made-in-Some.made)
    (jump_follows c.args.setting.now.program.now c.args.setting.now.function c.args.edge.from c.args.edge.to c.args.t.now c.staged.new.t c.leave.new.t c.staged.ensures.frame c.args.memory.now c.requires.over v c.args.x c.in_ok-made-in-Some.made c.requires.state
    c.args.condition c.requires.condition go e c.as_slice.result.now
    (λ rs ps w q. ap (λ l. Some (phis_meaning c.staged.new.t v l)) c.as_slice.ensures ∙ subst (λ r. staged_meaning c.staged.new.t v r ≡ Some ps) c.in-Some.is
    (c.in_ok-read.ensures.covered v rs ps w (subst (λ l. staged (memory_at c.args.t.now c.args.memory.now v) rs c.args.edge.from l [] ≡ Some ps) (sym c.steps_of-steps.ensures) q)))
    (c.in_ok-made-in-Some.ensures.seen v) (λ rs on w. c.in_ok-made-in-Some.ensures.here v rs on w) (λ rs off w. c.in_ok-made-in-Some.ensures.away v rs off w) h)
