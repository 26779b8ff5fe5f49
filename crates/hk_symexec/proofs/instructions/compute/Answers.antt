use Rattle.std.proofs.Common.{sym, subst}
use Rattle.ir_machine.specs.Values.{computed}
use Rattle.ir_walk.specs.Walk.{on_computed, walk_act}
use Rattle.hk_symmem.specs.Guarded.{memory_at}
use Rattle.hk_symstep.specs.Steps.{AnswersComputed}
use Rattle.hk_symexec.specs.Seen.{seen}
use Rattle.hk_symexec.proofs.Kept.{over_kept, memory_kept}
use Rattle.hk_symexec.proofs.PhiLaws.{covers_back}
use Rattle.hk_symexec.proofs.Following.{tracks_as}
use Rattle.hk_symexec.proofs.Leading.{computed_act}
use Rattle.hk_symexec.proofs.Carrying.{carried, memory_carried}
use Rattle.hk_symexec.proofs.instructions.compute.Goals as goal

pub returns-clause-tracks : goal.returns-clause-tracks
returns-clause-tracks g c = λ W f b v go e h.
    memory_carried c.computed.new.t c.settle.new.t c.in_ok-made.ensures.frame c.args.program.now f c.args.memory.now (over_kept c.args.t.now c.computed.new.t c.in_ok-given.ensures.frame c.args.memory.now c.requires.over) v go e (seen c.settle.new.t v c.in_ok-made.made)
    (c.in_ok-made.ensures.tracks c.args.program.now f v (memory_at c.computed.new.t c.args.memory.now v) go e (λ rs m. computed m c.args.program.now.objects rs c.args.step.now.act)
    (λ rs on. subst (λ k. AnswersComputed c.computed.new.t v c.in_ok-given.given (computed k c.args.program.now.objects rs c.args.step.now.act)) (sym (memory_kept c.args.t.now c.computed.new.t c.in_ok-given.ensures.frame c.args.memory.now c.requires.over v))
    (c.in_ok-given.ensures.answers v rs (covers_back c.args.t.now c.computed.new.t c.in_ok-given.ensures.frame c.args.x.file c.requires.state.file v rs on)))
    (carried c.args.t.now c.computed.new.t c.in_ok-given.ensures.frame c.args.program.now f c.args.memory.now c.requires.over v (λ rs m. on_computed c.args.step.now rs m go (computed m c.args.program.now.objects rs c.args.step.now.act)) e c.args.x c.requires.state
    (tracks_as c.args.program.now f (seen c.args.t.now v c.args.x) (memory_at c.args.t.now c.args.memory.now v) (λ rs m. walk_act W c.args.program.now f b c.args.step.now rs m go c.args.step.now.act)
    (λ rs m. on_computed c.args.step.now rs m go (computed m c.args.program.now.objects rs c.args.step.now.act)) e
    (λ rs on w fine. computed_act W c.args.program.now f b c.args.step.now rs (memory_at c.args.t.now c.args.memory.now v) go c.args.step.now.act c.requires.computed) h)))
