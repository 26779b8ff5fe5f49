use Rattle.std.proofs.Common.{refl, sym, subst}
use Rattle.ir_value.specs.declared.value.StuckReason.TheVariants as u
use Rattle.ir_machine.specs.declared.state.End.TheVariants.{Stuck}
use Rattle.ir_walk.specs.Walk.{Stops}
use Rattle.hk_symmem.specs.Guarded.{memory_at}
use Rattle.hk_symexec.specs.Seen.{seen}
use Rattle.hk_symexec.specs.Tracks.{Splits}
use Rattle.hk_symexec.proofs.Kept.{over_kept}
use Rattle.hk_symexec.proofs.Carrying.{carried, memory_carried}
use Rattle.hk_symexec.proofs.instructions.unreachable.Goals as goal

pub returns-clause-tracks : goal.returns-clause-tracks
returns-clause-tracks g c = λ P f v line go e h.
    memory_carried c.constant.new.t c.settle_passes.new.t c.in_ok-made.ensures.frame P f c.args.memory.now (over_kept c.args.t.now c.constant.new.t c.in_ok-always.ensures.frame c.args.memory.now c.requires.over) v go e (seen c.settle_passes.new.t v c.in_ok-made.made)
    (c.in_ok-made.ensures.tracks P f v (memory_at c.constant.new.t c.args.memory.now v) go (λ rs m. Stops (Stuck u.U4 line)) e
    (λ rs on fine. subst (λ b. Splits b (Stops (Stuck u.U4 line)) (go rs (memory_at c.constant.new.t c.args.memory.now v))) (sym (c.in_ok-always.ensures.value v)) (u.U4, line, refl))
    (carried c.args.t.now c.constant.new.t c.in_ok-always.ensures.frame P f c.args.memory.now c.requires.over v (λ rs m. Stops (Stuck u.U4 line)) e c.args.x c.requires.state h))
