use Rattle.std.proofs.Common.{sym, subst}
use Rattle.ir_machine.specs.Values.{value_of, held_at}
use Rattle.ir_machine.specs.Step.{slot_stored}
use Rattle.ir_walk.specs.Walk.{on_slot}
use Rattle.hk_symmem.specs.Guarded.{memory_at}
use Rattle.hk_symstep.specs.Steps.{AnswersComputed}
use Rattle.hk_symexec.specs.Seen.{seen}
use Rattle.hk_symexec.proofs.Kept.{over_kept, memory_kept}
use Rattle.hk_symexec.proofs.PhiLaws.{covers_back}
use Rattle.hk_symexec.proofs.Carrying.{carried, memory_carried}
use Rattle.hk_symexec.proofs.instructions.store_slot.Goals as goal

pub returns-clause-tracks : goal.returns-clause-tracks
returns-clause-tracks g c = λ P f v go e h.
    memory_carried c.stored_slot.new.t c.settle_slot.new.t c.in_ok-made.ensures.frame P f c.args.memory.now (over_kept c.args.t.now c.stored_slot.new.t c.in_ok-given.ensures.frame c.args.memory.now c.requires.over) v go e (seen c.settle_slot.new.t v c.in_ok-made.made)
    (c.in_ok-made.ensures.tracks P f v (memory_at c.stored_slot.new.t c.args.memory.now v) go e (λ rs m. slot_stored c.args.written.now.to.align (value_of m rs c.args.written.now.value.now) (held_at rs c.args.written.now.to.slot))
    (λ rs on. subst (λ k. AnswersComputed c.stored_slot.new.t v c.in_ok-given.given (slot_stored c.args.written.now.to.align (value_of k rs c.args.written.now.value.now) (held_at rs c.args.written.now.to.slot))) (sym (memory_kept c.args.t.now c.stored_slot.new.t c.in_ok-given.ensures.frame c.args.memory.now c.requires.over v))
    (c.in_ok-given.ensures.answers v rs (covers_back c.args.t.now c.stored_slot.new.t c.in_ok-given.ensures.frame c.args.x.file c.requires.state.file v rs on)))
    (carried c.args.t.now c.stored_slot.new.t c.in_ok-given.ensures.frame P f c.args.memory.now c.requires.over v (λ rs m. on_slot c.args.line c.args.written.now.to.slot rs m go (slot_stored c.args.written.now.to.align (value_of m rs c.args.written.now.value.now) (held_at rs c.args.written.now.to.slot))) e c.args.x c.requires.state h))
