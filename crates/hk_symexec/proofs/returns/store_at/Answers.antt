use Rattle.std.proofs.Common.{Some, sym, ap, ◌∙◌, subst}
use Rattle.ir_machine.specs.Step.{stored}
use Rattle.ir_walk.specs.Walk.{on_store}
use Rattle.hk_symvalue.specs.Meaning.{is_true, meaning}
use Rattle.hk_symmem.specs.Guarded.{memory_at}
use Rattle.hk_symexec.specs.Seen.{seen}
use Rattle.hk_symexec.specs.Tracks.{Tracks}
use Rattle.hk_symexec.proofs.Kept.{seen_kept}
use Rattle.hk_symexec.proofs.Following.{writes}
use Rattle.hk_symexec.proofs.Carrying.{memory_carried}
use Rattle.hk_symexec.proofs.Leading.{store_splits}
use Rattle.hk_symexec.proofs.returns.store_at.Goals as goal

pub returns-clause-tracks : goal.returns-clause-tracks
returns-clause-tracks g c = λ P f v line go e h.
    let kept = seen_kept c.args.t.now c.store.new.t c.store.ensures.frame c.args.x c.requires.state v in
    memory_carried c.store.new.t c.stick.new.t c.in_ok-made.ensures.frame P f c.store.new.memory c.in_ok-stuck.ensures.over v go e (seen c.stick.new.t v c.in_ok-made.made)
    (subst (λ s. Tracks P f s (memory_at c.store.new.t c.store.new.memory v) go e) (sym (c.in_ok-made.ensures.seen v))
    (writes P f (seen c.store.new.t v c.args.x) (memory_at c.args.t.now c.args.memory.now v) (memory_at c.store.new.t c.store.new.memory v) (λ rs m. on_store line c.args.access.bytes rs m go (stored m c.args.setting.now.program.now.objects c.args.access.bytes c.args.access.align (Some (meaning c.args.t.now c.args.value v)) (Some (meaning c.args.t.now c.args.access.address v)))) go e (is_true c.store.new.t c.in_ok-stuck.stuck v)
    (λ off. c.in_ok-stuck.ensures.away v (sym (ap (λ s. s.guard) kept) ∙ off))
    (λ on rs w fine. store_splits line c.args.access.bytes rs (memory_at c.args.t.now c.args.memory.now v) (memory_at c.store.new.t c.store.new.memory v) go (is_true c.store.new.t c.in_ok-stuck.stuck v)
    (stored (memory_at c.args.t.now c.args.memory.now v) c.args.setting.now.program.now.objects c.args.access.bytes c.args.access.align (Some (meaning c.args.t.now c.args.value v)) (Some (meaning c.args.t.now c.args.access.address v)))
    (c.in_ok-stuck.ensures.here v (sym (ap (λ s. s.guard) kept) ∙ on)) fine)
    (subst (λ s. Tracks P f s (memory_at c.args.t.now c.args.memory.now v) (λ rs m. on_store line c.args.access.bytes rs m go (stored m c.args.setting.now.program.now.objects c.args.access.bytes c.args.access.align (Some (meaning c.args.t.now c.args.value v)) (Some (meaning c.args.t.now c.args.access.address v)))) e) (sym kept) h)))
