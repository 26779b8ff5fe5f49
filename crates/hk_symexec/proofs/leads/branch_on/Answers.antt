use Rattle.std.proofs.Common.{◌≡◌, if◌then◌else◌, nat_eq, Some, sym, ap, ◌∙◌, subst}
use Rattle.hk_term.specs.Meaning.{value}
use Rattle.ir_machine.specs.Step.{branch_to}
use Rattle.ir_walk.specs.Walk.{Behind, on_jump, on_target}
use Rattle.hk_symvalue.specs.Meaning.{is_true, meaning}
use Rattle.hk_symmem.specs.Guarded.{IsOver, memory_at}
use Rattle.hk_symexec.specs.Seen.{seen}
use Rattle.hk_symexec.specs.Tracks.{Tracks}
use Rattle.hk_symexec.proofs.Kept.{over_kept}
use Rattle.hk_symexec.proofs.Following.{tracks_as, sticks}
use Rattle.hk_symexec.proofs.Carrying.{carried, memory_carried}
use Rattle.hk_symexec.proofs.Leading.{branch_splits}
use Rattle.hk_symexec.proofs.leads.branch_on.Goals as goal

pub returns-clause-tracks : goal.returns-clause-tracks
returns-clause-tracks g c = λ v line go e h.
    let first : IsOver c.stick.new.t c.args.memory.now = over_kept c.args.t.now c.stick.new.t c.in_ok-known.ensures.frame c.args.memory.now c.requires.over in
    let one : Behind = λ rs m. if nat_eq (value c.args.t.now c.args.condition.bits v) 0 then on_jump c.args.setting.now.program.now c.args.setting.now.function c.args.edges.from c.args.edges.no rs m else on_jump c.args.setting.now.program.now c.args.setting.now.function c.args.edges.from c.args.edges.yes rs m in
    let told : is_true c.equals.new.t c.in_ok-zero.zero v ≡ nat_eq (value c.args.t.now c.args.condition.bits v) 0 =
    c.in_ok-zero.ensures.value v ∙ ap (λ n. nat_eq n 0) (c.in_ok-known.ensures.frame.values c.args.condition.bits c.requires.condition.bits v) in
    c.in_ok-made.ensures.tracks v go e
    (c.in_ok-other.ensures.tracks v (λ rs m. on_jump c.args.setting.now.program.now c.args.setting.now.function c.args.edges.from c.args.edges.yes rs m) e
    (tracks_as c.args.setting.now.program.now c.args.setting.now.function (seen c.equals.new.t v c.in_ok-known.known) (memory_at c.equals.new.t c.args.memory.now v) one
    (λ rs m. if is_true c.equals.new.t c.in_ok-zero.zero v then on_jump c.args.setting.now.program.now c.args.setting.now.function c.args.edges.from c.args.edges.no rs m else on_jump c.args.setting.now.program.now c.args.setting.now.function c.args.edges.from c.args.edges.yes rs m) e
    (λ rs on w fine. ap (λ b. if b then on_jump c.args.setting.now.program.now c.args.setting.now.function c.args.edges.from c.args.edges.no rs (memory_at c.equals.new.t c.args.memory.now v) else on_jump c.args.setting.now.program.now c.args.setting.now.function c.args.edges.from c.args.edges.yes rs (memory_at c.equals.new.t c.args.memory.now v)) (sym told))
    (carried c.stick.new.t c.equals.new.t c.in_ok-zero.ensures.frame c.args.setting.now.program.now c.args.setting.now.function c.args.memory.now first v one e c.in_ok-known.known c.in_ok-known.ensures.within
    (memory_carried c.args.t.now c.stick.new.t c.in_ok-known.ensures.frame c.args.setting.now.program.now c.args.setting.now.function c.args.memory.now c.requires.over v one e (seen c.stick.new.t v c.in_ok-known.known)
    (subst (λ s. Tracks c.args.setting.now.program.now c.args.setting.now.function s (memory_at c.args.t.now c.args.memory.now v) one e) (sym (c.in_ok-known.ensures.seen v))
    (sticks c.args.setting.now.program.now c.args.setting.now.function (seen c.args.t.now v c.args.x) (memory_at c.args.t.now c.args.memory.now v)
    (λ rs m. on_target c.args.setting.now.program.now c.args.setting.now.function c.args.edges.from line rs m (branch_to (Some (meaning c.args.t.now c.args.condition v)) c.args.edges.yes c.args.edges.no)) one e (is_true c.args.t.now c.args.condition.poison v)
    (λ rs on w fine. branch_splits c.args.setting.now.program.now c.args.setting.now.function c.args.edges.from line rs (memory_at c.args.t.now c.args.memory.now v) c.args.edges.yes c.args.edges.no (is_true c.args.t.now c.args.condition.poison v)
    (value c.args.t.now c.args.condition.base v) (value c.args.t.now c.args.condition.bits v) fine) h))))))
