use Rattle.std.proofs.Common.{◌≡◌, Some, sym, subst}
use Rattle.hk_term.specs.Meaning.{value}
use Rattle.ir_machine.specs.Step.{switch_to, case_of}
use Rattle.ir_walk.specs.Walk.{Behind, on_jump, on_target}
use Rattle.hk_symvalue.specs.Meaning.{is_true, meaning}
use Rattle.hk_symmem.specs.Guarded.{memory_at}
use Rattle.hk_symexec.specs.Seen.{seen}
use Rattle.hk_symexec.specs.Tracks.{Tracks}
use Rattle.hk_symexec.proofs.Following.{sticks}
use Rattle.hk_symexec.proofs.Carrying.{memory_carried}
use Rattle.hk_symexec.proofs.Leading.{switch_splits}
use Rattle.hk_symexec.proofs.leads.switch_on.Goals as goal

pub returns-clause-tracks : goal.returns-clause-tracks
returns-clause-tracks g c = λ v line go e h.
    let one : Behind = λ rs m. on_jump c.args.setting.now.program.now c.args.setting.now.function c.args.edges.now.from (case_of (value c.args.t.now c.args.on.bits v) c.args.edges.now.cases.now c.args.edges.now.default) rs m in
    let same : value c.stick.new.t c.args.on.bits v ≡ value c.args.t.now c.args.on.bits v = c.in_ok-known.ensures.frame.values c.args.on.bits c.requires.on.bits v in
    c.in_ok-made.ensures.tracks v go e
    (subst (λ n. Tracks c.args.setting.now.program.now c.args.setting.now.function (seen c.stick.new.t v c.in_ok-known.known) (memory_at c.stick.new.t c.args.memory.now v) (λ rs m. on_jump c.args.setting.now.program.now c.args.setting.now.function c.args.edges.now.from (case_of n c.args.edges.now.cases.now c.args.edges.now.default) rs m) e) (sym same)
    (memory_carried c.args.t.now c.stick.new.t c.in_ok-known.ensures.frame c.args.setting.now.program.now c.args.setting.now.function c.args.memory.now c.requires.over v one e (seen c.stick.new.t v c.in_ok-known.known)
    (subst (λ s. Tracks c.args.setting.now.program.now c.args.setting.now.function s (memory_at c.args.t.now c.args.memory.now v) one e) (sym (c.in_ok-known.ensures.seen v))
    (sticks c.args.setting.now.program.now c.args.setting.now.function (seen c.args.t.now v c.args.x) (memory_at c.args.t.now c.args.memory.now v)
    (λ rs m. on_target c.args.setting.now.program.now c.args.setting.now.function c.args.edges.now.from line rs m (switch_to (Some (meaning c.args.t.now c.args.on v)) c.args.edges.now.cases.now c.args.edges.now.default)) one e (is_true c.args.t.now c.args.on.poison v)
    (λ rs on w fine. switch_splits c.args.setting.now.program.now c.args.setting.now.function c.args.edges.now.from line rs (memory_at c.args.t.now c.args.memory.now v) c.args.edges.now.cases.now c.args.edges.now.default (is_true c.args.t.now c.args.on.poison v)
    (value c.args.t.now c.args.on.base v) (value c.args.t.now c.args.on.bits v) fine) h))))
