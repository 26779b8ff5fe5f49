use Rattle.std.proofs.Common.{◌≡◌, Some, subst}
use Rattle.ir_machine.specs.Values.{value_of}
use Rattle.ir_machine.specs.Step.{switch_to}
use Rattle.ir_walk.specs.Walk.{Behind, on_target}
use Rattle.hk_symvalue.specs.Meaning.{meaning}
use Rattle.hk_symmem.specs.Guarded.{memory_at}
use Rattle.hk_symstep.specs.Held.{value_meaning}
use Rattle.hk_symexec.specs.Seen.{seen}
use Rattle.hk_symexec.proofs.Following.{tracks_as}
use Rattle.hk_symexec.proofs.Carrying.{carried}
use Rattle.hk_symexec.proofs.Leading.{on_operand, off_operand}
use Rattle.hk_symexec.proofs.leads.switch.Goals as goal

pub returns-in-None-clause-tracks : goal.returns-in-None-clause-tracks
returns-in-None-clause-tracks g c = λ v line go e h.
    carried c.args.t.now c.operand.new.t c.operand.ensures.frame c.args.setting.now.program.now c.args.setting.now.function c.args.memory.now c.requires.over v go e c.args.x c.requires.state
    (tracks_as c.args.setting.now.program.now c.args.setting.now.function (seen c.args.t.now v c.args.x) (memory_at c.args.t.now c.args.memory.now v) (λ rs m. on_target c.args.setting.now.program.now c.args.setting.now.function c.args.edges.now.from line rs m (switch_to (value_of m rs c.args.on.now) c.args.edges.now.cases.now c.args.edges.now.default)) go e
    (λ rs on w fine. absurd (off_operand (λ o. on_target c.args.setting.now.program.now c.args.setting.now.function c.args.edges.now.from line rs (memory_at c.args.t.now c.args.memory.now v) (switch_to o c.args.edges.now.cases.now c.args.edges.now.default)) (λ f. f) (value_of (memory_at c.args.t.now c.args.memory.now v) rs c.args.on.now)
    (λ x q. subst (λ r. value_meaning c.operand.new.t v r ≡ Some x) c.in-None.is (c.in_ok-read.ensures.covered v rs x w q)) fine)) h)

pub returns-in_ok-made-in-Some-clause-tracks : goal.returns-in_ok-made-in-Some-clause-tracks
returns-in_ok-made-in-Some-clause-tracks g c = λ v line go e h.
    let one : Behind = (λ rs m. on_target c.args.setting.now.program.now c.args.setting.now.function c.args.edges.now.from line rs m (switch_to (Some (meaning c.operand.new.t c.in-Some.given v)) c.args.edges.now.cases.now c.args.edges.now.default)) in
    c.in_ok-made-in-Some.ensures.tracks v line go e
    (carried c.args.t.now c.operand.new.t c.operand.ensures.frame c.args.setting.now.program.now c.args.setting.now.function c.args.memory.now c.requires.over v one e c.args.x c.requires.state
    (tracks_as c.args.setting.now.program.now c.args.setting.now.function (seen c.args.t.now v c.args.x) (memory_at c.args.t.now c.args.memory.now v) (λ rs m. on_target c.args.setting.now.program.now c.args.setting.now.function c.args.edges.now.from line rs m (switch_to (value_of m rs c.args.on.now) c.args.edges.now.cases.now c.args.edges.now.default)) one e
    (λ rs on w fine. on_operand (λ o. on_target c.args.setting.now.program.now c.args.setting.now.function c.args.edges.now.from line rs (memory_at c.args.t.now c.args.memory.now v) (switch_to o c.args.edges.now.cases.now c.args.edges.now.default)) (λ f. f) (value_of (memory_at c.args.t.now c.args.memory.now v) rs c.args.on.now) (meaning c.operand.new.t c.in-Some.given v)
    (λ x q. subst (λ r. value_meaning c.operand.new.t v r ≡ Some x) c.in-Some.is (c.in_ok-read.ensures.covered v rs x w q)) fine) h))
