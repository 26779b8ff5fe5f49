use Rattle.std.proofs.Common.{◌≡◌, Some, subst}
use Rattle.ir_machine.specs.Values.{value_of}
use Rattle.ir_machine.specs.Step.{stored}
use Rattle.ir_walk.specs.Walk.{on_store}
use Rattle.hk_symvalue.specs.Meaning.{meaning}
use Rattle.hk_symmem.specs.Guarded.{memory_at}
use Rattle.hk_symstep.specs.Held.{value_meaning}
use Rattle.hk_symexec.specs.Seen.{seen}
use Rattle.hk_symexec.proofs.Following.{tracks_as}
use Rattle.hk_symexec.proofs.Carrying.{carried}
use Rattle.hk_symexec.proofs.Leading.{on_operand, off_operand}
use Rattle.hk_symexec.proofs.returns.store.Goals as goal

pub returns-in-None-clause-tracks : goal.returns-in-None-clause-tracks
returns-in-None-clause-tracks g c = λ P f v line go e h.
    carried c.args.t.now c.operand.new.t c.operand.ensures.frame P f c.args.memory.now c.requires.over v go e c.args.x c.requires.state
    (tracks_as P f (seen c.args.t.now v c.args.x) (memory_at c.args.t.now c.args.memory.now v) (λ rs m. on_store line c.args.access.now.bytes rs m go (stored m c.args.setting.now.program.now.objects c.args.access.now.bytes c.args.access.now.align (value_of m rs c.args.value.now) (value_of m rs c.args.access.now.address.now))) go e
    (λ rs on w fine. absurd (off_operand (λ o. on_store line c.args.access.now.bytes rs (memory_at c.args.t.now c.args.memory.now v) go (stored (memory_at c.args.t.now c.args.memory.now v) c.args.setting.now.program.now.objects c.args.access.now.bytes c.args.access.now.align o (value_of (memory_at c.args.t.now c.args.memory.now v) rs c.args.access.now.address.now))) (λ f. f) (value_of (memory_at c.args.t.now c.args.memory.now v) rs c.args.value.now)
    (λ x q. subst (λ r. value_meaning c.operand.new.t v r ≡ Some x) c.in-None.is (c.in_ok-read.ensures.covered v rs x w q)) fine)) h)

pub returns-in_ok-made-in-Some-clause-tracks : goal.returns-in_ok-made-in-Some-clause-tracks
returns-in_ok-made-in-Some-clause-tracks g c = λ P f v line go e h.
    c.in_ok-made-in-Some.ensures.tracks P f v line go e
    ((carried c.args.t.now c.operand.new.t c.operand.ensures.frame P f c.args.memory.now c.requires.over v (λ rs m. on_store line c.args.access.now.bytes rs m go (stored m c.args.setting.now.program.now.objects c.args.access.now.bytes c.args.access.now.align (Some (meaning c.operand.new.t c.in-Some.given v)) (value_of m rs c.args.access.now.address.now))) e c.args.x c.requires.state
    (tracks_as P f (seen c.args.t.now v c.args.x) (memory_at c.args.t.now c.args.memory.now v) (λ rs m. on_store line c.args.access.now.bytes rs m go (stored m c.args.setting.now.program.now.objects c.args.access.now.bytes c.args.access.now.align (value_of m rs c.args.value.now) (value_of m rs c.args.access.now.address.now))) (λ rs m. on_store line c.args.access.now.bytes rs m go (stored m c.args.setting.now.program.now.objects c.args.access.now.bytes c.args.access.now.align (Some (meaning c.operand.new.t c.in-Some.given v)) (value_of m rs c.args.access.now.address.now))) e
    (λ rs on w fine. on_operand (λ o. on_store line c.args.access.now.bytes rs (memory_at c.args.t.now c.args.memory.now v) go (stored (memory_at c.args.t.now c.args.memory.now v) c.args.setting.now.program.now.objects c.args.access.now.bytes c.args.access.now.align o (value_of (memory_at c.args.t.now c.args.memory.now v) rs c.args.access.now.address.now))) (λ f. f) (value_of (memory_at c.args.t.now c.args.memory.now v) rs c.args.value.now) (meaning c.operand.new.t c.in-Some.given v)
    (λ x q. subst (λ r. value_meaning c.operand.new.t v r ≡ Some x) c.in-Some.is (c.in_ok-read.ensures.covered v rs x w q)) fine) h)))
