use Rattle.std.proofs.Common.{◌≡◌, Some, subst}
use Rattle.ir_machine.specs.Values.{value_of}
use Rattle.ir_walk.specs.Walk.{on_value}
use Rattle.hk_symvalue.specs.Meaning.{meaning}
use Rattle.hk_symmem.specs.Guarded.{memory_at}
use Rattle.hk_symstep.specs.Held.{value_meaning}
use Rattle.hk_symexec.specs.Seen.{seen}
use Rattle.hk_symexec.proofs.Kept.{over_kept}
use Rattle.hk_symexec.proofs.Following.{tracks_as}
use Rattle.hk_symexec.proofs.Carrying.{carried, memory_carried}
use Rattle.hk_symexec.proofs.Leading.{on_operand, off_operand}
use Rattle.hk_symexec.proofs.returns.return_value.Goals as goal

pub returns-in-None-clause-tracks : goal.returns-in-None-clause-tracks
returns-in-None-clause-tracks g c = λ P f v line go e h.
    carried c.args.t.now c.operand.new.t c.operand.ensures.frame P f c.args.memory.now c.requires.over v go e c.args.x c.requires.state
    (tracks_as P f (seen c.args.t.now v c.args.x) (memory_at c.args.t.now c.args.memory.now v) (λ rs m. on_value line m (value_of m rs c.args.value.now)) go e
    (λ rs on w fine. absurd (off_operand (λ o. on_value line (memory_at c.args.t.now c.args.memory.now v) o) (λ f. f) (value_of (memory_at c.args.t.now c.args.memory.now v) rs c.args.value.now)
    (λ x q. subst (λ r. value_meaning c.operand.new.t v r ≡ Some x) c.in-None.is (c.in_ok-read.ensures.covered v rs x w q)) fine)) h)

pub returns-in_ok-made-in-Some-clause-tracks : goal.returns-in_ok-made-in-Some-clause-tracks
returns-in_ok-made-in-Some-clause-tracks g c = λ P f v line go e h.
    memory_carried c.operand.new.t c.return_on.new.t c.in_ok-made-in-Some.ensures.frame P f c.args.memory.now (over_kept c.args.t.now c.operand.new.t c.operand.ensures.frame c.args.memory.now c.requires.over) v go e (seen c.return_on.new.t v c.in_ok-made-in-Some.made)
    (c.in_ok-made-in-Some.ensures.tracks P f v (memory_at c.operand.new.t c.args.memory.now v) line go e
    (carried c.args.t.now c.operand.new.t c.operand.ensures.frame P f c.args.memory.now c.requires.over v (λ rs m. on_value line m (Some (meaning c.operand.new.t c.in-Some.given v))) e c.args.x c.requires.state
    (tracks_as P f (seen c.args.t.now v c.args.x) (memory_at c.args.t.now c.args.memory.now v) (λ rs m. on_value line m (value_of m rs c.args.value.now)) (λ rs m. on_value line m (Some (meaning c.operand.new.t c.in-Some.given v))) e
    (λ rs on w fine. on_operand (λ o. on_value line (memory_at c.args.t.now c.args.memory.now v) o) (λ f. f) (value_of (memory_at c.args.t.now c.args.memory.now v) rs c.args.value.now) (meaning c.operand.new.t c.in-Some.given v)
    (λ x q. subst (λ r. value_meaning c.operand.new.t v r ≡ Some x) c.in-Some.is (c.in_ok-read.ensures.covered v rs x w q)) fine) h)))
