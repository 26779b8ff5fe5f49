use Rattle.std.proofs.Common.{◌+◌, None, [], ◌∷◌, ◌++◌, sym, subst, take}
use Rattle.hk_symstep.specs.Files.{IsFile, IsWithin, registers_of}
use Rattle.ir_machine.specs.Step.{argument_registers, unset}
use Rattle.hk_symmem.specs.Guarded.{memory_at}
use Rattle.hk_symexec.proofs.PhiLaws.{take_next}
use Rattle.hk_symexec.proofs.Calling.{Passing, passing_on, file_push, unset_on}
use Rattle.hk_symexec.proofs.calls.first_file.Goals as goal

pub loop-argument-preserved : goal.loop-argument-preserved
loop-argument-preserved g c =
    subst (λ l. Passing c.args.t.now c.operand.new.t c.args.file.now c.args.memory.now (take (c.loop-argument.argument-index + 1) c.args.arguments.now) l) (sym c.in_ok-push.ensures.items)
    (subst (λ is. Passing c.args.t.now c.operand.new.t c.args.file.now c.args.memory.now is (c.loop-argument.places.items ++ c.argument_held.result ∷ []))
    (sym (take_next c.args.arguments.now c.loop-argument.argument-index c.argument-item.result c.loop-argument-test.true c.argument-item.is))
    (passing_on c.args.t.now c.loop-argument.t c.operand.new.t c.args.file.now c.args.memory.now (take c.loop-argument.argument-index c.args.arguments.now) c.argument-item.result c.loop-argument.places.items c.in_ok-value.value c.argument_held.result
    c.loop-argument.invariant c.requires.file c.requires.over c.operand.ensures.frame (c.argument_held.ensures.within c.operand.new.t c.in_ok-value.ensures.within)
    (λ v. c.argument_held.ensures.meaning c.operand.new.t v) (λ v rs x w q. c.in_ok-value.ensures.covered v rs x w q)))

pub loop-preserved : goal.loop-preserved
loop-preserved g c = (
  subst (IsFile c.loop-argument.t) (sym c.in_ok-push-2.ensures.items) (file_push c.loop-argument.t c.loop.places.items None c.loop.invariant.0 tt),
  λ v rs w. subst (λ l. IsWithin (argument_registers (memory_at c.args.t.now c.args.memory.now v) rs c.args.arguments.now ++ unset (c.loop.counter + 1)) (registers_of c.loop-argument.t v l)) (sym c.in_ok-push-2.ensures.items)
      (unset_on c.loop-argument.t v (argument_registers (memory_at c.args.t.now c.args.memory.now v) rs c.args.arguments.now) c.loop.counter c.loop.places.items (c.loop.invariant.1 v rs w)),
)
