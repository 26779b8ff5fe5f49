use Rattle.ir_machine.specs.Values as definition
use Rattle.hk_symvalue.specs.Meaning.{is_true}
use Rattle.hk_symmem.specs.Guarded.{memory_at}
use Rattle.hk_symstep.specs.Files.{registers_of}
use Rattle.hk_symstep.proofs.Covering.{passes, arguments_below}
use Rattle.hk_symstep.proofs.arguments.passed.Goals as goal

pub returns-clause-answers : goal.returns-clause-answers
returns-clause-answers g c = λ v rs k.
    passes (is_true c.poisoned.new.t c.in_ok-stuck.stuck v) (definition.arguments_pass (memory_at c.args.t.now c.args.memory.now v) rs c.args.arguments.now) (definition.arguments_pass (memory_at c.args.t.now c.args.memory.now v) (registers_of c.args.t.now v c.args.file.now) c.args.arguments.now) (arguments_below (memory_at c.args.t.now c.args.memory.now v) rs (registers_of c.args.t.now v c.args.file.now) k c.args.arguments.now) (c.in_ok-stuck.ensures.answers v)
