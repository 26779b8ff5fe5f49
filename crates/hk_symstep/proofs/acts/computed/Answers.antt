use Rattle.ir_machine.specs.Values as definition
use Rattle.hk_symmem.specs.Guarded.{memory_at}
use Rattle.hk_symstep.specs.Files.{registers_of}
use Rattle.hk_symstep.proofs.Covering.{answers, below}
use Rattle.hk_symstep.proofs.acts.computed.Goals as goal

pub returns-clause-answers : goal.returns-clause-answers
returns-clause-answers g c = λ v rs k.
    answers c.given.new.t v c.in_ok-made.made (definition.computed (memory_at c.args.t.now c.args.memory.now v) c.args.objects.now rs c.args.act.now) (definition.computed (memory_at c.args.t.now c.args.memory.now v) c.args.objects.now (registers_of c.args.t.now v c.args.file.now) c.args.act.now) (below (memory_at c.args.t.now c.args.memory.now v) rs (registers_of c.args.t.now v c.args.file.now) k c.args.objects.now c.args.act.now) (c.in_ok-made.ensures.answers v)
