use Rattle.hk_symmem.specs.Guarded.{memory_at}
use Rattle.hk_symstep.specs.Files.{registers_of}
use Rattle.hk_symexec.proofs.Ending.{begins_outside}
use Rattle.hk_symexec.proofs.whole.run_from.Goals as goal

pub returns-clause-rests : goal.returns-clause-rests
returns-clause-rests g c = λ v.
    c.in_ok-after.ensures.on v (registers_of c.args.t.now v c.args.file) (memory_at c.args.t.now c.args.memory.now v)
    (begins_outside c.args.setting.now.program.now c.args.setting.now.function c.args.t.now c.outside.new.t c.begin.new.t v c.args.code.now c.in_ok-caller.caller c.in_ok-begun.begun c.args.memory.now c.args.file c.len.result
    c.requires.there c.len.ensures c.in_ok-caller.ensures.frame c.in_ok-begun.ensures.frame c.requires.over c.requires.file (c.in_ok-caller.ensures.guard v) (c.in_ok-caller.ensures.stuck v) (c.in_ok-begun.ensures.seen v))
