use Rattle.std.proofs.lemmas.Result.{on_ok_weaker}
use Rattle.hk_inst.specs.States.{asked_of}
use Rattle.hk_inst.proofs.StateSteps.{placed}
use Rattle.hk_inst.proofs.growth.place.Goals as goal

pub returns-clause-growing : goal.returns-clause-growing
returns-clause-growing c =
    on_ok_weaker c.make-made.result
    (λ m. placed (asked_of c.args.s.now) c.make-made.new.gates c.make-made.new.bits c.args.s.now.first c.args.s.now.next c.args.done (c.args.read, c.requires.entry.0) c.requires.node.0 c.requires.node.1 c.args.index c.requires.entry.1 c.requires.node.2 m c.requires.growing)
    c.make-made.ensures.made
