use Rattle.spec_kernel.proofs.StepLaws.{part_right}
use Rattle.spec_kernel.proofs.names.part_in.Goals as goal

pub returns-in-Some-clause-part : goal.returns-in-Some-clause-part
returns-in-Some-clause-part c =
    part_right c.args.shapes.now c.args.shape c.args.field c.in-Some.part c.offset_at.result c.part_at.result c.requires.shape c.in-Some.ensures.field c.offset_at.ensures c.part_at.ensures
