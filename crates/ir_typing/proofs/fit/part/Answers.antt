use Rattle.std.proofs.Common.{length, subst}
use Rattle.ir_whole.specs.Heads.{HeadFits}
use Rattle.ir_whole.specs.Numbers.{types_of}
use Rattle.ir_typing.proofs.Typing.{within_more}
use Rattle.ir_typing.proofs.fit.part.Goals as goal

pub returns-in-Struct-clause-within : goal.returns-in-Struct-clause-within
returns-in-Struct-clause-within c = within_more c.field.result c.args.at (length (types_of c.args.numbers.now)) c.requires.at
    (c.field.ensures.within c.args.at (subst (HeadFits c.args.at) c.in-Struct.is (c.head.ensures.parts c.requires.some)))

pub returns-in-Packed-clause-within : goal.returns-in-Packed-clause-within
returns-in-Packed-clause-within c = within_more c.field-in-Packed.result c.args.at (length (types_of c.args.numbers.now)) c.requires.at
    (c.field-in-Packed.ensures.within c.args.at (subst (HeadFits c.args.at) c.in-Packed.is (c.head.ensures.parts c.requires.some)))
