use Rattle.ir_typing.proofs.Widths.{or_six}
use Rattle.ir_typing.proofs.intrinsics.with_overflow.Goals as goal

pub returns : goal.returns
returns c =
    or_six c.args.name.now _ _ _ _ _ _ c.at_word.result c.at_word-2.result c.at_word-3.result c.at_word-4.result c.at_word-5.result c.at_word-6.result
    c.or.result c.or-2.result c.or-3.result c.or-4.result c.or-5.result
    c.at_word.ensures c.at_word-2.ensures c.at_word-3.ensures c.at_word-4.ensures c.at_word-5.ensures c.at_word-6.ensures
    c.or.ensures c.or-2.ensures c.or-3.ensures c.or-4.ensures c.or-5.ensures
