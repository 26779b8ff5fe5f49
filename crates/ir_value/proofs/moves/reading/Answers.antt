use Rattle.hk_num.proofs.Readings.{read_word}
use Rattle.ir_value.proofs.moves.reading.Goals as goal

pub returns : goal.returns
returns c =
    read_word c.args.w c.args.n c.cast_signed.result c.requires.width c.requires.within c.requires.first c.cast_signed.type_inv c.cast_signed.ensures
