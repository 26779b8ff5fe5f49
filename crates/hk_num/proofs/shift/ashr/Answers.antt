use Rattle.std.proofs.Common.{◌^◌, ◌∙◌, ap, pos}
use Rattle.std.specs.Int.{int_div_euclid}
use Rattle.hk_num.specs.Numbers.{number_of}
use Rattle.hk_num.proofs.Readings.{shift_word}
use Rattle.hk_num.proofs.shift.ashr.Goals as goal

pub returns : goal.returns
returns c =
    c.number.ensures
    ∙ ap (number_of c.args.w) (shift_word c.reading.result c.args.b c.min.result c.reading.type_inv c.min.ensures)
    ∙ ap (λ z. number_of c.args.w (int_div_euclid z (pos (2 ^ c.args.b)))) c.reading.ensures
