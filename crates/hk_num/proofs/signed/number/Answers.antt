use Rattle.std.proofs.Common.{◌%◌, ◌^◌, ◌∙◌, ap}
use Rattle.hk_num.proofs.Readings.{number_word}
use Rattle.hk_num.proofs.signed.number.Goals as goal

pub returns : goal.returns
returns c =
    c.low.ensures ∙ ap (λ n. n % 2 ^ c.args.w) c.cast_unsigned.ensures ∙ number_word c.args.w c.args.z c.requires.within c.ranges.z.sfits
