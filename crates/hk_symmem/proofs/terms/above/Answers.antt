use Rattle.std.proofs.Common.{◌+◌, ◌*◌, ◌^◌, ap, ◌∙◌}
use Rattle.hk_term.specs.Meaning.{value}
use Rattle.hk_symmem.proofs.Numbers.{bits_of_bytes}
use Rattle.hk_symmem.proofs.terms.above.Goals as goal

pub returns-clause-value : goal.returns-clause-value
returns-clause-value c = λ v.
    c.in_ok-made.ensures.value v
    ∙ ap (λ w. value c.args.t.now c.args.high v * 2 ^ w + value c.args.t.now c.args.low v) c.requires.size
    ∙ ap (λ q. value c.args.t.now c.args.high v * q + value c.args.t.now c.args.low v) (bits_of_bytes c.args.bytes)
