use Rattle.std.proofs.Common.{◌≡◌, ℕ, suc, ◌+◌, ◌-◌, ◌*◌, ◌/◌, ◌%◌, ◌^◌, ap, arith, ◌∙◌}
use Rattle.hk_term.specs.Meaning.{value}
use Rattle.hk_symmem.proofs.Numbers.{bits_of_bytes}
use Rattle.hk_symmem.proofs.terms.byte_of.Goals as goal

eight : (b : ℕ) → suc (8 * b + 7) - 8 * b ≡ 8
eight b = omega arith

pub returns-clause-value : goal.returns-clause-value
returns-clause-value c = λ v.
    c.in_ok-made.ensures.value v
    ∙ ap (λ w. value c.args.t.now c.args.a v / 2 ^ (8 * c.args.byte) % 2 ^ w) (eight c.args.byte)
    ∙ ap (λ q. value c.args.t.now c.args.a v / q % 256) (bits_of_bytes c.args.byte)
