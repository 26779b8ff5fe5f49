use Rattle.std.proofs.Common.{◌<◌, ◌^◌, subst}
use Rattle.hk_term.specs.Meaning.{value}
use Rattle.hk_symvalue.proofs.ValueLaws.{bit_number}
use Rattle.hk_symvalue.proofs.words.bit_of.Goals as goal

pub returns : goal.returns
returns c = λ v. bit_number _ _ c.requires.1 (subst (λ k. value c.args.t.now c.args.a v < 2 ^ k) c.sized-w.ensures.width (c.sized-w.ensures.below v))
