use Rattle.std.proofs.Common.{◌≡◌, ◌&&◌, nat_eq, unsigned_abs, rules}
use Rattle.hk_num.specs.Numbers.{signed_of}
use Rattle.hk_term.specs.Shape.{width}
use Rattle.hk_term.specs.Meaning.{value}
use Rattle.ir_value.specs.Numbers.{is_least}
use Rattle.hk_symvalue.specs.Meaning.{is_true}
use Rattle.hk_symvalue.proofs.PairLaws.{absolute_shown}
use Rattle.hk_symvalue.proofs.pairs.abs.Goals as goal

pub returns-clause-row : goal.returns-clause-row
returns-clause-row c = λ v.
    let w = width c.args.t.now c.args.a in
    let a = value c.args.t.now c.args.a v in
    let b = value c.args.t.now c.args.strict v in
    let poison : is_true c.and.new.t c.in_ok-poison.poison v ≡ (is_least w a && nat_eq b 1) = search rules in
    let bits : value c.and.new.t c.in_ok-bits.bits v ≡ unsigned_abs (signed_of w a) = search rules in
    absolute_shown w a b _ _ (search rules) (search rules) poison bits
