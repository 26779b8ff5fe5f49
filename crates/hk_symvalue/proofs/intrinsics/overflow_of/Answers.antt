use Rattle.std.proofs.Common.{◌≡◌, ◌||◌, ◌∙◌, ap, false, rules}
use Rattle.hk_term.specs.Shape.{width}
use Rattle.hk_term.specs.Meaning.{value}
use Rattle.ir_value.specs.Numbers.{truth}
use Rattle.ir_value.specs.Intrinsics.{wrapped, overflowed}
use Rattle.hk_symvalue.specs.Meaning.{is_true, meaning}
use Rattle.hk_symvalue.specs.Rows.{flagged}
use Rattle.hk_symvalue.proofs.ValueLaws.{overflow_answers}
use Rattle.hk_symvalue.proofs.intrinsics.overflow_of.Goals as goal

pub returns-clause-number : goal.returns-clause-number
returns-clause-number c = λ v.
    let old = c.args.t.now in
    let w = width old c.args.a.bits in
    let x = value old c.args.a.bits v in
    let y = value old c.args.b.bits v in
    let pa = is_true old c.args.a.poison v in
    let pb = is_true old c.args.b.poison v in
    let bits : value c.overflows.new.t c.in_ok-bits.bits v ≡ wrapped c.args.kind w x y = search rules in
    let shows : meaning c.number_of-2.new.t c.in_ok-number.number v ≡ flagged ((pa || pb) || false) (value c.overflows.new.t c.in_ok-bits.bits v) = search rules in
    overflow_answers c.args.kind c.args.signed w 0 x y _ pa pb _ bits shows

pub returns-clause-overflow : goal.returns-clause-overflow
returns-clause-overflow c = λ v.
    let old = c.args.t.now in
    let w = width old c.args.a.bits in
    let x = value old c.args.a.bits v in
    let y = value old c.args.b.bits v in
    let pa = is_true old c.args.a.poison v in
    let pb = is_true old c.args.b.poison v in
    let over : is_true c.overflows.new.t c.in_ok-over.over v ≡ overflowed c.args.kind c.args.signed w x y = search rules in
    let bit : value c.overflows.new.t c.in_ok-over.over v ≡ truth (is_true c.overflows.new.t c.in_ok-over.over v) = search rules in
    let shows : meaning c.number_of-2.new.t c.in_ok-overflow.overflow v ≡ flagged ((pa || pb) || false) (value c.overflows.new.t c.in_ok-over.over v) = search rules in
    overflow_answers c.args.kind c.args.signed w 1 x y _ pa pb _ (bit ∙ ap truth over) shows
