use Rattle.std.proofs.Common.{◌≡◌, ◌||◌, ◌&&◌, rules}
use Rattle.hk_term.specs.Shape.{width}
use Rattle.hk_term.specs.Meaning.{value}
use Rattle.ir_value.specs.Numbers.{truth, holds, signs_differ}
use Rattle.hk_symvalue.specs.Meaning.{is_true, meaning}
use Rattle.hk_symvalue.specs.Rows.{flagged}
use Rattle.hk_symvalue.proofs.ValueLaws.{compare_answers}
use Rattle.hk_symvalue.proofs.compare.compare_of.Goals as goal

pub returns-clause-answers : goal.returns-clause-answers
returns-clause-answers c = λ v.
    let old = c.args.t.now in
    let w = width old c.args.a.bits in
    let x = value old c.args.a.bits v in
    let y = value old c.args.b.bits v in
    let pa = is_true old c.args.a.poison v in
    let pb = is_true old c.args.b.poison v in
    let told : is_true c.holds.new.t c.in_ok-bit.bit v ≡ holds c.args.predicate w x y = search rules in
    let bit : value c.holds.new.t c.in_ok-bit.bit v ≡ truth (is_true c.holds.new.t c.in_ok-bit.bit v) = search rules in
    let shows : meaning c.number_of.new.t c.in_ok-value.value v ≡ flagged ((pa || pb) || (c.args.samesign && signs_differ w x y)) (value c.holds.new.t c.in_ok-bit.bit v) = search rules in
    compare_answers c.args.samesign c.args.predicate w x y _ _ pa pb _ told bit shows
