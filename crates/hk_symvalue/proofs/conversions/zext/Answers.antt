use Rattle.std.proofs.Common.{◌≡◌, ◌||◌, ◌&&◌, false, rules}
use Rattle.hk_num.specs.Numbers.{bvslt}
use Rattle.hk_term.specs.Shape.{width}
use Rattle.hk_term.specs.Meaning.{value}
use Rattle.hk_symvalue.specs.Meaning.{is_true, meaning}
use Rattle.hk_symvalue.specs.Rows.{flagged}
use Rattle.hk_symvalue.proofs.ValueLaws.{padded}
use Rattle.hk_symvalue.proofs.conversions.zext.Goals as goal

pub returns-clause-answers : goal.returns-clause-answers
returns-clause-answers c = λ v.
    let old = c.args.t.now in
    let w = width old c.args.a.bits in
    let x = value old c.args.a.bits v in
    let shows : meaning c.number_of.new.t c.in_ok-value.value v ≡ flagged ((is_true old c.args.a.poison v || (c.args.flags.nneg && bvslt w x 0)) || false) x = search rules in
    padded c.args.flags w c.args.to x _ _ shows
