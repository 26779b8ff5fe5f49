use Rattle.std.proofs.Common.{◌≡◌, ◌||◌, false, rules}
use Rattle.hk_num.specs.Numbers.{sign_extend}
use Rattle.hk_term.specs.Shape.{width}
use Rattle.hk_term.specs.Meaning.{value}
use Rattle.hk_symvalue.specs.Meaning.{is_true, meaning}
use Rattle.hk_symvalue.specs.Rows.{flagged}
use Rattle.hk_symvalue.proofs.ValueLaws.{extended}
use Rattle.hk_symvalue.proofs.conversions.sext.Goals as goal

pub returns-clause-answers : goal.returns-clause-answers
returns-clause-answers c = λ v.
    let old = c.args.t.now in
    let x = value old c.args.a.bits v in
    let shows : meaning c.number_of.new.t c.in_ok-value.value v ≡ flagged ((is_true old c.args.a.poison v || false) || false) (sign_extend (width old c.args.a.bits) c.args.to x) = search rules in
    extended c.args.flags (width old c.args.a.bits) c.args.to x _ _ shows
