use Rattle.std.proofs.Common.{◌≡◌, ◌-◌, ◌^◌, ◌%◌, ◌∙◌, not, nat_lt, rules}
use Rattle.hk_term.specs.Shape.{width}
use Rattle.hk_term.specs.Meaning.{value}
use Rattle.hk_symvalue.specs.Meaning.{is_true}
use Rattle.hk_symvalue.proofs.NumberLaws.{magnitude_is}
use Rattle.hk_symvalue.proofs.words.magnitude.Goals as goal

pub returns-clause-value : goal.returns-clause-value
returns-clause-value c = λ v.
    let w = width c.args.t.now c.args.a in
    let a = value c.args.t.now c.args.a v in
    let sign : is_true c.neg.new.t c.in_ok-sign.sign v ≡ not (nat_lt a (2 ^ (w - 1))) = search rules in
    let other : value c.neg.new.t c.in_ok-negated.negated v ≡ (2 ^ w - a) % 2 ^ w = search rules in
    let same : value c.neg.new.t c.args.a v ≡ a = search rules in
    c.in_ok-made.ensures.value v ∙ magnitude_is w a _ _ _ sign other same (search rules) (search rules)
