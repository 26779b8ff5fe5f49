use Rattle.std.proofs.Common.{◌≡◌, ◌∙◌, ◌-◌, ◌^◌, not, nat_lt, rules, ◌&&◌}
use Rattle.hk_num.specs.Numbers.{bvadd}
use Rattle.hk_term.specs.Shape.{width}
use Rattle.hk_term.specs.Meaning.{value}
use Rattle.hk_symvalue.specs.Meaning.{is_true, differ}
use Rattle.hk_symvalue.proofs.SignLaws.{sum_signs}
use Rattle.hk_symvalue.proofs.overflow.sum_overflows.Goals as goal

pub returns-clause-value : goal.returns-clause-value
returns-clause-value c = λ v.
    let w = width c.args.t.now c.args.a in
    let a = value c.args.t.now c.args.a v in
    let b = value c.args.t.now c.args.b v in
    let first : is_true c.is_negative-3.new.t c.in_ok-x.x v ≡ not (nat_lt a (2 ^ (w - 1))) = search rules in
    let second : is_true c.is_negative-3.new.t c.in_ok-y.y v ≡ not (nat_lt b (2 ^ (w - 1))) = search rules in
    let third : is_true c.is_negative-3.new.t c.in_ok-z.z v ≡ not (nat_lt (bvadd w a b) (2 ^ (w - 1))) = search rules in
    let whole : is_true c.and.new.t c.in_ok-over.over v ≡ (not (differ (is_true c.is_negative-3.new.t c.in_ok-x.x v) (is_true c.is_negative-3.new.t c.in_ok-y.y v)) && differ (is_true c.is_negative-3.new.t c.in_ok-x.x v) (is_true c.is_negative-3.new.t c.in_ok-z.z v)) = search rules in
    whole ∙ sum_signs w a b _ _ _ first second third (search rules) (search rules) (search rules)
