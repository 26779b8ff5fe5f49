use Rattle.std.proofs.Common.{◌≡◌, ◌%◌, ◌^◌, ◌||◌, nat_eq, if◌then◌else◌, rules}
use Rattle.hk_term.specs.Meaning.{value}
use Rattle.hk_symvalue.specs.Meaning.{is_true, meaning}
use Rattle.hk_symvalue.proofs.ValueLaws.{selected}
use Rattle.hk_symvalue.proofs.widths.select.Goals as goal

pub returns-clause-answers : goal.returns-clause-answers
returns-clause-answers c = λ v.
    let old = c.args.t.now in
    let bit : is_true c.at_width.new.t c.in_ok-condition.condition v ≡ nat_eq (value old c.args.c.bits v % 2 ^ 1) 1 = search rules in
    let merged : meaning c.choose.new.t c.in_ok-chosen.chosen v ≡ (if is_true c.at_width.new.t c.in_ok-condition.condition v then meaning old c.args.a v else meaning old c.args.b v) = search rules in
    let poison : is_true c.or.new.t c.in_ok-poison.poison v ≡ (is_true old c.args.c.poison v || is_true c.choose.new.t c.in_ok-chosen.chosen.poison v) = search rules in
    let base : value c.or.new.t c.in_ok-chosen.chosen.base v ≡ value c.choose.new.t c.in_ok-chosen.chosen.base v = search rules in
    let bits : value c.or.new.t c.in_ok-chosen.chosen.bits v ≡ value c.choose.new.t c.in_ok-chosen.chosen.bits v = search rules in
    selected _ (value old c.args.c.base v) _ _ _ _ _ _ _ _ _ _ bit merged poison base bits
