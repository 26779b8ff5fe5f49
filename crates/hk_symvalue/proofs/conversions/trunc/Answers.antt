use Rattle.std.proofs.Common.{◌≡◌, ◌||◌, ◌&&◌, ◌%◌, ◌^◌, ◌∙◌, not, nat_eq, false, rules}
use Rattle.hk_num.specs.Numbers.{sign_extend}
use Rattle.hk_term.specs.Shape.{width}
use Rattle.hk_term.specs.Meaning.{value}
use Rattle.hk_symvalue.specs.Meaning.{is_true}
use Rattle.hk_symvalue.specs.Rows.{flagged}
use Rattle.hk_symvalue.proofs.ValueLaws.{truncated, low_again}
use Rattle.hk_symvalue.proofs.conversions.trunc.Goals as goal

pub returns-clause-answers : goal.returns-clause-answers
returns-clause-answers c = λ v.
    let old = c.args.t.now in
    let mid = c.at_width.new.t in
    let a = c.args.a.bits in
    let bits = c.in_ok-bits.bits in
    let w = width old a in
    let to = c.args.to in
    let x = value old a v in
    let low = x % 2 ^ to in
    let nuw = c.args.flags.nuw in
    let nsw = c.args.flags.nsw in
    let low_is : value mid bits v ≡ low = search rules in
    let to_is : width mid bits ≡ to = search rules in
    let w_is : width mid a ≡ w = search rules in
    let x_is : value mid a v ≡ x = search rules in
    let done = c.excluded.new.t in
    let pa : is_true done c.args.a.poison v ≡ is_true old c.args.a.poison v = search rules in
    let never : is_true done c.in_ok-never.never v ≡ false = search rules in
    let low_after : value done bits v ≡ value mid bits v = search rules in
    let told = c.in_ok-excluded.ensures.value v ∙ (λ i. (nuw && not (nat_eq (low_is i % 2 ^ w_is i) (x_is i))) || (nsw && not (nat_eq (sign_extend (to_is i) (w_is i) (low_is i)) (x_is i)))) in
    truncated c.args.flags w to x _ _ (low_again w to x c.requires.narrower)
    (c.in_ok-value.ensures.value v ∙ (λ i. flagged ((pa i || told i) || never i) ((low_after ∙ low_is) i)))
