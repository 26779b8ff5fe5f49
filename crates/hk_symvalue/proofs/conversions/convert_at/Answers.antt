use Rattle.std.proofs.Common.{◌≡◌, ◌%◌, ◌^◌, ◌&&◌, true, false, refl, rules}
use Rattle.hk_term.specs.Shape.{width}
use Rattle.hk_term.specs.Meaning.{value}
use Rattle.ir_value.specs.Numbers.{convert_of, is_width, is_narrower}
use Rattle.hk_symvalue.specs.Meaning.{is_true, meaning}
use Rattle.hk_symvalue.specs.Rows.{Answers, flagged}
use Rattle.hk_symvalue.proofs.ValueLaws.{row_of_one, moved}
use Rattle.hk_symvalue.proofs.conversions.convert_at.Goals as goal

pub returns-clause-answers : goal.returns-clause-answers
returns-clause-answers c = λ v.
    let old = c.args.t.now in
    let last = c.at_width.new.t in
    let w = c.args.from in
    let first : value last c.in_ok-x.x v ≡ value old c.args.a.bits v % 2 ^ w = search rules in
    let wide : width last c.in_ok-x.x ≡ w = search rules in
    let pa : is_true last c.args.a.poison v ≡ is_true old c.args.a.poison v = search rules in
    row_of_one _ (convert_of c.args.flags c.args.kind w c.args.to) (is_width w && is_width c.args.to) (is_narrower c.args.kind w c.args.to) w _ (value old c.args.a.base v) _ _ first
    (moved (λ k p q. Answers false (meaning c.converted.new.t c.in_ok-made.made v) (convert_of c.args.flags c.args.kind k c.args.to (flagged p (value last c.in_ok-x.x v)))) _ _ _ _ true true wide pa refl (c.in_ok-made.ensures.answers v))
