use Rattle.std.proofs.Common.{◌≡◌, ◌%◌, ◌^◌, false, rules}
use Rattle.hk_term.specs.Shape.{width}
use Rattle.hk_term.specs.Meaning.{value}
use Rattle.ir_value.specs.Numbers.{compare_of}
use Rattle.hk_symvalue.specs.Meaning.{is_true, meaning}
use Rattle.hk_symvalue.specs.Rows.{Answers, flagged}
use Rattle.hk_symvalue.proofs.ValueLaws.{row_of_two, moved}
use Rattle.hk_symvalue.proofs.compare.compare_at.Goals as goal

pub returns-clause-answers : goal.returns-clause-answers
returns-clause-answers c = λ v.
    let old = c.args.t.now in
    let last = c.at_width-2.new.t in
    let w = c.args.w in
    let first : value last c.in_ok-x.x v ≡ value old c.args.a.bits v % 2 ^ w = search rules in
    let second : value last c.in_ok-y.y v ≡ value old c.args.b.bits v % 2 ^ w = search rules in
    let wide : width last c.in_ok-x.x ≡ w = search rules in
    let pa : is_true last c.args.a.poison v ≡ is_true old c.args.a.poison v = search rules in
    let pb : is_true last c.args.b.poison v ≡ is_true old c.args.b.poison v = search rules in
    row_of_two _ _ (compare_of c.args.samesign c.args.predicate w) w w _ (value old c.args.a.base v) _ _ _ (value old c.args.b.base v) _ _ first second
    (moved (λ k p q. Answers false (meaning c.compare_of.new.t c.in_ok-made.made v) (compare_of c.args.samesign c.args.predicate k (flagged p (value last c.in_ok-x.x v)) (flagged q (value last c.in_ok-y.y v)))) _ _ _ _ _ _ wide pa pb (c.in_ok-made.ensures.answers v))
