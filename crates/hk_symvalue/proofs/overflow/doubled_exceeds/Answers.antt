use Rattle.std.proofs.Common.{◌≡◌, ◌∙◌, ◌*◌, ◌^◌, ◌%◌, ◌<◌, subst, sym, rules}
use Rattle.hk_term.specs.Meaning.{value}
use Rattle.hk_symvalue.proofs.NumberLaws.{twice_wide, doubled}
use Rattle.hk_symvalue.proofs.overflow.doubled_exceeds.Goals as goal

pub number-requires-clause-number : goal.number-requires-clause-number
number-requires-clause-number c = twice_wide c.args.w c.args.most (subst (λ k. c.args.most < 2 ^ k) (sym c.requires.width) c.requires.most)

pub returns-clause-value : goal.returns-clause-value
returns-clause-value c = λ v.
    let first : value c.args.t.now c.args.a v < 2 ^ c.args.w = search rules in
    let second : value c.args.t.now c.args.b v < 2 ^ c.args.w = search rules in
    let limit : value c.number.new.t c.in_ok-limit.limit v ≡ c.args.most = search rules in
    let product : value c.number.new.t c.in_ok-product.product v ≡ (value c.args.t.now c.args.a v * value c.args.t.now c.args.b v) % 2 ^ (2 * c.args.w) = search rules in
    c.in_ok-over.ensures.value v ∙ doubled c.args.w _ _ _ _ _ first second limit product
