use Rattle.std.proofs.Common.{◌≡◌, ◌∙◌, ap, rules}
use Rattle.hk_term.specs.Meaning.{value}
use Rattle.hk_simplify.proofs.PartLaws.{joined_value}
use Rattle.hk_simplify.proofs.structure.concat_form.Goals as goal

pub returns-then-upper-lower-clause-value : goal.returns-then-upper-lower-clause-value
returns-then-upper-lower-clause-value c =
    let same : c.part_of-upper.result.of ≡ c.part_of-lower.result.of = search rules in
    λ v. c.bits_form.ensures.value v
    ∙ joined_value _ _ _ _ _ _ _ _ _ _ c.sized-w.ensures.width c.sized-u.ensures.width c.if-upper-lower.true
    (ap (λ k. value c.args.t.now k v) same) (c.part_of-upper.ensures.value v) (c.part_of-lower.ensures.value v)
