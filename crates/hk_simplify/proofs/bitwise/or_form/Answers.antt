use Rattle.std.proofs.Common.{◌∙◌, ◌-◌, ◌^◌}
use Rattle.hk_simplify.specs.Forms.{form_value}
use Rattle.std.proofs.Common.{◌≡◌, ap, rules}
use Rattle.hk_term.specs.Meaning.{value}
use Rattle.std.proofs.lemmas.Nat.{or_comm}
use Rattle.hk_simplify.proofs.BitLaws.{or_apart, or_first_ones, or_second_ones, or_same, or_second_zero}
use Rattle.hk_simplify.proofs.bitwise.or_form.Goals as goal

pub commuted-requires-clause-value : goal.commuted-requires-clause-value
commuted-requires-clause-value c = λ m n. or_comm n m

pub returns-then-eq-clause-value : goal.returns-then-eq-clause-value
returns-then-eq-clause-value c =
    let same : c.args.a ≡ c.args.b = search rules in
    λ v. or_same _ _ (ap (λ k. value c.args.t.now k v) same)

pub returns-then-zero_b-clause-value : goal.returns-then-zero_b-clause-value
returns-then-zero_b-clause-value c = λ v. or_second_zero _ _ (c.is_number-zero_b.ensures.known c.if-zero_b.true v)

pub returns-then-ones_a-clause-value : goal.returns-then-ones_a-clause-value
returns-then-ones_a-clause-value c = λ v. or_first_ones _ _ _ _ c.requires.widths (c.is_ones-ones_a.ensures.known c.if-ones_a.true v) (c.is_ones-ones_b.ensures.below v)

pub returns-then-ones_b-clause-value : goal.returns-then-ones_b-clause-value
returns-then-ones_b-clause-value c = λ v. or_second_ones _ _ _ _ c.requires.widths (c.is_ones-ones_b.ensures.known c.if-ones_b.true v) (c.is_ones-ones_a.ensures.below v)

pub returns-then-apart-clause-value : goal.returns-then-apart-clause-value
returns-then-apart-clause-value c =
    λ v. ap (λ f. form_value c.args.t.now f v) c.ones.ensures.is ∙ ap (λ k. 2 ^ k - 1) c.width.ensures.width ∙ or_apart _ _ _ (c.are_complements-apart.ensures.known c.if-apart.true v) (c.are_complements-apart.ensures.below v)
