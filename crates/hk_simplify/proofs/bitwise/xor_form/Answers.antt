use Rattle.std.proofs.Common.{◌-◌, ◌^◌, ap}
use Rattle.hk_simplify.specs.Forms.{form_value}
use Rattle.std.proofs.Common.{◌∙◌}
use Rattle.std.proofs.lemmas.Nat.{xor_comm}
use Rattle.hk_simplify.proofs.BitLaws.{xor_apart, xor_first_ones, xor_second_ones}
use Rattle.hk_simplify.proofs.bitwise.xor_form.Goals as goal

pub commuted-requires-clause-value : goal.commuted-requires-clause-value
commuted-requires-clause-value c = λ m n. xor_comm n m

pub returns-then-ones_a-clause-value : goal.returns-then-ones_a-clause-value
returns-then-ones_a-clause-value c = λ v. c.undone.ensures.value v ∙ xor_first_ones _ _ _ _ c.requires.widths (c.is_ones-ones_a.ensures.known c.if-ones_a.true v) (c.is_ones-ones_b.ensures.below v)

pub returns-then-ones_b-clause-value : goal.returns-then-ones_b-clause-value
returns-then-ones_b-clause-value c = λ v. c.undone-then-ones_b.ensures.value v ∙ xor_second_ones _ _ _ _ c.requires.widths (c.is_ones-ones_b.ensures.known c.if-ones_b.true v) (c.is_ones-ones_a.ensures.below v)

pub returns-then-apart-clause-value : goal.returns-then-apart-clause-value
returns-then-apart-clause-value c =
    λ v. ap (λ f. form_value c.args.t.now f v) c.ones.ensures.is ∙ ap (λ k. 2 ^ k - 1) c.width-then-apart.ensures.width ∙ xor_apart _ _ _ (c.are_complements-apart.ensures.known c.if-apart.true v) (c.are_complements-apart.ensures.below v)
