use Rattle.std.proofs.Common.{◌∙◌, ap}
use Rattle.hk_simplify.specs.Forms.{form_value}
use Rattle.std.proofs.lemmas.Nat.{and_comm}
use Rattle.hk_simplify.proofs.BitLaws.{and_apart, and_first_ones, and_second_ones}
use Rattle.hk_simplify.proofs.bitwise.and_form.Goals as goal

pub commuted-requires-clause-value : goal.commuted-requires-clause-value
commuted-requires-clause-value c = λ m n. and_comm n m

pub returns-then-ones_a-clause-value : goal.returns-then-ones_a-clause-value
returns-then-ones_a-clause-value c = λ v. and_first_ones _ _ _ _ c.requires.widths (c.is_ones-ones_a.ensures.known c.if-ones_a.true v) (c.is_ones-ones_b.ensures.below v)

pub returns-then-ones_b-clause-value : goal.returns-then-ones_b-clause-value
returns-then-ones_b-clause-value c = λ v. and_second_ones _ _ _ _ c.requires.widths (c.is_ones-ones_b.ensures.known c.if-ones_b.true v) (c.is_ones-ones_a.ensures.below v)

pub returns-then-apart-clause-value : goal.returns-then-apart-clause-value
returns-then-apart-clause-value c =
    λ v. ap (λ f. form_value c.args.t.now f v) c.number.ensures.is ∙ and_apart _ _ _ (c.are_complements-apart.ensures.known c.if-apart.true v) (c.are_complements-apart.ensures.below v)
