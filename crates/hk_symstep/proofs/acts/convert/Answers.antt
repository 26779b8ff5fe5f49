use Rattle.std.proofs.Common.{subst}
use Rattle.ir_value.specs.Numbers as numbers
use Rattle.ir_machine.specs.Values as definition
use Rattle.hk_symstep.specs.Steps.{AnswersComputed}
use Rattle.hk_symstep.proofs.acts.convert.Goals as goal

pub returns-clause-answers : goal.returns-clause-answers
returns-clause-answers g c = λ v. subst (λ x. AnswersComputed c.convert.new.t v c.in_ok-made.made (definition.on_one (numbers.convert c.args.flags c.args.kind c.args.widths.from c.args.widths.to) x)) (c.in_ok-value.ensures.value v) (c.in_ok-made.ensures.answers v)
