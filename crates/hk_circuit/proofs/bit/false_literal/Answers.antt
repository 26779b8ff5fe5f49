use Rattle.std.proofs.Common.{not, ap, ◌∙◌}
use Rattle.hk_cnf.specs.Circuit.{gate_value}
use Rattle.hk_circuit.proofs.Negated.{value_negated}
use Rattle.hk_circuit.proofs.Frames.{framed}
use Rattle.hk_circuit.proofs.bit.false_literal.Goals as goal

pub returns-clause-value : goal.returns-clause-value
returns-clause-value c = λ v.
    ap (λ l. gate_value c.constant.new.self l v) c.negated.ensures.value
    ∙ (value_negated c.constant.new.self c.in_ok-truth.truth v c.in_ok-truth.ensures.within.literal ∙ ap not (c.in_ok-truth.ensures.value v))

pub returns-clause-frame : goal.returns-clause-frame
returns-clause-frame c = let e = c.in_ok-truth.ensures in framed e.vars e.keeps e.grows e.inputs
