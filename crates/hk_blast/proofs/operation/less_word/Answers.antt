use Rattle.std.proofs.Common.{not, if◌then◌else◌, nat_lt, ap, ◌∙◌}
use Rattle.hk_circuit.specs.Words.{bit, gate_number}
use Rattle.hk_blast.proofs.Bottoms.{is_false, single-number}
use Rattle.hk_blast.proofs.operation.less_word.Goals as goal

pub returns-clause-value : goal.returns-clause-value
returns-clause-value c = λ v.
    let old = c.args.gates.now in
    let a = gate_number old c.args.a.now v in
    let b = gate_number old c.args.b.now v in
    ap (λ ls. gate_number c.less.new.gates ls v) c.in_ok-word.ensures
    ∙ (single-number c.less.new.gates c.in_ok-below.below v
    ∙ ap bit (c.in_ok-below.ensures.value v ∙ ap (λ t. if t then not (nat_lt b a) else nat_lt a b) (is_false old c.args.truth c.negated.result v c.requires.truth.literal (c.requires.truth_is v) c.negated.ensures.value)))
