use Rattle.std.proofs.Common.{◌≡◌, if◌then◌else◌, ap, ◌∙◌}
use Rattle.hk_circuit.specs.Words.{gate_number}
use Rattle.hk_circuit.proofs.WordArithmetic.{number-zeros}
use Rattle.hk_circuit.proofs.FarShifts.{chosen}
use Rattle.hk_circuit.proofs.shift.zero_where_far.Goals as goal

pub returns-clause-value : goal.returns-clause-value
returns-clause-value c = λ v.
    let start = c.args.gates.now in
    let g = c.is_nonzero.new.gates in
    let e = c.in_ok-far.ensures in
    let zero : gate_number g c.as_slice.result.now v ≡ 0 =
    ap (λ ls. gate_number g ls v) (c.as_slice.ensures.value ∙ c.in_ok-zero.ensures)
    ∙ number-zeros g c.args.bottom _ v (e.frame.keeps c.args.bottom c.requires.bottom.below v ∙ c.requires.bottom_is v) in
    let same : gate_number g c.args.a.now v ≡ gate_number start c.args.a.now v = e.frame.keeps_words c.args.a.now c.requires.first v in
    c.in_ok-word.ensures.value v
    ∙ ((λ j. if e.value v j then zero j else same j) ∙ chosen (gate_number start c.args.a.now v) (gate_number start c.args.high.now v))
