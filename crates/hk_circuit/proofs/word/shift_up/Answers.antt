use Rattle.std.proofs.Common.{◌≡◌, ◌-◌, length, take, replicate, ◌++◌, ◌∙◌, ap, arith}
use Rattle.std.proofs.lemmas.Grind.{common_steps}
use Rattle.hk_circuit.specs.Words.{gate_number}
use Rattle.hk_circuit.proofs.Products.{number-up}
use Rattle.hk_circuit.proofs.word.shift_up.Goals as goal

pub returns-clause-value : goal.returns-clause-value
returns-clause-value c = λ d v e.
    let items : c.extend_from_slice.new.self.items ≡ replicate c.args.by c.args.fill ++ take (length c.args.a.now - c.args.by) c.args.a.now = grind (arith, common_steps) in
    ap (λ ls. gate_number d ls v) items ∙ number-up d c.args.a.now c.args.by c.args.fill v c.requires e
