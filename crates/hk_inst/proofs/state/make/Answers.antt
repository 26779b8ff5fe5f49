use Rattle.hk_cnf.proofs.FrontLaws.{IsFront-refl}
use Rattle.hk_inst.proofs.MadeTerms.{made}
use Rattle.hk_inst.proofs.state.make.Goals as goal

pub returns-clause-made : goal.returns-clause-made
returns-clause-made c =
    let e = c.blast-done.ensures in
    made c.blast-done.result c.args.terms.now c.args.gates.now c.blast-done.new.gates c.args.bits.now c.blast-done.new.bits c.args.t c.sizes.ensures.circuit (e.front c.args.gates.now (IsFront-refl c.args.gates.now)) e.beside e.table e.lengthens e.only e.there e.only_inputs
