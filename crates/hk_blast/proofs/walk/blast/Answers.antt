use Rattle.std.proofs.Common.{arith}
use Rattle.std.proofs.lemmas.Result.{on_ok_weaker}
use Rattle.hk_cnf.proofs.CircuitLaws.{IsGrown-refl}
use Rattle.hk_cnf.proofs.OwnClauses.{gate_value-own}
use Rattle.hk_cnf.proofs.FrontLaws.{IsFront-refl, fronts-grown}
use Rattle.hk_cnf.proofs.RequiredLaws.{required-kept}
use Rattle.hk_circuit.proofs.WordNumbers.{words}
use Rattle.hk_blast.proofs.BlastedLaws.{have-values}
use Rattle.hk_blast.proofs.AssignmentLaws.{extends-by}
use Rattle.hk_blast.proofs.NodeLaws.{lengthens-none}
use Rattle.hk_blast.proofs.Unfixed.{inputs-unfixed}
use Rattle.hk_blast.proofs.OnlyInputs.{only-inputs}
use Rattle.hk_blast.proofs.walk.blast.Goals as goal

pub returns-clause-keeps_words : goal.returns-clause-keeps_words
returns-clause-keeps_words c = words c.args.gates.now c.blast_new-done.new.gates c.blast_new-done.ensures.keeps

pub returns-clause-extends : goal.returns-clause-extends
returns-clause-extends c = λ a n s chosen.
    extends-by c.args.terms.now c.args.gates.now c.blast_new-done.new.gates c.blast_new-done.new.bits a chosen c.sizes.ensures.circuit c.sizes-2.ensures.circuit
    (c.blast_new-done.ensures.grows c.args.gates.now (IsGrown-refl c.args.gates.now)) c.blast_new-done.ensures.table n s

pub returns-clause-values : goal.returns-clause-values
returns-clause-values c = λ a s.
    have-values c.args.terms.now c.blast_new-done.new.gates c.blast_new-done.new.bits a c.blast_new-done.ensures.table
    (λ l. gate_value-own c.blast_new-done.new.gates a c.sizes-2.ensures.circuit s l)

pub returns-clause-lengthens : goal.returns-clause-lengthens
returns-clause-lengthens c =
    c.blast_new-done.ensures.lengthens c.args.gates.now.vars c.args.bits.now (omega arith) (lengthens-none c.args.terms.now c.args.gates.now.vars c.args.bits.now)

pub returns-clause-unfixed : goal.returns-clause-unfixed
returns-clause-unfixed c = inputs-unfixed c.args.terms.now c.blast_new-done.new.gates c.blast_new-done.new.bits c.sizes-2.ensures.circuit c.blast_new-done.ensures.table

pub returns-clause-only_inputs : goal.returns-clause-only_inputs
returns-clause-only_inputs c =
    let e = c.blast_new-done.ensures in
    let first = c.args.gates.now.vars in
    on_ok_weaker c.blast_new-done.result
    (only-inputs c.args.terms.now c.args.gates.now c.blast_new-done.new.gates c.args.bits.now c.blast_new-done.new.bits c.sizes.ensures.circuit c.sizes-2.ensures.circuit e.keeps e.table
    (e.lengthens first c.args.bits.now (omega arith) (lengthens-none c.args.terms.now first c.args.bits.now)))
    e.inputs

pub returns-clause-front : goal.returns-clause-front
returns-clause-front c = fronts-grown c.args.gates.now c.blast_new-done.new.gates c.blast_new-done.ensures.grows

pub returns-clause-beside : goal.returns-clause-beside
returns-clause-beside c =
    required-kept c.args.gates.now c.blast_new-done.new.gates c.sizes.ensures.circuit c.sizes-2.ensures.circuit
    (fronts-grown c.args.gates.now c.blast_new-done.new.gates c.blast_new-done.ensures.grows c.args.gates.now (IsFront-refl c.args.gates.now)) c.blast_new-done.ensures.required
