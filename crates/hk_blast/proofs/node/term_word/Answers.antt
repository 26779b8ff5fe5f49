use Rattle.hk_blast.specs.Blasted.{word_in}
use Rattle.hk_circuit.proofs.WordNumbers.{within_more}
use Rattle.hk_blast.proofs.BlastedLaws.{words-within}
use Rattle.hk_blast.proofs.NodeLaws.{words-fit, row, places-fresh}
use Rattle.hk_blast.proofs.node.term_word.Goals as goal

pub blast_node-requires-clause-words : goal.blast_node-requires-clause-words
blast_node-requires-clause-words c = λ k.
    within_more c.args.gates.now.vars c.constant.new.self.vars (word_in c.args.bits.now k) c.constant.ensures.vars (words-within c.args.terms.now c.args.gates.now c.args.bits.now c.requires.table k)

pub blast_node-requires-clause-fits : goal.blast_node-requires-clause-fits
blast_node-requires-clause-fits c =
    words-fit c.args.terms.now c.args.gates.now c.args.bits.now c.args.t c.node.result.now c.requires.table c.node.ensures.holds.fits (c.requires.parts c.node.result.now c.node.ensures.at)

pub returns-clause-blasted : goal.returns-clause-blasted
returns-clause-blasted c =
    let e = c.in_ok-word.ensures in
    row c.args.terms.now c.args.gates.now c.constant.new.self c.blast_node.new.gates c.args.bits.now c.args.t c.node.result.now c.in_ok-word.word.items
    c.requires.table c.constant.ensures.vars c.node.ensures.holds c.requires.first (c.requires.parts c.node.result.now c.node.ensures.at)
    (record { later = e.vars; keeps = e.keeps; size = e.size; within = e.within; value = e.value; fresh = e.fresh; chosen = e.chosen })

pub returns-clause-fresh : goal.returns-clause-fresh
returns-clause-fresh c =
    places-fresh c.args.terms.now c.args.t c.node.result.now c.in_ok-word.word.items c.args.gates.now.vars c.constant.new.self.vars c.constant.ensures.vars c.node.ensures.at c.in_ok-word.ensures.fresh
