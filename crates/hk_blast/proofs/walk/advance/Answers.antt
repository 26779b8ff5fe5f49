use Rattle.std.proofs.Common.{◌≡◌, length, reverse, arith}
use Rattle.std.specs.Vec.{vec_len}
use Rattle.std.proofs.lemmas.Grind.{common_steps}
use Rattle.hk_blast.proofs.WaitLaws.{waits-below, waits-missing, pop-stands, pop-smaller, push-waits, only-needed}
use Rattle.hk_blast.proofs.walk.advance.Goals as goal

pub node-requires : goal.node-requires
node-requires c = waits-below c.args.terms.now c.args.goal c.args.bits.now c.args.at (reverse c.args.waiting.now.items) c.requires.stands

pub blast_term-requires-clause-first : goal.blast_term-requires-clause-first
blast_term-requires-clause-first c = waits-missing c.args.terms.now c.args.goal c.args.bits.now c.args.at (reverse c.args.waiting.now.items) c.requires.stands

pub returns-in_ok-blast_term-in-None-clause-stands : goal.returns-in_ok-blast_term-in-None-clause-stands
returns-in_ok-blast_term-in-None-clause-stands c =
    let s : vec_len c.args.waiting.now ≡ length c.args.waiting.now.items = grind (arith, common_steps) in
    pop-stands c.args.terms.now c.args.goal c.args.bits.now c.blast_term.new.bits c.args.at c.args.waiting.now.items c.pop.new.self.items
    c.pop.result (vec_len c.args.waiting.now) _ _ c.pop.ensures.items c.pop.ensures.cases s c.in_ok-blast_term-in-None.ensures.there c.blast_term.ensures.others c.requires.stands

pub returns-in_ok-blast_term-in-None-clause-smaller : goal.returns-in_ok-blast_term-in-None-clause-smaller
returns-in_ok-blast_term-in-None-clause-smaller c =
    pop-smaller c.args.terms.now c.args.goal c.args.bits.now c.blast_term.new.bits c.args.at c.args.waiting.now.items c.pop.new.self.items
    c.blast_term.ensures.kept c.pop.result c.pop.ensures.items c.in_ok-blast_term-in-None.ensures.there c.blast_term.ensures.others c.requires.stands

pub returns-in_err-blast_term-in-None-clause-only : goal.returns-in_err-blast_term-in-None-clause-only
returns-in_err-blast_term-in-None-clause-only c =
    only-needed c.args.terms.now c.args.goal c.args.bits.now c.blast_term.new.bits c.args.at (reverse c.args.waiting.now.items) c.requires.stands c.blast_term.ensures.only

pub returns-in_ok-push-in-Some-clause-stands : goal.returns-in_ok-push-in-Some-clause-stands
returns-in_ok-push-in-Some-clause-stands c =
    push-waits c.args.terms.now c.args.goal c.args.bits.now c.args.at c.in-Some.part c.node.result.now c.args.waiting.now.items c.push.new.self.items
    c.in_ok-push-in-Some.ensures.items c.node.ensures.at c.in-Some.ensures.part c.in-Some.ensures.waits.0 c.in-Some.ensures.waits.1 c.requires.stands
