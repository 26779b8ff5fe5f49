use Rattle.std.proofs.Common.{drop, ◌∙◌}
use Rattle.hk_blast.specs.Blasted.{word_in}
use Rattle.hk_inst.specs.States.{kind_of}
use Rattle.hk_inst.proofs.GrowthSteps.{front-has}
use Rattle.hk_inst.proofs.FoundTerms.{slice-drop, found-next}
use Rattle.hk_inst.proofs.numbering.found.Goals as goal

pub loop-i-preserved : goal.loop-i-preserved
loop-i-preserved c =
    let next = found-next c.args.terms.now (kind_of c.args.reads) (drop c.args.start c.args.bits.now) c.is_of.result c.loop-i.i c.loop-i.items.items c.push_if.new.items.items (c.at-t.result, word_in c.args.bits.now c.at-t.result) (slice-drop c.args.bits.now c.args.start c.loop-i.i ∙ c.at-t.ensures.entry) c.is_of.ensures c.in_ok-push_if.ensures
    (record { are = c.loop-i.invariant.are; all = c.loop-i.invariant.all }) in
    record { are = next.are; all = next.all }

pub returns-clause-are : goal.returns-clause-are
returns-clause-are c = λ t h. (front-has c.loop-i.i (drop c.args.start c.args.bits.now) t (c.loop-i.invariant.are t h).0, (c.loop-i.invariant.are t h).1)
