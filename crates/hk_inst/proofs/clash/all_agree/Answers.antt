use Rattle.std.proofs.Common.{rules, ◌≡◌, ◌∙◌, None, Some, sym, ap, refl, get_or, arith}
use Rattle.std.specs.Prelude.{slice_get}
use Rattle.std.proofs.lemmas.Option.{slice_get-get_or}
use Rattle.hk_term.specs.Tables.{entry_at}
use Rattle.hk_inst.specs.Violations.{AgreesWithFirst}
use Rattle.hk_inst.proofs.FirstReads.{agree-more, agree-all}
use Rattle.hk_inst.proofs.ReadNumberLaws.{numbers-told, read-agrees}
use Rattle.hk_inst.proofs.clash.all_agree.Goals as goal

pub loop-k-preserved : goal.loop-k-preserved
loop-k-preserved c = λ f told h.
    let reads = c.args.reads.now in
    let entry : slice_get reads c.loop-k.k ≡ Some c.at.result = slice_get-get_or reads c.loop-k.k 0 c.loop-k-test.true ∙ ap (λ t. Some t) (sym c.at.ensures) in
    let n = get_or c.args.numbers.now c.loop-k.k (record { place = 0; number = 0 }) in
    agree-more (AgreesWithFirst c.args.terms.now f reads) reads c.loop-k.k c.at.result None entry (c.loop-k.invariant f told h)
    (read-agrees c.args.terms.now f reads c.at.result c.node-node.result.now n (entry_at c.args.arrays.now) c.node-node.ensures.at
    (numbers-told c.args.terms.now f reads c.args.numbers.now c.loop-k.k c.at.result n told entry c.loop-k-test.true (search rules)) h (λ p. c.agrees.ensures c.if-not-agrees.false f p)) refl

pub returns : goal.returns
returns c = λ e f told h.
    agree-all (AgreesWithFirst c.args.terms.now f c.args.reads.now) c.args.reads.now c.loop-k.k (omega (arith, c.loop-k-test.false)) (c.loop-k.invariant f told h)
