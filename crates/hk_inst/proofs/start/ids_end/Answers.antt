use Rattle.std.proofs.Common.{◌∙◌, ap, sym, arith}
use Rattle.std.specs.Prelude.{slice_get}
use Rattle.std.proofs.lemmas.Option.{slice_get_within}
use Rattle.hk_inst.proofs.WideStands.{ids-next}
use Rattle.hk_inst.proofs.start.ids_end.Goals as goal

pub loop-k-preserved : goal.loop-k-preserved
loop-k-preserved c =
    ids-next c.args.terms.now c.loop-k.k c.loop-k.end c.in_ok-end.end c.node.result.now c.loop-k.invariant c.in_ok-end.ensures.0 (ap (slice_get c.args.terms.now) (sym c.at.ensures) ∙ c.node.ensures.at) c.in_ok-end.ensures.1

pub returns : goal.returns
returns c = λ k n at. c.loop-k.invariant k n (omega (arith, slice_get_within c.args.terms.now k n at, c.loop-k-test.false, c.len-k-end.ensures.len)) at
