use Rattle.std.proofs.Common.{ap, sym, ◌∙◌, ◌++◌, ◌+◌, drop, map}
use Rattle.ir_resolve.specs.Acts.{spans_from}
use Rattle.ir_resolve.proofs.Written.{view_bound, next_bound}
use Rattle.ir_resolve.proofs.access.spans_in.Goals as goal

pub each-preserved : goal.each-preserved
each-preserved c =
    c.in_ok-low.ensures (map view_bound (drop (c.each.bound-index + 1) c.args.bounds.now))
    ∙ ap (λ ns. c.each.spans ++ spans_from c.args.width c.each.low ns) (sym (next_bound c.args.bounds.now c.each.bound-index c.bound-item.result c.each-test.true c.bound-item.is))
    ∙ c.each.invariant
