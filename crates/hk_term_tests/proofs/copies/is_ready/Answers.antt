use Rattle.std.proofs.Common.{rules, arith}
use Rattle.std.specs.List.{All}
use Rattle.hk_copy.specs.Stands.{HasWidth}
use Rattle.hk_term_tests.proofs.copies.is_ready.Goals as goal

pub returns : goal.returns
returns c =
    let widths : All (λ e. HasWidth e.1) c.args.stands.now = search rules in
    λ sure. record {
      widths = widths;
      apart = λ j bound body l at. c.loop-k.invariant j bound body (omega (arith, l, c.loop-k-test.false, c.place-end.ensures)) at;
    }
