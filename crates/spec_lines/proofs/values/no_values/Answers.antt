use Rattle.spec_lines.proofs.FieldTurns.{none_more}
use Rattle.spec_lines.specs.MadeView.{no_value}
use Rattle.std.proofs.Common.{map}
use Rattle.spec_lines.proofs.values.no_values.Goals as goal

pub each-preserved : goal.each-preserved
each-preserved c =
    none_more c.args.heads.now c.each.index c.each.values.items c.push.new.self.items (map no_value c.args.heads.now) c.each-test.true c.in_ok-push.ensures.items
    c.each.invariant
