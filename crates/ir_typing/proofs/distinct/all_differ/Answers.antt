use Rattle.std.proofs.Common.{sym, ◌∙◌}
use Rattle.ir_typing.specs.Fits.{all_differ}
use Rattle.ir_typing.proofs.Twice.{none_seen, next_seen, seen_twice, was_seen, was_new}
use Rattle.ir_typing.proofs.distinct.all_differ.Goals as goal

pub each-init : goal.each-init
each-init c = none_seen c.new-seen.result c.args.numbers.now c.new-seen.ensures.empty

pub returns-then-not-branch : goal.returns-then-not-branch
returns-then-not-branch c = seen_twice c.each.seen c.args.numbers.now c.each.number-index (all_differ c.args.numbers.now) c.each-test.true
    (was_seen _ (sym c.if-not-branch.true ∙ c.in_ok-insert.ensures.added)) c.each.invariant

pub each-preserved : goal.each-preserved
each-preserved c = next_seen c.each.seen c.insert.new.self c.args.numbers.now c.each.number-index (all_differ c.args.numbers.now) c.each-test.true
    (was_new _ (sym c.if-not-branch.false ∙ c.in_ok-insert.ensures.added)) c.in_ok-insert.ensures.updates c.each.invariant
