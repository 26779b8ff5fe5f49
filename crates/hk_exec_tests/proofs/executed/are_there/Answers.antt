use Rattle.std.proofs.Common.{rules, ◌<◌, ◌≤◌, length, sym, arith}
use Rattle.ir_check.proofs.SiteLaws.{get_at}
use Rattle.ir_check.proofs.Taken.{all_next, all_taken}
use Rattle.hk_exec_tests.proofs.executed.are_there.Goals as goal

pub loop-term-preserved : goal.loop-term-preserved
loop-term-preserved c =
    let there = get_at c.args.terms.now c.loop-term.term-index c.term-item.result c.loop-term-test.true (sym c.term-item.is) in
    let below : c.term-item.result < length c.args.t.now = search rules in
    all_next (λ a. a < length c.args.t.now) c.args.terms.now c.loop-term.term-index c.term-item.result there c.loop-term.invariant below

pub returns : goal.returns
returns c = λ yes.
    let past : length c.args.terms.now ≤ c.loop-term.term-index = omega arith in
    all_taken (λ a. a < length c.args.t.now) c.args.terms.now c.loop-term.term-index past c.loop-term.invariant
