use Rattle.std.proofs.Common.{◌+◌, ◌<◌, ◌≤◌, length, take, arith}
use Rattle.std.proofs.lemmas.List.{take_all}
use Rattle.hk_flow.proofs.SumLaws.{sums_none_as, sums_read, sums_told}
use Rattle.hk_flow.proofs.totals.sums.Goals as goal

pub loop-at-init : goal.loop-at-init
loop-at-init c =
    sums_none_as c.args.graph.now c.args.own.now (c.args.most + 1) c.in_ok-totals.totals.items c.len.result c.len.ensures c.in_ok-totals.ensures

pub loop-at-preserved : goal.loop-at-preserved
loop-at-preserved c =
    let l : c.loop-at.at < length c.args.order.now.nodes.items = omega arith in
    sums_read c.args.graph.now c.args.order.now.nodes.items c.args.order.now.cyclic.items c.args.own.now (c.args.most + 1) c.loop-at.totals.items c.deref.result.now
    c.loop-at.at c.index-node.result.now c.sum_of.result c.requires.order l c.loop-at.invariant c.index-node.ensures c.deref.ensures.value c.sum_of.ensures

pub returns-clause-each : goal.returns-clause-each
returns-clause-each c v l =
    let all : length c.args.order.now.nodes.items ≤ c.loop-at.at = omega arith in
    sums_told c.args.graph.now c.args.order.now.nodes.items (take c.loop-at.at c.args.order.now.nodes.items) c.args.own.now (c.args.most + 1) c.loop-at.totals.items
    c.requires.order.each (take_all c.loop-at.at c.args.order.now.nodes.items all) c.loop-at.invariant v l
