use Rattle.std.proofs.Common.{rules, ◌≡◌, reverse, sym, subst, IfOk}
use Rattle.std.proofs.lemmas.Result.{IfOk-weaker}
use Rattle.hk_flow.specs.Onward.{IsForward}
use Rattle.hk_flow.proofs.OrderLaws.{reversed}
use Rattle.hk_flow.proofs.onwards.forward.Goals as goal

pub returns-clause-onward : goal.returns-clause-onward
returns-clause-onward c graph o clear =
    let nodes : IfOk c.collect.result (λ v. v.items ≡ reverse c.args.order.now.nodes.items) = search rules in
    IfOk-weaker c.collect.result (λ v. v.items ≡ reverse c.args.order.now.nodes.items) (λ v. IsForward graph v.items)
    (λ v e. subst (λ xs. IsForward graph xs) (sym e) (reversed graph c.args.order.now.nodes.items c.args.order.now.cyclic.items o clear)) nodes
