use Rattle.hk_term.proofs.TableLemmas.{entry_read, node_known}
use Rattle.hk_term.proofs.terms.Terms.node.Goals as goal

pub returns-clause-holds : goal.returns-clause-holds
returns-clause-holds c =
    let es = c.self.inside.nodes.entries in
    node_known es c.args.self.now c.args.t c.unwrap.result.0.now c.unwrap.result.1.now c.self.invariant c.self.view_is
    (entry_read es c.place.result c.args.t c.get_index.result c.unwrap.result c.get_index.ensures.entry c.place.ensures c.unwrap.ensures)
