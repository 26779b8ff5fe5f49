use Rattle.std.specs.Map.{keys_of}
use Rattle.hk_term.proofs.Interning.{known_over, table_over, Interned, interned, grown-value, grown-width, grown-widths, grown-values, grown-nodes, grown-few, grown-operation, grown-inputs}
use Rattle.hk_term.proofs.terms.Terms.intern.Goals as goal

pub place-requires : goal.place-requires
place-requires c =
    known_over c.self.inside.nodes.entries c.args.self.now c.args.node c.width_of-width.result c.self.invariant c.self.view_is c.requires c.width_of-width.ensures.width

pub invariant_of-self-2 : goal.invariant_of-self-2
invariant_of-self-2 c =
    table_over c.self.inside.nodes.entries c.place.new.nodes.entries c.args.self.now c.args.node c.width_of-width.result c.in_ok-place.place c.self.invariant c.self.view_is c.requires c.width_of-width.ensures.width c.in_ok-place.ensures.ok

done : (c : goal.After-at) → Interned c.args.self.now (keys_of c.place.new.nodes.entries) c.args.node c.at.result
done c =
    interned c.self.inside.nodes.entries c.place.new.nodes.entries c.args.self.now c.args.node c.width_of-width.result c.in_ok-place.place c.at.result c.self.invariant c.self.view_is c.requires c.width_of-width.ensures.width c.in_ok-place.ensures.ok c.at.ensures

pub returns-clause-holds : goal.returns-clause-holds
returns-clause-holds c = (done c).holds

pub returns-clause-value : goal.returns-clause-value
returns-clause-value c = grown-value _ _ _ _ (done c).grown (done c).fits (done c).holds

pub returns-clause-width : goal.returns-clause-width
returns-clause-width c = grown-width _ _ _ _ (done c).grown (done c).fits (done c).holds

pub returns-clause-keeps_widths : goal.returns-clause-keeps_widths
returns-clause-keeps_widths c = grown-widths _ _ _ _ (done c).grown

pub returns-clause-keeps_values : goal.returns-clause-keeps_values
returns-clause-keeps_values c = grown-values _ _ _ _ (done c).grown

pub returns-clause-keeps_nodes : goal.returns-clause-keeps_nodes
returns-clause-keeps_nodes c = grown-nodes _ _ _ _ (done c).grown

pub returns-clause-ok : goal.returns-clause-ok
returns-clause-ok c = (done c).grown

pub returns-clause-few : goal.returns-clause-few
returns-clause-few c = grown-few _ _ _ _ (done c).grown

pub returns-clause-operation : goal.returns-clause-operation
returns-clause-operation c = grown-operation _ _ _ _ (done c).grown

pub returns-clause-inputs : goal.returns-clause-inputs
returns-clause-inputs c = grown-inputs _ _ _ _ (done c).grown
