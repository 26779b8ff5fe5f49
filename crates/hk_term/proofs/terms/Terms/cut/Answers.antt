use Rattle.hk_term.proofs.Prefixes.{kept_table, kept_nodes, kept_widths, kept_values}
use Rattle.hk_term.proofs.terms.Terms.cut.Goals as goal

pub invariant_of-self : goal.invariant_of-self
invariant_of-self c =
    kept_table c.self.inside.nodes.entries c.truncate.new.self.entries c.args.self.now c.args.len c.self.view_is c.truncate.ensures.entries c.requires c.self.invariant

pub returns-clause-prefix : goal.returns-clause-prefix
returns-clause-prefix c =
    kept_nodes c.self.inside.nodes.entries c.truncate.new.self.entries c.args.self.now c.args.len c.self.view_is c.truncate.ensures.entries

pub returns-clause-keeps_widths : goal.returns-clause-keeps_widths
returns-clause-keeps_widths c =
    kept_widths c.self.inside.nodes.entries c.truncate.new.self.entries c.args.self.now c.args.len c.self.view_is c.truncate.ensures.entries c.requires

pub returns-clause-keeps_values : goal.returns-clause-keeps_values
returns-clause-keeps_values c =
    kept_values c.self.inside.nodes.entries c.truncate.new.self.entries c.args.self.now c.args.len c.self.view_is c.truncate.ensures.entries c.requires
