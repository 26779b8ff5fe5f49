use Rattle.std.proofs.Common.{sym, ◌∙◌}
use Rattle.hk_cdcl.proofs.Showing.{long-start, long-place, target-binary}
use Rattle.hk_cdcl.proofs.watches.Watches.clause.Goals as goal

pub returns-then-is_binary : goal.returns-then-is_binary
returns-then-is_binary c = sym (target-binary c.args.self.now.starts c.args.slot.target (sym c.is_binary.ensures ∙ c.if-is_binary.true))

pub clause-requires : goal.clause-requires
clause-requires c = long-start c.self.inside c.args.self.now c.args.slot.target c.self.view_is (sym c.is_binary.ensures ∙ c.if-is_binary.false) c.requires

pub returns : goal.returns
returns c = c.clause.ensures ∙ long-place c.self.inside c.args.self.now c.args.slot.target c.self.view_is (sym c.is_binary.ensures ∙ c.if-is_binary.false)
