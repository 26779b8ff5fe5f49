use Rattle.std.proofs.Common.{length, sym, ◌∙◌, ap}
use Rattle.hk_cdcl.specs.Records.{lit_of}
use Rattle.hk_cdcl.specs.Watches.{Plain, watches_of}
use Rattle.hk_cdcl.proofs.Showing.{shown-length}
use Rattle.hk_cdcl.proofs.watches.Watches.count.Goals as goal

pub returns : goal.returns
returns c = c.count.ensures ∙ (sym (shown-length c.self.inside.records.starts c.self.inside.lists c.args.code) ∙ ap (λ (v : Plain). length (watches_of v.lists (lit_of c.args.code))) c.self.view_is)
