use Rattle.std.proofs.Common.{◌≡◌, length, sym, ◌∙◌, ap, arith}
use Rattle.hk_cdcl.specs.Records.{lit_of}
use Rattle.hk_cdcl.specs.Slots.{slots_of}
use Rattle.hk_cdcl.specs.Watches.{Plain, plain_of, watches_of, watch_at}
use Rattle.hk_cdcl.proofs.Showing.{shown-length, shown-watch}
use Rattle.hk_cdcl.proofs.watches.Watches.watch.Goals as goal

pub returns : goal.returns
returns c =
    let k : length (watches_of c.args.self.now.lists (lit_of c.args.code)) ≡ length (slots_of c.self.inside.lists c.args.code) = sym (ap (λ (v : Plain). length (watches_of v.lists (lit_of c.args.code))) c.self.view_is) ∙ shown-length c.self.inside.records.starts c.self.inside.lists c.args.code in
    ap (λ (v : Plain). plain_of v.starts c.slot.result) (sym c.self.view_is)
    ∙ (ap (plain_of c.self.inside.records.starts) c.slot.ensures
    ∙ (sym (shown-watch c.self.inside.records.starts c.self.inside.lists c.args.code c.args.place (omega (arith, c.requires.place, k)))
    ∙ ap (λ (v : Plain). watch_at (watches_of v.lists (lit_of c.args.code)) c.args.place) c.self.view_is))
