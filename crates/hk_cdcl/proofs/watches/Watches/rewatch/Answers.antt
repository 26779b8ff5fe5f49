use Rattle.std.proofs.Common.{ap}
use Rattle.hk_cdcl.specs.Records.{Recorded}
use Rattle.hk_cdcl.proofs.Showing.{rewatch-as, long-start}
use Rattle.hk_cdcl.proofs.watches.Watches.rewatch.Goals as goal

pub watch-requires : goal.watch-requires
watch-requires c = long-start c.self.inside c.args.self.now c.args.slot.target c.self.view_is c.requires.long c.requires.inside

pub returns-clause-lists : goal.returns-clause-lists
returns-clause-lists c = λ _.
    rewatch-as c.self.inside (record { lists = c.remove.new.self; records = c.watch.new.self }) c.args.self.now c.args.code c.args.place c.args.next c.args.slot c.push.new.self c.self.view_is c.requires.code c.requires.next c.requires.apart c.requires.place
    (c.push.ensures.added c.if-not-push.false) c.remove.ensures (ap (λ (r : Recorded). r.starts) c.watch.ensures)
