use Rattle.std.proofs.Common.{◌≡◌, ◌+◌, length, refl, ap, arith}
use Rattle.hk_cdcl.specs.declared.search.Search.{Search}
use Rattle.hk_cdcl.proofs.Going.{back-restarted, grows-restarted}
use Rattle.hk_cdcl.proofs.search.Search.on_conflict.Goals as goal

pub returns-clause-stepped : goal.returns-clause-stepped
returns-clause-stepped c =
    let r : Search = record c.backjump.new.self { order = c.decay.new.self } in
    back-restarted c.args.self.now c.backjump.new.self r c.restart-length.new.self c.in_ok-backjump.field-0 c.restart-length.result c.in_ok-backjump.ensures.back refl refl c.restart-length.ensures

pub returns-clause-grows : goal.returns-clause-grows
returns-clause-grows c =
    let r : Search = record c.backjump.new.self { order = c.decay.new.self } in
    grows-restarted c.args.self.now c.backjump.new.self r c.restart-length.new.self c.restart-length.result c.backjump.ensures.grows refl refl c.restart-length.ensures

pub returns-clause-spends : goal.returns-clause-spends
returns-clause-spends c =
    let e : c.restart-length.new.self.left ≡ c.backjump.new.self.left = c.restart-length.ensures.left in
    let l : length c.restart-length.new.self.log ≡ length c.backjump.new.self.log = ap length c.restart-length.ensures.log in
    let k : c.backjump.new.self.left + length c.backjump.new.self.log ≡ c.args.self.now.left + length c.args.self.now.log = c.backjump.ensures.spends in
    omega (arith, e, l, k)
