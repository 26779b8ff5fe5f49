use Rattle.std.proofs.Common.{◌≡◌, length, subst, arith}
use Rattle.hk_cdcl.specs.Watching.{EndsMore}
use Rattle.hk_cdcl.proofs.Extending.{extends-refl}
use Rattle.hk_cdcl.proofs.Attaching.{fits-front, propagating-begins, ended-quiet}
use Rattle.hk_cdcl.proofs.watched.Watched.try_propagate.Goals as goal

pub returns-then-len-vars-clause-extends : goal.returns-then-len-vars-clause-extends
returns-then-len-vars-clause-extends c = extends-refl c.args.clauses.now.clauses c.args.trail.now

pub settle_all-requires-clause-propagating : goal.settle_all-requires-clause-propagating
settle_all-requires-clause-propagating c =
    propagating-begins c.args.clauses.now.clauses c.begin-start.new.self c.args.trail.now c.begin-start.result
    (c.begin-start.ensures.begins c.args.clauses.now.clauses c.args.trail.now.lits (fits-front c.args.self.now c.args.clauses.now.clauses c.args.trail.now.lits c.requires.seen.front c.requires.seen.seen)) (omega arith)

pub returns-clause-propagated : goal.returns-clause-propagated
returns-clause-propagated c =
    let n : c.clauses.result ≡ length c.settle_all.new.self.watches.pairs = c.clauses.ensures.pairs in
    ended-quiet c.args.clauses.now.clauses c.settle_all.new.self c.end.new.self c.settle_all.new.trail c.len-3.ensures.path c.in-Quiet.ensures.came (omega arith) c.end.ensures.watches
    (subst (EndsMore c.settle_all.new.self.ends.items c.end.new.self.ends.items) c.len-3.ensures.value c.end.ensures.ends)
