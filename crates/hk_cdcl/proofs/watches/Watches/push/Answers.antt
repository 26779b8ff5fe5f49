use Rattle.std.proofs.Common.{◌≡◌, ◌+◌, ◌^◌, length, ◌∙◌, ap, subst, refl}
use Rattle.std.specs.Prelude.{if◌then◌else◌}
use Rattle.hk_cdcl.specs.Records.{Recorded}
use Rattle.hk_cdcl.specs.Watches.{Plain}
use Rattle.hk_cdcl.proofs.Showing.{attached-as}
use Rattle.hk_cdcl.proofs.watches.Watches.push.Goals as goal

pub returns-clause-lists : goal.returns-clause-lists
returns-clause-lists c = λ t.
    let at : c.target_of-target.result ≡ (if c.args.binary then 2 ^ 31 + length c.self.inside.records.starts else c.in-Some.start) = c.target_of-target.ensures ∙ ap (λ k. if c.args.binary then 2 ^ 31 + k else c.in-Some.start) c.len-count.ensures.value in
    attached-as c.self.inside (record { lists = c.push-last.new.self; records = c.push.new.self }) c.args.self.now c.in-Some.start c.code-one.result c.code-two.result c.args.first c.args.second c.args.binary
    (record { blocker = c.code-two.result; target = c.target_of-target.result }) (record { blocker = c.code-one.result; target = c.target_of-target.result }) c.push-fits.new.self
    c.self.view_is (subst (λ (x : Plain). length x.pairs ≡ length x.starts) c.self.view_is c.len-count.ensures.pairs) c.requires.named c.in-Some.ensures.fresh c.in-Some.ensures.low
    c.requires.first.literal.nonzero c.requires.second.literal.nonzero c.code-one.ensures.value c.code-two.ensures.value refl refl at at
    (c.push-fits.ensures.added c.if-not-fits.false) (c.push-last.ensures.added t) (ap (λ (r : Recorded). r.starts) c.in-Some.ensures.added)
