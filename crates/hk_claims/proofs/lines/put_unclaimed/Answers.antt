use Rattle.std.proofs.Common.{◌≡◌, OnOk, OnErr, codes, subst}
use Rattle.hk_io.specs.Shown.{shown_with, ShowsPrefix}
use Rattle.hk_verdict.specs.Report.{two_texts}
use Rattle.hk_claims.proofs.lines.put_unclaimed.Goals as goal

pub returns-clause-whole : goal.returns-clause-whole
returns-clause-whole g c =
    subst (λ name. OnOk c.put_two.result (g.O.Sink.shown c.put_two.new.out ≡ shown_with (g.O.Sink.shown c.args.out.now) (two_texts (codes "not claimed ") name))) c.as_bytes.ensures c.put_two.ensures.whole

pub returns-clause-cut : goal.returns-clause-cut
returns-clause-cut g c =
    subst (λ name. OnErr c.put_two.result (ShowsPrefix (g.O.Sink.shown c.args.out.now) (g.O.Sink.shown c.put_two.new.out) (two_texts (codes "not claimed ") name))) c.as_bytes.ensures c.put_two.ensures.cut
