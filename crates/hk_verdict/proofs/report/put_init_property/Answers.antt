use Rattle.std.proofs.Common.{◌≡◌, List, map, subst, OnOk}
use Rattle.std.specs.Prelude.{codes, slice_get}
use Rattle.hk_io.specs.Shown.{shown_with}
use Rattle.spec_tree.specs.declared.spec.Named.{Named}
use Rattle.spec_tree.specs.View.{view_named}
use Rattle.hk_verdict.specs.Report.{two_texts, named_text}
use Rattle.hk_verdict.proofs.report.put_init_property.Goals as goal

pub returns-clause-whole : goal.returns-clause-whole
returns-clause-whole g c =
    let P : List Named → Type 0 = λ l. OnOk c.put_fails.result (g.O.Sink.shown c.put_fails.new.out ≡ shown_with (g.O.Sink.shown c.args.out.now) (two_texts (codes "init fails property ") (named_text (slice_get (map view_named l) c.args.place)))) in
    subst P c.as_slice.ensures c.put_fails.ensures.whole
