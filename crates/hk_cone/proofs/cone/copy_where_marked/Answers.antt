use Rattle.std.proofs.Common.{sym, ap, subst, ◌∙◌}
use Rattle.hk_cone.specs.Cones.{is_marked, AreCopied}
use Rattle.hk_cone.proofs.CopyLaws.{skipped}
use Rattle.hk_cone.proofs.cone.copy_where_marked.Goals as goal

pub returns-in_ok-skip_one-clause-copied : goal.returns-in_ok-skip_one-clause-copied
returns-in_ok-skip_one-clause-copied c =
    let marks = c.args.marks.now in
    subst (AreCopied c.args.terms.now marks c.args.new.now) (sym c.in_ok-skip_one.ensures)
    (skipped c.args.terms.now c.len-len.ensures.fit marks c.args.new.now c.args.places.now.items c.requires.copied (ap (is_marked marks) c.requires.next ∙ c.if-marks-at.false))
