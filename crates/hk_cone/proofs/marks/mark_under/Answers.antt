use Rattle.hk_cone.proofs.MarkLaws.{stays, goes_down}
use Rattle.hk_term.specs.Facts.{Holds}
use Rattle.std.proofs.Common.{subst}
use Rattle.hk_cone.proofs.marks.mark_under.Goals as goal

pub returns-then-marks-at : goal.returns-then-marks-at
returns-then-marks-at c =
    let nodes = c.args.terms.now in
    record {
      marks =
          goes_down nodes c.args.root c.args.at c.args.marks.now c.requires.marks c.node.result.now c.mark_parts.new.marks
          (subst (λ k. Holds nodes k c.node.result.now) c.at.ensures c.node.ensures.holds) c.if-marks-at.true c.mark_parts.ensures.size c.mark_parts.ensures.marked c.mark_parts.ensures.kept c.mark_parts.ensures.only;
    }

pub returns-else-marks-at : goal.returns-else-marks-at
returns-else-marks-at c = record { marks = stays c.args.terms.now c.args.root c.args.at c.args.marks.now c.requires.marks c.if-marks-at.false }
