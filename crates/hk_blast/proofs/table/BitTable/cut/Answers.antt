use Rattle.std.proofs.Common.{take, length, ◌∙◌, ap, sym, subst}
use Rattle.std.proofs.Math.Seq.{take-append_seam}
use Rattle.hk_blast.specs.Blasted.{AreBlasted}
use Rattle.hk_blast.proofs.BlastedLaws.{front-blasted, cut-blasted}
use Rattle.hk_blast.proofs.table.BitTable.cut.Goals as goal

pub returns-clause-keeps : goal.returns-clause-keeps
returns-clause-keeps c = λ nodes d h. subst (AreBlasted nodes d) (sym (c.truncate.ensures.entries ∙ ap (take c.args.len) c.self.view_is)) (front-blasted nodes d c.args.self.now c.args.len h)

pub returns-clause-keeps_over : goal.returns-clause-keeps_over
returns-clause-keeps_over c = λ nodes d e h w same. cut-blasted nodes d e _ w same (subst (AreBlasted nodes d) (sym (c.truncate.ensures.entries ∙ ap (take c.args.len) c.self.view_is)) (front-blasted nodes d c.args.self.now c.args.len h))

pub returns-clause-back : goal.returns-clause-back
returns-clause-back c = λ nodes first before l n.
    (c.truncate.ensures.entries ∙ ap (take c.args.len) c.self.view_is)
    ∙ (ap (λ k. take k c.args.self.now) n ∙ (ap (take (length before)) l.is ∙ take-append_seam before l.more))
