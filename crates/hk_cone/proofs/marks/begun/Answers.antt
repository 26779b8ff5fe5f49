use Rattle.std.proofs.Common.{◌≡◌, ◌+◌, true, false, replicate, sym, subst}
use Rattle.std.specs.Prelude.{slice_set}
use Rattle.hk_cone.specs.Cones.{AreMarked}
use Rattle.hk_cone.proofs.MarkLaws.{begun}
use Rattle.hk_cone.proofs.marks.begun.Goals as goal

pub returns : goal.returns
returns c =
    subst (λ k. AreMarked c.args.terms.now c.args.root (c.args.root + 1) (slice_set c.in_ok-marks.marks.items k true)) (sym c.place-2.ensures)
    (begun c.args.terms.now c.args.root c.in_ok-marks.marks.items (subst (λ k. c.in_ok-marks.marks.items ≡ replicate (k + 1) false) c.place.ensures (c.in_ok-marks.ensures.items_if_clones_equal (λ y e. e))))
