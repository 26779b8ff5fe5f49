use Rattle.std.proofs.Common.{sym, ap, subst, length, ◌∙◌}
use Rattle.std.specs.Prelude.{slice_index}
use Rattle.hk_cone.specs.Cones.{Reaches, AreClosedFrom, AreCopied}
use Rattle.hk_cone.proofs.CopyLaws.{all-reached, all-renewed}
use Rattle.hk_cone.proofs.cone.cone_of.Goals as goal

pub copied-requires-clause-closed : goal.copied-requires-clause-closed
copied-requires-clause-closed c = subst (λ l. AreClosedFrom c.args.terms.now l 0) (sym c.deref.ensures.value) c.in_ok-marks.ensures.closed

pub returns-clause-reached : goal.returns-clause-reached
returns-clause-reached c = λ k l.
    let whole = c.in_ok-copied.ensures.all ∙ ap length c.deref.ensures.value in
    let all = subst (λ l. AreCopied c.args.terms.now l c.copied.new.new c.copied.new.places.items) c.deref.ensures.value c.in_ok-copied.ensures.copied in
    subst (λ r. Reaches c.copied.new.new r k) (sym (c.place_of-root.ensures ∙ ap (λ ps. slice_index ps c.args.root) c.deref-2.ensures.value))
    (all-reached c.args.terms.now c.len-len.ensures.fit c.args.root c.in_ok-marks.marks.items c.in_ok-marks.ensures c.copied.new.new c.copied.new.places.items c.requires whole all k l)

pub returns-clause-nodes : goal.returns-clause-nodes
returns-clause-nodes c =
    let whole = c.in_ok-copied.ensures.all ∙ ap length c.deref.ensures.value in
    let all = subst (λ l. AreCopied c.args.terms.now l c.copied.new.new c.copied.new.places.items) c.deref.ensures.value c.in_ok-copied.ensures.copied in
    all-renewed c.args.terms.now c.len-len.ensures.fit c.args.root c.in_ok-marks.marks.items c.in_ok-marks.ensures c.copied.new.new c.copied.new.places.items c.requires whole all
