use Rattle.std.proofs.Common.{subst, sym, ap, ◌∙◌}
use Rattle.std.specs.Prelude.{slice_index}
use Rattle.hk_term.specs.Facts.{Holds}
use Rattle.hk_copy.specs.Making.{renewed}
use Rattle.hk_cone.specs.Cones.{AreCopied}
use Rattle.hk_cone.proofs.CopyLaws.{made-fits, pushed}
use Rattle.hk_cone.proofs.cone.copy_one.Goals as goal

pub intern-requires : goal.intern-requires
intern-requires c =
    let nodes = c.args.terms.now in
    made-fits nodes c.len-len.ensures.fit c.args.marks.now c.args.new.now c.args.places.now.items c.requires.copied c.args.at c.node.result.now c.in_ok-node.node c.requires.next c.requires.marked c.requires.closed
    (subst (λ k. Holds nodes k c.node.result.now) c.at.ensures c.node.ensures.holds) (c.in_ok-node.ensures ∙ ap (λ l. renewed (slice_index l) c.node.result.now) c.deref.ensures.value)

pub returns-clause-copied : goal.returns-clause-copied
returns-clause-copied c =
    let nodes = c.args.terms.now in
    subst (AreCopied nodes c.args.marks.now c.intern.new.self) (sym c.in_ok-push.ensures.items)
    (pushed nodes c.len-len.ensures.fit c.args.marks.now c.args.new.now c.args.places.now.items c.requires.copied c.args.at c.node.result.now c.in_ok-node.node c.requires.next c.requires.marked c.requires.closed
    (subst (λ k. Holds nodes k c.node.result.now) c.at.ensures c.node.ensures.holds) (c.in_ok-node.ensures ∙ ap (λ l. renewed (slice_index l) c.node.result.now) c.deref.ensures.value)
    c.intern.new.self c.in_ok-copy.copy c.in_ok-copy.ensures.holds c.in_ok-copy.ensures.value c.in_ok-copy.ensures.width c.intern.ensures.keeps_widths c.intern.ensures.keeps_values c.intern.ensures.keeps_nodes c.intern.ensures.longer c.in_ok-copy.ensures.ok)
