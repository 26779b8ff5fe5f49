use Rattle.std.proofs.Common.{sym, length, subst}
use Rattle.hk_term.specs.Shape.{NodeFits, width}
use Rattle.hk_term.specs.Facts.{Holds}
use Rattle.hk_term.proofs.TermLists.{holds}
use Rattle.hk_copy.specs.Making.{copy_in, IsFolded}
use Rattle.hk_copy.proofs.ListLaws.{pass-made}
use Rattle.hk_copy.proofs.MakingLaws.{part-before, renewed-fits, made-copy, folded-fits}
use Rattle.hk_copy.proofs.walk.made.Goals as goal

pub folded-requires : goal.folded-requires
folded-requires c =
    let nodes = c.args.terms.now in
    let h : Holds nodes c.args.t c.args.node.now = holds nodes c.args.t c.args.node.now c.requires.fit c.requires.term in
    subst (NodeFits (length nodes) (width nodes)) (sym c.in-Ok.ensures.ok)
    (renewed-fits nodes c.requires.fit c.args.stands.now c.args.copies.now c.requires.copies c.args.node.now c.args.t c.in-Ok.ensures.parts h.fits)

pub returns-in-Ok : goal.returns-in-Ok
returns-in-Ok c =
    let nodes = c.args.terms.now in
    let h : Holds nodes c.args.t c.args.node.now = holds nodes c.args.t c.args.node.now c.requires.fit c.requires.term in
    let fits : NodeFits (length nodes) (width nodes) c.in-Ok.node =
    subst (NodeFits (length nodes) (width nodes)) (sym c.in-Ok.ensures.ok)
    (renewed-fits nodes c.requires.fit c.args.stands.now c.args.copies.now c.requires.copies c.args.node.now c.args.t c.in-Ok.ensures.parts h.fits) in (
      folded-fits nodes c.requires.fit c.in-Ok.node c.folded.result fits c.folded.ensures,
      λ new r g at.
          made-copy nodes c.requires.fit c.args.stands.now c.args.copies.now c.requires.copies new g c.args.t r c.args.node.now c.folded.result c.requires.term c.requires.operation c.in-Ok.ensures.parts
          (subst (λ n. IsFolded nodes n c.folded.result) c.in-Ok.ensures.ok c.folded.ensures) at,
      pass-made nodes (copy_in c.args.copies.now) c.args.t c.args.node.now c.folded.result c.requires.term
          (subst (λ n. IsFolded nodes n c.folded.result) c.in-Ok.ensures.ok c.folded.ensures),
    )

pub returns-in-Err : goal.returns-in-Err
returns-in-Err c =
    let nodes = c.args.terms.now in
    let h : Holds nodes c.args.t c.args.node.now = holds nodes c.args.t c.args.node.now c.requires.fit c.requires.term in
    (part-before c.args.node.now c.args.t (width nodes) c.in-Err.part h.fits c.in-Err.ensures.waits.0, c.in-Err.ensures.waits.1)
