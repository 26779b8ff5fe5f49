use Rattle.std.proofs.Common.{◌≡◌, ◌<◌, false, sym, ◌∙◌, ap, subst, length, Some}
use Rattle.std.specs.List.{list_any}
use Rattle.std.specs.BTreeMap as tree
use Rattle.std.specs.Ordering.{nat_cmp}
use Rattle.hk_term.specs.Shape.{width}
use Rattle.hk_term.specs.Facts.{Holds}
use Rattle.hk_term.specs.declared.node.Node.TheVariants.{ForAll}
use Rattle.hk_term.proofs.TermLists.{holds}
use Rattle.hk_copy.specs.Stands.{is_bound}
use Rattle.hk_copy.specs.Copies.{Copies}
use Rattle.hk_copy.specs.Making.{copy_in}
use Rattle.hk_copy.proofs.CopyLaws.{copies-width}
use Rattle.hk_copy.proofs.MakingLaws.{copies-within, same-quantifier}
use Rattle.hk_copy.proofs.walk.quantified.Goals as goal

pub returns-then-hidden : goal.returns-then-hidden
returns-then-hidden c =
    let nodes = c.args.terms.now in
    let h : Holds nodes c.args.t (ForAll c.args.bound.now c.args.body) = holds nodes c.args.t _ c.requires.fit c.requires.term in
    (c.requires.term ∙ ap (λ b. Some (ForAll b c.args.body)) (sym c.in_ok-bound.ensures), h.fits.0, h.fits.1)

pub returns-in_ok-bound-in-Ok : goal.returns-in_ok-bound-in-Ok
returns-in_ok-bound-in-Ok c =
    let nodes = c.args.terms.now in
    let copies = c.args.copies.now in
    let h : Holds nodes c.args.t (ForAll c.args.bound.now c.args.body) = holds nodes c.args.t _ c.requires.fit c.requires.term in
    let it : Copies nodes c.args.stands.now c.args.body (copy_in copies c.args.body) = c.requires.copies c.args.body (copy_in copies c.args.body) c.in-Ok.ensures.there in
    let shown : list_any (λ e. is_bound c.args.bound.now e.0) c.args.stands.now ≡ false =
    ap (λ b. list_any (λ e. is_bound b e.0) c.args.stands.now) (sym c.as_slice.ensures) ∙ sym c.hides-hidden.ensures ∙ c.if-hidden.false in (
      (
        subst (λ x. x < length nodes) (sym c.in-Ok.ensures.ok) (copies-within nodes c.args.stands.now c.args.body _ it),
        ap (width nodes) c.in-Ok.ensures.ok ∙ copies-width nodes c.requires.fit it ∙ h.fits.1,
      ),
      λ new r g at.
          same-quantifier nodes c.requires.fit c.args.stands.now copies c.requires.copies new g c.args.t r c.args.bound.now c.args.body c.requires.term shown c.requires.apart c.in-Ok.ensures.there
          (at ∙ (λ i. Some (ForAll (c.in_ok-bound-in-Ok.ensures i) (c.in-Ok.ensures.ok i)))),
      λ tests all. ap tests.quantifier c.in_ok-bound-in-Ok.ensures ∙ all c.args.t (ForAll c.args.bound.now c.args.body) c.requires.term,
    )

pub returns-in-Err : goal.returns-in-Err
returns-in-Err c =
    let nodes = c.args.terms.now in
    let h : Holds nodes c.args.t (ForAll c.args.bound.now c.args.body) = holds nodes c.args.t _ c.requires.fit c.requires.term in
    let same = c.in-Err.ensures.waits.0 in
    (subst (λ x. x < c.args.t) (sym same) h.fits.0, ap (λ x. tree.get nat_cmp c.args.copies.now x) same ∙ c.in-Err.ensures.waits.1)
