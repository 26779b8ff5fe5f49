use Rattle.std.proofs.Common.{◌≡◌, ◌+◌, ◌∙◌, sym, ap, subst, arith}
use Rattle.hk_term.specs.Shape.{Grows}
use Rattle.hk_term.specs.declared.node.Node.TheVariants.{Var, ForAll}
use Rattle.hk_copy.specs.declared.walk.Plan.TheVariants.{Variable, Inside}
use Rattle.hk_copy.specs.Making.{IsPlan}
use Rattle.hk_copy.specs.Stands.{without}
use Rattle.hk_copy.specs.Copies.{Copies, AreReady}
use Rattle.hk_copy.specs.Reach.{StandsPass}
use Rattle.hk_copy.proofs.CopyLaws.{copies-width}
use Rattle.hk_copy.proofs.ListLaws.{pass-without}
use Rattle.hk_copy.proofs.MakingLaws.{copies-within, inner-quantifier}
use Rattle.hk_copy.proofs.StepLaws.{grows-refl, longer-width, ready-inside, standing-none, kept-falls}
use Rattle.hk_copy.proofs.walk.+copying.Goals as goal

pub advance-returns-in_ok-keep-in-Copied-clause-smaller : goal.advance-returns-in_ok-keep-in-Copied-clause-smaller
advance-returns-in_ok-keep-in-Copied-clause-smaller t c =
    let standing = c.requires.standing in
    kept-falls c.args.copies.now c.keep.new.copies c.args.term c.args.at c.in-Copied.copy c.next.result standing.0 c.next.ensures.0
    (standing-none c.args.copies.now c.args.term c.args.at standing c.requires.going) c.in_ok-keep-in-Copied.ensures.kept c.in_ok-keep-in-Copied.ensures.others

pub inside-copy_under-requires : goal.inside-copy_under-requires
inside-copy_under-requires t c =
    let left : c.as_slice-2.result.now ≡ without c.args.bound c.args.stands.now =
    c.as_slice-2.ensures.value ∙ c.in_ok-left.ensures ∙ ap (λ b. without b c.args.stands.now) c.as_slice.ensures in
    (omega (arith, c.decreases), (c.requires.body, subst (λ e. AreReady c.args.terms.now e (c.args.body + 1)) (sym left) (ready-inside c.args.terms.now c.args.bound c.args.stands.now (c.args.body + 1) c.requires.ready)))

pub inside-put-requires : goal.inside-put-requires
inside-put-requires t c =
    let old = c.args.terms.now in
    let new = c.copy_under.new.terms in
    let grown : Grows old new = c.in_ok-copy.ensures.grows old (grows-refl old) in (
      copies-within new _ c.args.body c.in_ok-copy.copy c.in_ok-copy.ensures.copies,
      copies-width new c.len-len.ensures.fit c.in_ok-copy.ensures.copies ∙ longer-width old new grown c.args.body c.requires.body ∙ c.requires.truth,
    )

pub inside-returns-clause-copies : goal.inside-returns-clause-copies
inside-returns-clause-copies t c =
    let new = c.put.new.terms in
    let left : c.as_slice-2.result.now ≡ without c.args.bound c.args.stands.now =
    c.as_slice-2.ensures.value ∙ c.in_ok-left.ensures ∙ ap (λ b. without b c.args.stands.now) c.as_slice.ensures in
    let body : Copies new (without c.args.bound c.args.stands.now) c.args.body c.in_ok-copy.copy =
    subst (λ e. Copies new e c.args.body c.in_ok-copy.copy) left (c.in_ok-made.ensures.keeps_copies c.as_slice-2.result.now c.args.body c.in_ok-copy.copy c.in_ok-copy.ensures.copies) in
    λ q at. inner-quantifier new c.args.stands.now q c.in_ok-made.made c.args.bound c.args.body c.in_ok-copy.copy at c.requires.apart body c.in_ok-made.ensures.at

pub inside-returns-in_err-copy-clause-adds : goal.inside-returns-in_err-copy-clause-adds
inside-returns-in_err-copy-clause-adds t c =
    let left : c.as_slice-2.result.now ≡ without c.args.bound c.args.stands.now =
    c.as_slice-2.ensures.value ∙ c.in_ok-left.ensures ∙ ap (λ b. without b c.args.stands.now) c.as_slice.ensures in
    λ tests all its pass. c.copy_under.ensures.adds tests all (subst (StandsPass tests) (sym left) (pass-without tests c.args.bound c.args.stands.now pass))

pub inside-returns-in_err-made-clause-adds : goal.inside-returns-in_err-made-clause-adds
inside-returns-in_err-made-clause-adds t c =
    let left : c.as_slice-2.result.now ≡ without c.args.bound c.args.stands.now =
    c.as_slice-2.ensures.value ∙ c.in_ok-left.ensures ∙ ap (λ b. without b c.args.stands.now) c.as_slice.ensures in
    λ tests all its pass. c.put.ensures.adds tests (c.copy_under.ensures.adds tests all (subst (StandsPass tests) (sym left) (pass-without tests c.args.bound c.args.stands.now pass))) its

pub inside-returns-clause-adds : goal.inside-returns-clause-adds
inside-returns-clause-adds t c =
    let left : c.as_slice-2.result.now ≡ without c.args.bound c.args.stands.now =
    c.as_slice-2.ensures.value ∙ c.in_ok-left.ensures ∙ ap (λ b. without b c.args.stands.now) c.as_slice.ensures in
    λ tests all its pass. c.put.ensures.adds tests (c.copy_under.ensures.adds tests all (subst (StandsPass tests) (sym left) (pass-without tests c.args.bound c.args.stands.now pass))) its

pub copy_at-returns-in_err-copy-in-Variable-clause-adds : goal.copy_at-returns-in_err-copy-in-Variable-clause-adds
copy_at-returns-in_err-copy-in-Variable-clause-adds t c =
    let plan : IsPlan c.args.terms.now c.args.stands.now c.args.copies.now c.args.t (Variable c.in-Variable.width c.in-Variable.id) =
    subst (IsPlan c.args.terms.now c.args.stands.now c.args.copies.now c.args.t) c.in-Variable.is c.in_ok-part.ensures in
    λ tests all pass. c.variable.ensures.adds tests all (all c.args.t (Var c.in-Variable.width c.in-Variable.id) plan.0) pass

pub copy_at-returns-in_err-copy-in-Inside-clause-adds : goal.copy_at-returns-in_err-copy-in-Inside-clause-adds
copy_at-returns-in_err-copy-in-Inside-clause-adds t c =
    let plan : IsPlan c.args.terms.now c.args.stands.now c.args.copies.now c.args.t (Inside c.in-Inside.bound c.in-Inside.body) =
    subst (IsPlan c.args.terms.now c.args.stands.now c.args.copies.now c.args.t) c.in-Inside.is c.in_ok-part.ensures in
    λ tests all pass. c.inside.ensures.adds tests all (all c.args.t (ForAll c.in-Inside.bound c.in-Inside.body) plan.0) pass

pub copy_at-returns-in_ok-copy-in-Variable-clause-adds : goal.copy_at-returns-in_ok-copy-in-Variable-clause-adds
copy_at-returns-in_ok-copy-in-Variable-clause-adds t c =
    let plan : IsPlan c.args.terms.now c.args.stands.now c.args.copies.now c.args.t (Variable c.in-Variable.width c.in-Variable.id) =
    subst (IsPlan c.args.terms.now c.args.stands.now c.args.copies.now c.args.t) c.in-Variable.is c.in_ok-part.ensures in
    λ tests all pass. c.variable.ensures.adds tests all (all c.args.t (Var c.in-Variable.width c.in-Variable.id) plan.0) pass

pub copy_at-returns-in_ok-copy-in-Inside-clause-adds : goal.copy_at-returns-in_ok-copy-in-Inside-clause-adds
copy_at-returns-in_ok-copy-in-Inside-clause-adds t c =
    let plan : IsPlan c.args.terms.now c.args.stands.now c.args.copies.now c.args.t (Inside c.in-Inside.bound c.in-Inside.body) =
    subst (IsPlan c.args.terms.now c.args.stands.now c.args.copies.now c.args.t) c.in-Inside.is c.in_ok-part.ensures in
    λ tests all pass. c.inside.ensures.adds tests all (all c.args.t (ForAll c.in-Inside.bound c.in-Inside.body) plan.0) pass
