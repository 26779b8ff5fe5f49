use Rattle.std.proofs.Common.{ℕ, List, sym, ◌∙◌, ap, subst, Some}
use Rattle.std.specs.Prelude.{slice_get}
use Rattle.hk_term.specs.declared.bounds.Bound.{Bound}
use Rattle.hk_term.specs.declared.node.Node.TheVariants.{ForAll}
use Rattle.hk_inst.specs.Truths.{IsTuple}
use Rattle.hk_inst.specs.States.{asked_of}
use Rattle.hk_inst.proofs.Subjects.{tuple-subject}
use Rattle.hk_inst.proofs.subject.tuple_of.Goals as goal

pub returns-clause-ok : goal.returns-clause-ok
returns-clause-ok c =
    let x = c.in-Some.ensures.some in
    tuple-subject c.args.s.now.terms (asked_of c.args.s.now).table c.args.k c.args.indices.now c.in-Some.found.0 c.in_ok-bound.bound c.in-Some.found.2 (ap (λ l. slice_get l c.args.k) (sym c.as_slice.ensures.value) ∙ x.0)
    (x.1 ∙ ap (λ b. Some (ForAll b c.in-Some.found.2)) (sym c.in_ok-bound.ensures))
    (subst (λ (z : List Bound × List ℕ). IsTuple z.0 z.1) (λ n. ((c.as_slice-2.ensures ∙ sym c.in_ok-bound.ensures) n, c.as_slice-3.ensures n)) (c.is_tuple.ensures.yes c.if-not-is_tuple.false))
