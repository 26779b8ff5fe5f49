use Rattle.std.proofs.Common.{sym, ◌∙◌, ap}
use Rattle.std.specs.Prelude.{slice_get}
use Rattle.hk_inst.specs.States.{asked_of}
use Rattle.hk_inst.proofs.Subjects.{pair-subject}
use Rattle.hk_inst.proofs.subject.pair_of.Goals as goal

pub returns-then-first-second-clause-ok : goal.returns-then-first-second-clause-ok
returns-then-first-second-clause-ok c =
    let x = c.in-Some.ensures.some in
    let y = c.in-Some-read_at.ensures.some in
    pair-subject c.args.s.now.terms (asked_of c.args.s.now).table c.args.a c.args.b c.in-Some.first.0 c.in-Some-read_at.second.0 c.in-Some.first.2 c.in-Some-read_at.second.2 c.in-Some.first.1 c.in-Some-read_at.second.1 x.1.0 y.1.0
    (ap (λ l. slice_get l c.args.a) (sym c.as_slice-reads.ensures.value) ∙ x.0) (ap (λ l. slice_get l c.args.b) (sym c.as_slice-reads.ensures.value) ∙ y.0) x.1.1 y.1.1 c.if-first-second.true
