use Rattle.std.proofs.Common.{◌≡◌, sym, ap, subst, ◌∙◌}
use Rattle.std.specs.Prelude.{Some, None}
use Rattle.spec_lex.specs.Lines.{AreLinesOf}
use Rattle.spec_lex.specs.Faults.{first_fault}
use Rattle.spec_lex.proofs.LineLaws.{lines_sound, lines_complete}
use Rattle.spec_lex.proofs.FaultLaws.{clean_none, none_clean, fault_first, first_found, fault_within}
use Rattle.spec_lex.proofs.lexer.lines.Goals as goal

pub returns-in-None-clause-read : goal.returns-in-None-clause-read
returns-in-None-clause-read c = subst (AreLinesOf c.args.text.now) (sym c.in_ok-found.ensures) (lines_sound c.args.text.now)

pub returns-in-None-clause-clean : goal.returns-in-None-clause-clean
returns-in-None-clause-clean c = none_clean c.in_ok-found.found (sym (c.in-None.ensures ∙ ap first_fault c.as_slice.ensures))

pub returns-in-None-clause-only : goal.returns-in-None-clause-only
returns-in-None-clause-only c = λ ls printed clean. c.in_ok-found.ensures ∙ lines_complete c.args.text.now ls printed

pub returns-in-None-clause-first : goal.returns-in-None-clause-first
returns-in-None-clause-first c = λ ls fault printed first.
    let none : None ≡ first_fault c.in_ok-found.found = c.in-None.ensures ∙ ap first_fault c.as_slice.ensures in
    let same : c.in_ok-found.found ≡ ls = c.in_ok-found.ensures ∙ lines_complete c.args.text.now ls printed in
    let some : first_fault ls ≡ Some fault = first_found ls fault first in
    let both : None ≡ Some fault = none ∙ ap first_fault same ∙ some in
    absurd cc

pub returns-clause-only : goal.returns-clause-only
returns-clause-only c = λ ls printed clean.
    let found : Some c.in-Some.fault ≡ first_fault c.in_ok-found.found = c.in-Some.ensures ∙ ap first_fault c.as_slice.ensures in
    let same : c.in_ok-found.found ≡ ls = c.in_ok-found.ensures ∙ lines_complete c.args.text.now ls printed in
    let both : Some c.in-Some.fault ≡ None = found ∙ ap first_fault same ∙ clean_none ls clean in
    absurd cc

pub returns-clause-fault : goal.returns-clause-fault
returns-clause-fault c =
    let found : first_fault c.in_ok-found.found ≡ Some c.in-Some.fault = sym (c.in-Some.ensures ∙ ap first_fault c.as_slice.ensures) in
    (c.in_ok-found.found, subst (AreLinesOf c.args.text.now) (sym c.in_ok-found.ensures) (lines_sound c.args.text.now), fault_first c.in_ok-found.found c.in-Some.fault found)

pub returns-clause-first : goal.returns-clause-first
returns-clause-first c = λ ls fault printed first.
    let found : Some c.in-Some.fault ≡ first_fault c.in_ok-found.found = c.in-Some.ensures ∙ ap first_fault c.as_slice.ensures in
    let same : c.in_ok-found.found ≡ ls = c.in_ok-found.ensures ∙ lines_complete c.args.text.now ls printed in
    let both : Some c.in-Some.fault ≡ Some fault = found ∙ ap first_fault same ∙ first_found ls fault first in
    cc

pub returns-clause-within : goal.returns-clause-within
returns-clause-within c =
    let found : first_fault c.in_ok-found.found ≡ Some c.in-Some.fault = sym (c.in-Some.ensures ∙ ap first_fault c.as_slice.ensures) in
    fault_within c.args.text.now c.in_ok-found.found c.in-Some.fault (subst (AreLinesOf c.args.text.now) (sym c.in_ok-found.ensures) (lines_sound c.args.text.now)) (fault_first c.in_ok-found.found c.in-Some.fault found)
