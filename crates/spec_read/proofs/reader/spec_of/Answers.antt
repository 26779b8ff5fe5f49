use Rattle.std.proofs.Common.{Ok, sym, ap, subst, ◌∙◌}
use Rattle.std.proofs.lemmas.Result.{err_from_is_err_and}
use Rattle.spec_read.specs.LineReading.{lines_read}
use Rattle.spec_read.specs.declared.section.Section.TheVariants.{Nowhere}
use Rattle.spec_read.proofs.TextLaws.{one_spec}
use Rattle.spec_read.proofs.FaultPlaces.{answer_within}
use Rattle.spec_read.proofs.TextAnswers.{FaultTold, answers_read, answers_fault, answers_lines, answer_only, answer_first}
use Rattle.spec_read.proofs.reader.spec_of.Goals as goal

-- ---- a fault of the first kinds

pub returns-in_err-found-clause-first : goal.returns-in_err-found-clause-first
returns-in_err-found-clause-first c =
    let p = err_from_is_err_and c.from_residual.result c.from_residual.ensures.1 in
    answer_first c.args.text.now c.from_residual.result (rw (p.1, p.2) (answers_lines c.args.text.now c.in_err-found.field-0.0 c.in_err-found.ensures.fault))

pub returns-in_err-found-clause-one : goal.returns-in_err-found-clause-one
returns-in_err-found-clause-one c = one_spec c.args.text.now

-- ---- a fault of a line

pub returns-in_err-lines-clause-answer : goal.returns-in_err-lines-clause-answer
returns-in_err-lines-clause-answer c =
    let p = err_from_is_err_and c.from_residual-in_err-lines.result c.from_residual-in_err-lines.ensures.1 in
    rw (p.1, p.2)
    (answers_fault c.args.text.now c.in_ok-found.found c.in_err-lines.field-0.0 c.in_ok-found.ensures.read c.in_ok-found.ensures.clean
    (subst (λ ls. FaultTold c.in_err-lines.field-0.0 (lines_read Nowhere ls)) c.as_slice.ensures c.in_err-lines.ensures))

pub returns-in_err-lines-clause-only : goal.returns-in_err-lines-clause-only
returns-in_err-lines-clause-only c = answer_only c.args.text.now c.from_residual-in_err-lines.result (returns-in_err-lines-clause-answer c)

pub returns-in_err-lines-clause-first : goal.returns-in_err-lines-clause-first
returns-in_err-lines-clause-first c = answer_first c.args.text.now c.from_residual-in_err-lines.result (returns-in_err-lines-clause-answer c)

pub returns-in_err-lines-clause-one : goal.returns-in_err-lines-clause-one
returns-in_err-lines-clause-one c = one_spec c.args.text.now

-- ---- all lines

pub returns-clause-answer : goal.returns-clause-answer
returns-clause-answer c =
    answers_read c.args.text.now c.in_ok-found.found (record { lines = c.in_ok-lines.lines }) c.in_ok-found.ensures.read c.in_ok-found.ensures.clean (sym (ap (lines_read Nowhere) c.as_slice.ensures) ∙ c.in_ok-lines.ensures)

pub returns-clause-only : goal.returns-clause-only
returns-clause-only c = answer_only c.args.text.now (Ok (record { lines = c.in_ok-lines.lines })) (returns-clause-answer c)

pub returns-clause-first : goal.returns-clause-first
returns-clause-first c = answer_first c.args.text.now (Ok (record { lines = c.in_ok-lines.lines })) (returns-clause-answer c)

pub returns-clause-one : goal.returns-clause-one
returns-clause-one c = one_spec c.args.text.now

pub returns-in_err-lines-clause-within : goal.returns-in_err-lines-clause-within
returns-in_err-lines-clause-within c = answer_within c.args.text.now c.from_residual-in_err-lines.result (returns-in_err-lines-clause-answer c)
