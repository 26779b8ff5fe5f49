use Rattle.std.proofs.Common.{ap, ◌∙◌}
use Rattle.std.proofs.lemmas.Result.{err_from_is_err_and}
use Rattle.spec_ast.specs.View.{view_item, view_lines}
use Rattle.spec_lex.specs.Lines.{line_of, lines_of}
use Rattle.spec_read.specs.Sections.{next_section}
use Rattle.spec_read.proofs.LineAnswers.{line_stops, line_put, put_views}
use Rattle.spec_read.proofs.reader.put_line.Goals as goal

pub returns-in_err-item : goal.returns-in_err-item
returns-in_err-item c =
    let p = err_from_is_err_and c.from_residual.result c.from_residual.ensures.1 in
    rw (p.1, p.2)
    (line_stops view_item (view_lines c.args.found.now.items) (view_lines c.args.found.now.items) c.args.section (line_of c.args.line.now) (lines_of c.args.after.now) c.in_err-item.field-0.0 c.in_err-item.ensures.value)

pub returns : goal.returns
returns c =
    line_put (view_lines c.args.found.now.items) (view_lines c.push.new.self.items) c.args.section c.next_section-next.result (line_of c.args.line.now) (lines_of c.args.after.now) (view_item c.in_ok-item.item)
    c.in_ok-item.ensures.value (c.next_section-next.ensures ∙ ap (λ s. next_section s (view_item c.in_ok-item.item)) c.section_at.ensures)
    (put_views c.args.found.now.items c.push.new.self.items (record { line = c.args.line.now.line; item = c.in_ok-item.item }) c.in_ok-push.ensures.items)
