use Rattle.std.proofs.Common.{List}
use Rattle.std.proofs.lemmas.Result.{err_from_is_err_and}
use Rattle.ir_ast.specs.ProgramView.{view_module}
use Rattle.spec_tree.specs.View.{view_spec}
use Rattle.hk_cnf.specs.Text.{lines_of}
use Rattle.hk_cert_text.specs.declared.entry.Entry.{Entry}
use Rattle.hk_cert.specs.Steps.{place_of}
use Rattle.hk_cert.specs.Reading.{text_at}
use Rattle.hk_cert.proofs.Taking.{place}
use Rattle.hk_cert_read.proofs.Exits.{exit_whole, whole_more, whole_done}
use Rattle.hk_cert_read.proofs.whole.all_of.Goals as goal

pub returns-in_err-entries : goal.returns-in_err-entries
returns-in_err-entries c =
    let p = err_from_is_err_and c.from_residual.result c.from_residual.ensures.1 in
    rw (p.1, p.2)
    (λ l laid start.
    exit_whole (λ (x : List Entry). x) c.in_err-entries.field-0.0 (text_at (view_module c.args.kernel.now) l.objects (view_spec c.args.spec.now) (place 1 (lines_of c.args.text.now)))
    (c.in_err-entries.ensures l laid start))

pub returns-in_err-no_line : goal.returns-in_err-no_line
returns-in_err-no_line c =
    let p = err_from_is_err_and c.from_residual-in_err-no_line.result c.from_residual-in_err-no_line.ensures.1 in
    rw (p.1, p.2)
    (λ l laid start.
    whole_more c.in_err-no_line.field-0.0 (text_at (view_module c.args.kernel.now) l.objects (view_spec c.args.spec.now) (place 1 (lines_of c.args.text.now))) c.in_ok-entries.entries (place_of c.in_ok-entries.after)
    (c.in_ok-entries.ensures l laid start) (c.in_err-no_line.ensures.err c.in_ok-entries.entries))

pub returns : goal.returns
returns c = λ l laid start.
    whole_done (text_at (view_module c.args.kernel.now) l.objects (view_spec c.args.spec.now) (place 1 (lines_of c.args.text.now))) c.in_ok-entries.entries (place_of c.in_ok-entries.after)
    (c.in_ok-entries.ensures l laid start) c.in_ok-no_line.ensures.ok
