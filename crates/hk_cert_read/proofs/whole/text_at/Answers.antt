use Rattle.std.proofs.Common.{List, [], Ok, refl, ◌∙◌, codes}
use Rattle.std.proofs.lemmas.Result.{err_from_is_err_and}
use Rattle.ir_ast.specs.ProgramView.{view_module}
use Rattle.spec_tree.specs.View.{view_spec}
use Rattle.hk_cert_text.specs.declared.entry.Entry.{Entry}
use Rattle.hk_cert.specs.Steps.{and_then, line_at, place_of}
use Rattle.hk_cert.specs.Reading.{entries_from, is_line, with_end}
use Rattle.hk_cert.proofs.Taking.{then_ok}
use Rattle.hk_cert_read.proofs.Exits.{exit_second}
use Rattle.hk_cert_read.proofs.whole.text_at.Goals as goal

pub returns-in_err-entries : goal.returns-in_err-entries
returns-in_err-entries c =
    let p = err_from_is_err_and c.from_residual-in_err-entries.result c.from_residual-in_err-entries.ensures.1 in
    let s = view_spec c.args.spec.now in
    let m = view_module c.args.kernel.now in
    let first = line_at (is_line (codes "hkv certificate 1")) (place_of c.args.at) in
    let q = place_of c.in_ok-_first.begun in
    rw (p.1, p.2)
    (λ l laid start.
    exit_second (λ (x : List Entry). x) (λ (x : List Entry). x) c.in_err-entries.field-0.0 first (λ _ q. and_then (entries_from m l.objects s [] s.transitions q) (λ entries r. with_end entries r)) c.in_ok-_first._first q
    (entries_from m l.objects s [] s.transitions q) (λ entries r. with_end entries r) c.in_ok-_first.ensures refl (c.in_err-entries.ensures l laid start))

pub returns : goal.returns
returns c = λ l laid start.
    let s = view_spec c.args.spec.now in
    let m = view_module c.args.kernel.now in
    let first = line_at (is_line (codes "hkv certificate 1")) (place_of c.args.at) in
    let q = place_of c.in_ok-_first.begun in
    let entries = c.in_ok-entries.entries in
    let r = place_of c.in_ok-entries.behind in
    then_ok first (λ _ q. and_then (entries_from m l.objects s [] s.transitions q) (λ entries r. with_end entries r)) c.in_ok-_first._first q c.in_ok-_first.ensures
    ∙ (then_ok (entries_from m l.objects s [] s.transitions q) (λ entries r. with_end entries r) entries r (c.in_ok-entries.ensures l laid start)
    ∙ then_ok (line_at (is_line (codes "end")) r) (λ _ z. Ok (entries, z)) c.in_ok-_last._last (place_of c.in_ok-_last.after) c.in_ok-_last.ensures)
