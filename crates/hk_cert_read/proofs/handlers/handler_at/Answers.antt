use Rattle.std.proofs.Common.{rules, ◌≡◌, ap, subst, ◌∙◌, slice_index_or}
use Rattle.ir_ast.specs.ProgramView.{view_module}
use Rattle.spec_tree.specs.View.{view_spec, view_transition}
use Rattle.spec_state.proofs.Turns.{found_at}
use Rattle.hk_cert_text.specs.declared.entry.Entry.{Entry}
use Rattle.hk_cert.specs.Steps.{place_of, Gives}
use Rattle.hk_cert_read.specs.Handling.{entry_by}
use Rattle.hk_cert_read.specs.Widths.{wide_for}
use Rattle.hk_cert_read.proofs.Widening.{entry_same}
use Rattle.hk_cert_read.proofs.handlers.handler_at.Goals as goal

pub returns : goal.returns
returns c = λ l t laid start found.
    let s = view_spec c.args.spec.now in
    let m = view_module c.args.kernel.now in
    let x = c.index-as_slice-h.result in
    let is : x ≡ slice_index_or c.args.spec.now.transitions c.args.h x = search rules in
    let same : view_transition x ≡ t = found_at view_transition c.args.spec.now.transitions c.args.h x t c.requires.there is found in
    let wide = wide_for c.wide_of-wide.result in
    subst (λ r. Gives (λ (e : Entry). e) c.entry_at.result r)
    (ap (λ u. entry_by m c.args.initial.now wide s u (place_of c.args.at)) same
    ∙ entry_same l.objects s t wide (c.wide_of-wide.ensures l t laid found) m c.args.initial.now start (place_of c.args.at))
    c.entry_at.ensures
