use Rattle.std.proofs.Common.{◌≤◌, ◌<◌, ◌+◌, List, [], ◌∷◌, ◌++◌, length, drop, ap, sym, ◌∙◌, arith}
use Rattle.std.proofs.lemmas.List.{length-map}
use Rattle.std.proofs.lemmas.Result.{err_from_is_err_and}
use Rattle.ir_ast.specs.ProgramView.{view_module}
use Rattle.spec_tree.specs.View.{view_spec, view_transition}
use Rattle.spec_state.proofs.Turns.{drop_end}
use Rattle.hk_cnf.specs.Text.{lines_of}
use Rattle.hk_cert_text.specs.declared.entry.Entry.{Entry}
use Rattle.hk_cert.specs.Steps.{place_of}
use Rattle.hk_cert.specs.Reading.{entry_at, entries_from}
use Rattle.hk_cert.proofs.Taking.{place}
use Rattle.hk_cert_read.proofs.Exits.{next_ok, next_err}
use Rattle.hk_cert_read.proofs.Following.{there, left_at, entries_step, entries_end}
use Rattle.hk_cert_read.proofs.handlers.entries_at.Goals as goal

pub returns-in_err-entry : goal.returns-in_err-entry
returns-in_err-entry c =
    let p = err_from_is_err_and c.from_residual.result c.from_residual.ensures.1 in
    let s = view_spec c.args.spec.now in
    let m = view_module c.args.kernel.now in
    let ts = s.transitions in
    let h = c.each.h in
    let at = place c.each.line (lines_of c.each.text.now) in
    let low : h < length ts = omega (arith, c.each-test.true, c.handlers_in-h-end.ensures, length-map c.args.spec.now.transitions view_transition) in
    let t = there ts h low in
    rw (p.1, p.2)
    (λ l laid start.
    next_err (λ (x : Entry). x) (λ (x : List Entry). x) c.in_err-entry.field-0.0 (entry_at m l.objects s t.0 at) (λ e q. entries_from m l.objects s (c.each.entries ++ e ∷ []) (drop (h + 1) ts) q)
    (entries_from m l.objects s c.each.entries (drop h ts) at) (entries_from m l.objects s [] ts (place_of c.args.at))
    (entries_step m l.objects s c.each.entries at (drop h ts) t.0 (drop (h + 1) ts) (left_at ts h t.0 t.1))
    (c.each.invariant l laid start) (c.in_err-entry.ensures l t.0 laid start t.1))

pub each-preserved : goal.each-preserved
each-preserved c = λ l laid start.
    let s = view_spec c.args.spec.now in
    let m = view_module c.args.kernel.now in
    let ts = s.transitions in
    let h = c.each.h in
    let at = place c.each.line (lines_of c.each.text.now) in
    let low : h < length ts = omega (arith, c.each-test.true, c.handlers_in-h-end.ensures, length-map c.args.spec.now.transitions view_transition) in
    let t = there ts h low in
    ap (λ entries. entries_from m l.objects s entries (drop (h + 1) ts) (place_of c.in_ok-entry.after)) c.in_ok-push.ensures.ok
    ∙ (sym (next_ok (entries_from m l.objects s c.each.entries (drop h ts) at) (entry_at m l.objects s t.0 at) (λ e q. entries_from m l.objects s (c.each.entries ++ e ∷ []) (drop (h + 1) ts) q)
    c.in_ok-entry.entry (place_of c.in_ok-entry.after)
    (entries_step m l.objects s c.each.entries at (drop h ts) t.0 (drop (h + 1) ts) (left_at ts h t.0 t.1))
    (c.in_ok-entry.ensures l t.0 laid start t.1))
    ∙ c.each.invariant l laid start)

pub returns : goal.returns
returns c = λ l laid start.
    let s = view_spec c.args.spec.now in
    let m = view_module c.args.kernel.now in
    let ts = s.transitions in
    let h = c.each.h in
    let at = place c.each.line (lines_of c.each.text.now) in
    let past : length ts ≤ h = omega (arith, c.each-test.false, c.handlers_in-h-end.ensures, length-map c.args.spec.now.transitions view_transition) in
    sym (c.each.invariant l laid start) ∙ entries_end m l.objects s c.each.entries at (drop h ts) (drop_end ts h past)
