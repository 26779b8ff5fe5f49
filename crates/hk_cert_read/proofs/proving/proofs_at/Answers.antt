use Rattle.std.proofs.Common.{List, [], ◌∷◌, ◌++◌, ◌+◌, drop, get_or, ap, sym, ◌∙◌}
use Rattle.std.proofs.lemmas.Result.{err_from_is_err_and}
use Rattle.hk_cnf.specs.Text.{lines_of}
use Rattle.spec_tree.specs.View.{view_spec}
use Rattle.std.proofs.lemmas.List.{drop_more}
use Rattle.spec_state.proofs.Turns.{drop_end}
use Rattle.hk_case.specs.declared.Obligation.TheVariants.{Undefined}
use Rattle.hk_proof.specs.declared.Proof.{Proof}
use Rattle.hk_cert.specs.Steps.{place_of}
use Rattle.hk_cert.proofs.Taking.{place}
use Rattle.hk_cert_read.specs.Proving.{proved_by, proofs_by}
use Rattle.hk_cert_read.specs.Widths.{wide_for}
use Rattle.hk_cert_read.proofs.Exits.{next_ok, next_err}
use Rattle.hk_cert_read.proofs.Following.{proofs_step, proofs_end}
use Rattle.hk_cert_read.proofs.proving.proofs_at.Goals as goal

pub returns-in_err-proof : goal.returns-in_err-proof
returns-in_err-proof c =
    let p = err_from_is_err_and c.from_residual.result c.from_residual.ensures.1 in
    let wide = wide_for c.args.wide in
    let s = view_spec c.args.spec.now in
    let k = c.each.obligation-index in
    let at = place c.each.line (lines_of c.each.text.now) in
    let o = get_or c.args.owed.now k Undefined in
    rw (p.1, p.2)
    (next_err (λ (x : Proof). x) (λ (x : List Proof). x) c.in_err-proof.field-0.0 (proved_by wide s o at) (λ proof q. proofs_by wide s (c.each.proofs ++ proof ∷ []) (drop (k + 1) c.args.owed.now) q)
    (proofs_by wide s c.each.proofs (drop k c.args.owed.now) at) (proofs_by wide s [] c.args.owed.now (place_of c.args.at))
    (proofs_step wide s c.each.proofs at (drop k c.args.owed.now) o (drop (k + 1) c.args.owed.now) (drop_more c.args.owed.now k Undefined c.each-test.true))
    c.each.invariant c.in_err-proof.ensures)

pub each-preserved : goal.each-preserved
each-preserved c =
    let wide = wide_for c.args.wide in
    let s = view_spec c.args.spec.now in
    let k = c.each.obligation-index in
    let at = place c.each.line (lines_of c.each.text.now) in
    let o = get_or c.args.owed.now k Undefined in
    ap (λ proofs. proofs_by wide s proofs (drop (k + 1) c.args.owed.now) (place_of c.in_ok-proof.after)) c.in_ok-push.ensures.ok
    ∙ (sym (next_ok (proofs_by wide s c.each.proofs (drop k c.args.owed.now) at) (proved_by wide s o at) (λ proof q. proofs_by wide s (c.each.proofs ++ proof ∷ []) (drop (k + 1) c.args.owed.now) q)
    c.in_ok-proof.proof (place_of c.in_ok-proof.after)
    (proofs_step wide s c.each.proofs at (drop k c.args.owed.now) o (drop (k + 1) c.args.owed.now) (drop_more c.args.owed.now k Undefined c.each-test.true))
    c.in_ok-proof.ensures)
    ∙ c.each.invariant)

pub returns : goal.returns
returns c =
    sym c.each.invariant
    ∙ proofs_end (wide_for c.args.wide) (view_spec c.args.spec.now) c.each.proofs (place c.each.line (lines_of c.each.text.now)) (drop c.each.obligation-index c.args.owed.now) (drop_end c.args.owed.now c.each.obligation-index c.each-test.false)
