use Rattle.std.proofs.Common.{List, [], Ok}
use Rattle.std.proofs.lemmas.Result.{err_from_is_err_and}
use Rattle.spec_tree.specs.View.{view_spec}
use Rattle.hk_proof.specs.declared.Proof.{Proof}
use Rattle.hk_cert_text.specs.declared.entry.Entry.{Entry}
use Rattle.hk_cert_text.specs.declared.entry.Entry.TheVariants.{Accept}
use Rattle.hk_cert.specs.Steps.{place_of}
use Rattle.hk_cert_read.specs.Proving.{proofs_by}
use Rattle.hk_cert_read.specs.Widths.{wide_for}
use Rattle.hk_cert_read.proofs.Exits.{exit_then}
use Rattle.hk_cert_read.proofs.handlers.accepted_at.Goals as goal

pub returns-in_err-proofs : goal.returns-in_err-proofs
returns-in_err-proofs c =
    let p = err_from_is_err_and c.from_residual.result c.from_residual.ensures.1 in
    rw (p.1, p.2)
    (exit_then (λ (x : List Proof). x) (λ (x : Entry). x) c.in_err-proofs.field-0.0 (proofs_by (wide_for c.args.wide) (view_spec c.args.spec.now) [] c.args.owed.now (place_of c.args.at))
    (λ proofs q. Ok (Accept c.args.line proofs, q)) c.in_err-proofs.ensures)
