use Rattle.std.proofs.Common.{Ok}
use Rattle.std.proofs.lemmas.Result.{err_from_is_err_and}
use Rattle.ir_ast.specs.ProgramView.{view_module}
use Rattle.spec_tree.specs.View.{view_spec, view_transition}
use Rattle.hk_case.specs.declared.Case.{Case}
use Rattle.hk_cert_text.specs.declared.entry.Entry.{Entry}
use Rattle.hk_cert_text.specs.declared.entry.Entry.TheVariants.{Reject}
use Rattle.hk_cert.specs.Steps.{place_of}
use Rattle.hk_cert.specs.States.{case_at}
use Rattle.hk_cert_read.proofs.Exits.{exit_then}
use Rattle.hk_cert_read.proofs.handlers.rejected_at.Goals as goal

pub returns-in_err-case : goal.returns-in_err-case
returns-in_err-case c =
    let p = err_from_is_err_and c.from_residual.result c.from_residual.ensures.1 in
    rw (p.1, p.2)
    (exit_then (λ (x : Case). x) (λ (x : Entry). x) c.in_err-case.field-0.0
    (case_at (view_module c.args.setting.now.kernel.now) c.args.setting.now.initial.now (view_spec c.args.setting.now.spec.now) (view_transition c.args.setting.now.transition.now) c.args.obligation (place_of c.args.at))
    (λ case q. Ok (Reject c.args.obligation case, q)) c.in_err-case.ensures)
