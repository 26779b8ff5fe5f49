use Rattle.spec_tree.specs.View.{view_spec}
use Rattle.hk_claims.specs.Fitting.{AllFit}
use Rattle.hk_verify.proofs.Loading.{if_ok}
use Rattle.hk_verify.proofs.ThreeTexts.{third_refused}
use Rattle.hk_verify.proofs.claims.read_three.Goals as goal

pub returns-in-Err-certificate_of_text-clause-read : goal.returns-in-Err-certificate_of_text-clause-read
returns-in-Err-certificate_of_text-clause-read c =
    third_refused c.args.kernel.now c.args.spec.now c.args.cert.now c.in-Ok.inputs c.in-Err-certificate_of_text.fault c.in-Ok.ensures.read c.in-Err-certificate_of_text.ensures.stop
    c.in-Err-certificate_of_text.ensures.read

pub returns-in-Ok-entries_fit-clause-fit : goal.returns-in-Ok-entries_fit-clause-fit
returns-in-Ok-entries_fit-clause-fit c = λ l laid.
    if_ok (λ _. AllFit l.objects (view_spec c.in-Ok.inputs.spec) c.in-Ok-certificate_of_text.certificate.entries) _ _ c.in-Ok-entries_fit.is
    (c.entries_fit.ensures l (view_spec c.in-Ok.inputs.spec) c.args.cert.now c.in-Ok-certificate_of_text.certificate.entries laid (c.in-Ok-certificate_of_text.ensures.read l laid))
