-- What reading three texts comes to.

use Rattle.std.proofs.Common.{ℕ, ◌≡◌, Result, Ok, Err, List}
use Rattle.ir_ast.specs.ProgramView.{view_module}
use Rattle.ir_layout.specs.Layouts.{LayoutView, IsLayoutOf}
use Rattle.spec_tree.specs.View.{view_spec}
use Rattle.hk_cert.specs.Reading.{certificate_of}
use Rattle.hk_verify.specs.declared.inputs.Inputs.{Inputs}
use Rattle.hk_verify.specs.declared.answer.TopFault.{TopFault}
use Rattle.hk_verify.specs.declared.answer.TopFault.TheVariants.{Usage, Read, Long, Kernel as OfKernel, Spec as OfSpec, Cert as OfCert, Cnf as OfCnf, Call as OfCall, Memory, Write}
use Rattle.hk_verify.specs.Inputs.{Reads}
use Rattle.hk_verify.specs.Claims.{IsCertStop, ReadsCert, TriesToRead}

pub third_refused : (kernel spec cert : List ℕ) (inputs : Inputs) (fault : TopFault) → Reads kernel spec inputs → IsCertStop fault
    → ((l : LayoutView) → IsLayoutOf (view_module inputs.kernel) l → ReadsCert (certificate_of (view_module inputs.kernel) l.objects (view_spec inputs.spec) cert) (Err fault)) → TriesToRead kernel spec cert (Err fault)
third_refused kernel spec cert inputs (OfCert f) reads why h =
    record { module_ = view_module inputs.kernel; spec = view_spec inputs.spec; the_kernel = reads.the_kernel; the_spec = reads.the_spec; refused = h }
third_refused kernel spec cert inputs Memory reads why h = tt
third_refused kernel spec cert inputs Usage reads why h = absurd why
third_refused kernel spec cert inputs (Read w) reads why h = absurd why
third_refused kernel spec cert inputs (Long w) reads why h = absurd why
third_refused kernel spec cert inputs (OfKernel f) reads why h = absurd why
third_refused kernel spec cert inputs (OfSpec f) reads why h = absurd why
third_refused kernel spec cert inputs (OfCnf f) reads why h = absurd why
third_refused kernel spec cert inputs (OfCall f) reads why h = absurd why
third_refused kernel spec cert inputs Write reads why h = absurd why
