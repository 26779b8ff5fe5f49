use Rattle.std.proofs.Common.{◌∙◌, subst}
use Rattle.hk_gen.specs.Workload.{spec_text}
use Rattle.hk_verify.specs.Inputs.{ReadsTo}
use Rattle.hk_verify.proofs.benchmark.workload.Goals as goal

pub returns-in-Ok-clause-read : goal.returns-in-Ok-clause-read
returns-in-Ok-clause-read c =
    subst (λ kernel. ReadsTo kernel (spec_text c.args.n) c.read_generated.result) (c.deref.ensures.value ∙ c.in-Ok.ensures.kernel)
    (subst (λ spec. ReadsTo c.deref.result.now spec c.read_generated.result) (c.deref-in-Ok.ensures.value ∙ c.in-Ok.ensures.spec) c.read_generated.ensures.read)
