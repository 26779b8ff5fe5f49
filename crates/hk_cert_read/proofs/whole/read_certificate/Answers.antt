use Rattle.std.proofs.Common.{sym, ◌∙◌}
use Rattle.ir_ast.specs.ProgramView.{view_module}
use Rattle.ir_kernel.proofs.InitLaws.{inits_fit}
use Rattle.hk_cert_read.proofs.whole.read_certificate.Goals as goal

pub returns : goal.returns
returns c = λ l laid.
    let fit = inits_fit (view_module c.args.kernel.now) c.checked-checked.ensures.facts in
    c.all_of.ensures l laid (c.in_ok-initial.ensures.bytes ∙ c.layout.ensures.bytes fit ∙ sym (laid.bytes fit))
