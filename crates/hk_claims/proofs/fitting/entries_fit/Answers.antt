use Rattle.std.proofs.Common.{◌<◌, sym, subst, ◌∙◌}
use Rattle.std.specs.Prelude.{All}
use Rattle.ir_ast.specs.ProgramView.{view_module}
use Rattle.ir_kernel.proofs.InitLaws.{inits_fit}
use Rattle.hk_claims.proofs.fitting.entries_fit.Goals as goal

-- the objects of every layout of the kernel have its initial bytes
pub returns : goal.returns
returns c = λ l s text entries laid read.
    let m = view_module c.args.kernel.now in
    c.what_is_read_fits.ensures.fit m l s text entries laid
    (subst (All (All (λ b. b < 256))) (c.in_ok-initial.ensures ∙ sym (laid.bytes (inits_fit m c.checked-checked.ensures.facts))) c.hold_bytes.ensures) read
