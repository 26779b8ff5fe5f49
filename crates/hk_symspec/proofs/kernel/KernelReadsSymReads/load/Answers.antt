use Rattle.std.proofs.Common.{◌∙◌, sym, subst, ℕ, ◌<◌}
use Rattle.spec_tree.specs.View.{view_spec}
use Rattle.hk_symspec.proofs.Bytes.{load_is, width_of_power, origins_count}
use Rattle.hk_symspec.proofs.kernel.KernelReadsSymReads.load.Goals as goal

pub read-requires-clause-object : goal.read-requires-clause-object
read-requires-clause-object g c =
    let P : ℕ → Type 0 = λ n. c.args.object < n in
    subst P (sym (origins_count (view_spec c.args.self.now.spec.now) c.args.t.now c.args.self.now.memory.now c.requires.over)) c.requires.object

pub read-requires-clause-bytes : goal.read-requires-clause-bytes
read-requires-clause-bytes g c = width_of_power c.args.bytes c.requires.bytes.0 c.requires.bytes.1 c.requires.bytes.2

pub returns-clause-value : goal.returns-clause-value
returns-clause-value g c = λ h v m l. c.in_ok-made.ensures.value v l ∙ load_is _ _ _
