use Rattle.std.proofs.Common.{◌≡◌, true}
use Rattle.spec_tree.specs.Sorted.{reads, over_kernel}
use Rattle.spec_tree.specs.Plain.{Spec}
use Rattle.spec_tree.specs.View.{view_spec}
use Rattle.spec_tree.specs.declared.expr.StateName.{StateName}
use Rattle.spec_tree.specs.declared.expr.StateName.TheVariants.{Old, New}
use Rattle.hk_symspec.proofs.kernel.KernelReadsSymReads.entry.Goals as goal

-- a specification's kernel has no state
no_state : (s : Spec) (name : StateName) → reads (over_kernel s) name ≡ true → ⊥
no_state s Old h = cc
no_state s New h = cc

pub returns-clause-value : goal.returns-clause-value
returns-clause-value g c = λ h. absurd (no_state (view_spec c.args.self.now.spec.now) c.args._name h)
