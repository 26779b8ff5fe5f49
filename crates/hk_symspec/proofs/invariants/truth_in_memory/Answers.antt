use Rattle.std.proofs.Common.{lit≤}
use Rattle.spec_tree.specs.Sorted.{over_kernel}
use Rattle.spec_tree.specs.View.{view_spec}
use Rattle.spec_tree.proofs.Keeping.{kernel_has}
use Rattle.hk_symspec.proofs.NameLaws.{begun_formula, kernel_reads}
use Rattle.hk_symspec.proofs.invariants.truth_in_memory.Goals as goal

pub body_term-requires-clause-formula : goal.body_term-requires-clause-formula
body_term-requires-clause-formula g c =
    begun_formula (over_kernel (view_spec c.args.spec.now)) 4294967295 c.args.t.now 65536 (lit≤ tt)
    (kernel_has (view_spec c.args.spec.now) c.requires.spec).fields c.objects_are_small-objects.ensures

pub returns-clause-value : goal.returns-clause-value
returns-clause-value g c = λ v steady.
    c.in_ok-made.ensures.value v _ (kernel_reads (view_spec c.args.spec.now) c.args.t.now c.args.memory.now 65536 v c.requires.memory steady)
