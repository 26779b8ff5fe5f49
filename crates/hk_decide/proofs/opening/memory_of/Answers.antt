use Rattle.ir_ast.specs.ProgramView.{view_module}
use Rattle.ir_kernel.proofs.InitLaws.{inits_fit}
use Rattle.spec_tree.specs.View.{view_spec}
use Rattle.hk_decide.proofs.Openings.{begins}
use Rattle.hk_decide.proofs.opening.memory_of.Goals as goal

pub returns-clause-initial : goal.returns-clause-initial
returns-clause-initial c = c.in_ok-memory.ensures.initial (view_module c.args.kernel.now) c.layout-layout.ensures (inits_fit (view_module c.args.kernel.now) c.checked-checked.ensures.facts)

pub returns-clause-sized : goal.returns-clause-sized
returns-clause-sized c =
    begins (view_module c.args.kernel.now) (view_spec c.args.spec.now) c.layout-layout.result.now c.in_ok-memory.memory c.requires.fits c.layout-layout.ensures c.in_ok-memory.ensures.bytes c.holds_bytes.ensures
