use Rattle.ir_ast.specs.ProgramView.{view_module}
use Rattle.spec_tree.specs.View.{view_spec}
use Rattle.hk_symspec_tests.proofs.Grounds.{kernel_over}
use Rattle.hk_symspec_tests.proofs.ground.start.Goals as goal

pub returns : goal.returns
returns g c =
    kernel_over (view_module c.args.kernel.now) (view_spec c.args.spec.now) c.args.layout.now c.in_ok-memory.memory
    c.requires.fits c.requires.layout c.in_ok-look_at_objects.ensures c.in_ok-memory.ensures.layout c.in_ok-memory.ensures.over
