use Rattle.std.proofs.Common.{sym, subst}
use Rattle.hk_term.specs.Meaning.{reading_of}
use Rattle.ir_ast.specs.ProgramView.{view_module}
use Rattle.spec_tree.specs.Shapes.{IsMemory}
use Rattle.spec_tree.specs.View.{view_spec}
use Rattle.hk_symspec_tests.proofs.Grounds.{start_held}
use Rattle.hk_symspec_tests.proofs.ground.memory_at.Goals as goal

pub returns : goal.returns
returns g c =
    subst (IsMemory (view_spec c.args.spec.now).objects) (sym c.in_ok-memory.ensures.memory)
    (start_held (view_module c.args.kernel.now) (view_spec c.args.spec.now) c.args.layout.now (g.R.InitialReads.origins c.args.reads.now) (reading_of c.args.v.now)
    c.requires.fits c.requires.layout c.in_ok-look_at_objects.ensures c.requires.origins)
