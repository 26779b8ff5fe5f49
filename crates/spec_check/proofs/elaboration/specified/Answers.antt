use Rattle.spec_ast.specs.View.{view_lines}
use Rattle.spec_kernel.specs.Seen.{kernel_in}
use Rattle.spec_tree.specs.View.{view_spec}
use Rattle.spec_lines.specs.MadeView.{view_made}
use Rattle.spec_check.proofs.Ending.{within_by}
use Rattle.spec_check.proofs.elaboration.specified.Goals as goal

pub returns-in-Ok-whole-clause-within : goal.returns-in-Ok-whole-clause-within
returns-in-Ok-whole-clause-within c =
    within_by (kernel_in c.args.kernel.now) (view_lines c.args.lines.now) (view_made c.in-Ok.judged.made) c.in-Ok.judged.count
    (view_spec c.in-Ok-whole.spec) c.in-Ok.ensures.made c.in-Ok-whole.ensures.within
