use Rattle.spec_tree.specs.View.{view_spec}
use Rattle.spec_tree.proofs.Keeping.{kernel_has}
use Rattle.spec_state.proofs.Points.{kernel_fits, begun_stands}
use Rattle.spec_state.proofs.fields.field_in.Goals as goal

pub put_names-requires-clause-stands : goal.put_names-requires-clause-stands
put_names-requires-clause-stands c =
    begun_stands _ _ c.new-frame.ensures (kernel_has (view_spec c.args.spec.now) c.requires.spec) (kernel_fits (view_spec c.args.spec.now) c.args.memory.now c.requires.memory)
