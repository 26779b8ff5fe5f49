use Rattle.hk_inst.proofs.state.require.Goals as goal

pub require-done-requires : goal.require-done-requires
require-done-requires c = c.in-Some.ensures.within c.requires.table.0 c.args.gates.now c.requires.table.1
