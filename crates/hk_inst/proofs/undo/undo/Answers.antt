use Rattle.hk_inst.specs.States.{asked_of}
use Rattle.hk_inst.proofs.Lengthening.{can-cut-back}
use Rattle.hk_inst.proofs.undo.undo.Goals as goal

pub cut-requires-2-clause-kept_gates : goal.cut-requires-2-clause-kept_gates
cut-requires-2-clause-kept_gates c = (can-cut-back (asked_of c.args.s.now) c.args.to c.requires c.sizes.ensures.circuit).kept_gates

pub cut-requires-2-clause-fresh_or_kept : goal.cut-requires-2-clause-fresh_or_kept
cut-requires-2-clause-fresh_or_kept c = (can-cut-back (asked_of c.args.s.now) c.args.to c.requires c.sizes.ensures.circuit).fresh_or_kept
