use Rattle.std.proofs.Common.{◌≡◌, drop}
use Rattle.ir_lex.specs.Cut.{cuts_of}
use Rattle.ir_read.specs.Ahead.{begins_unlabelled}
use Rattle.ir_read.proofs.ahead.begins_unlabelled.Given as goal

abbrev pub invariant-loop-item : goal.invariant-loop-item
invariant-loop-item l = begins_unlabelled (cuts_of (drop l.item-index l.items)) ≡ begins_unlabelled (cuts_of l.items)
