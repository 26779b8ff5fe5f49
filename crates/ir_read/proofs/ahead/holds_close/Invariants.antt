use Rattle.std.proofs.Common.{◌≡◌, drop}
use Rattle.ir_lex.specs.Cut.{cuts_of}
use Rattle.ir_read.specs.Ahead.{holds_close}
use Rattle.ir_read.proofs.ahead.holds_close.Given as goal

abbrev pub invariant-loop-item : goal.invariant-loop-item
invariant-loop-item l = holds_close (cuts_of (drop l.item-index l.items)) ≡ holds_close (cuts_of l.items)
