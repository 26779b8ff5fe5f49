use Rattle.std.proofs.Common.{◌≡◌, ◌++◌}
use Rattle.hk_cert.specs.States.{zeros}
use Rattle.hk_cert.proofs.states.pad.Given as goal

abbrev pub invariant-loop-k : goal.invariant-loop-k
invariant-loop-k l = l.bytes.items ≡ l.initial.bytes.items ++ zeros l._k
