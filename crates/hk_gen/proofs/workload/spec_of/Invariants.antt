use Rattle.std.proofs.Common.{◌≡◌, ◌++◌}
use Rattle.hk_gen.specs.Workload.{spec_head, spec_handler, handlers}
use Rattle.hk_gen.proofs.workload.spec_of.Given as goal

abbrev pub invariant-loop-k : goal.invariant-loop-k
invariant-loop-k l = l.text.items ≡ spec_head l.n ++ handlers (spec_handler l.n) l.k
