use Rattle.std.proofs.Common.{◌≡◌, [], take}
use Rattle.std.specs.List.{All}
use Rattle.hk_term.specs.Meaning.{Reading}
use Rattle.hk_inst.specs.Inputs.{number_in}
use Rattle.hk_inst.specs.States.{asked_of}
use Rattle.hk_inst.specs.Violations.{IsViolated, AgreesWithFirst}
use Rattle.hk_inst.proofs.clash.clashes.Given as goal

abbrev pub invariant-loop-k : goal.invariant-loop-k
invariant-loop-k l = record {
  found : (r : Reading) → All (IsViolated (asked_of l.s) (number_in l.s.bits l.values) r) l.found;
  none : l.found ≡ [] → All (AgreesWithFirst l.s.terms (number_in l.s.bits l.values) l.s.reads.items) (take l.k l.reads);
}
